-- What the calls of a pile's lower part come to.
use Rattle.std.proofs.Common.{◌≡◌, ℕ, Ok, Err, Option, Result, ap, ◌∙◌}
use Rattle.parts.specs.declared.mark.Mark.{Mark}
use Rattle.parts.specs.declared.line.Line.{Line}
use Rattle.parts.specs.declared.refusal.Refusal.{Refusal}
use Rattle.parts.specs.declared.refusal.Refusal.TheVariants.{AlreadyHeld}
use Rattle.tier.specs.Meaning.{TierMeaning, out_of, if_held, put_answer, Lawful}
use Rattle.tier.specs.Pile.{freed}
use Rattle.tier.specs.PileLaws.{freed-gone}

-- the put of a block that was taken out, if it was there, is not refused
pub put-freed : (m m' : TierMeaning) (n : ℕ) (k : Mark) (s : ℕ) (r : Result (Option Line) Refusal)
    → Lawful m → m' ≡ freed m n → r ≡ put_answer m' n k s → r ≡ Ok (out_of (freed m n) n k s)
put-freed m m' n k s r h e q =
    q ∙ ap (λ i. put_answer i n k s) e ∙ ap (λ o. if_held o (Err AlreadyHeld) (Ok (out_of (freed m n) n k s))) (freed-gone m h n)
