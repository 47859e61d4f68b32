-- The copies that a tier holds after a put, after a block is brought up, and after a change.
use Rattle.std.proofs.Common.{◌≡◌, ℕ, Bool, true, false, cond, eqb, ◌≢◌, [], ◌∷◌, Some, None, Ok, Err, Option, sym, refl, ap, ◌∙◌, subst, arith}
use native.Mathlib.Decide.{ℕ_discrete}
use Rattle.device.specs.Device.{after}
use Rattle.parts.specs.declared.mark.Mark.{Mark}
use Rattle.parts.specs.declared.line.Line.{Line}
use Rattle.parts.specs.declared.refusal.Refusal.TheVariants.{AlreadyHeld}
use Rattle.parts.specs.Marks.{mark_number, mark_of}
use Rattle.tier.specs.Meaning.{TierMeaning, TierCall, put, take, change, touch, Holding, look_of, out_of, if_held, put_answer, bare, Lawful}
use Rattle.tier.specs.Options.{never, none-some}
use Rattle.moves.specs.Moves.{given, put_back, put_back_out, raised, raised_out}
use Rattle.moves.proofs.Raising.{mark_of_number}
use Rattle.study.proofs.Block.{Copy}

-- the copy of block n
abbrev pub held : TierMeaning → ℕ → Option Copy
held t n = bare (look_of t n)

pub lawful-after : (t : TierMeaning) (c : TierCall) → Lawful t → Lawful (after t c)
lawful-after t c ok cs = ok (c ∷ cs)

-- block n, where a tier has given out o: it stays as it was, or it is the one that has left
pub data Passed (t t' : TierMeaning) (o : Option Line) (n : ℕ) : Type 0 where
  stayed : held t' n ≡ held t n → ((g : Line) → o ≡ Some g → n ≢ g.block) → Passed t t' o n
  gone : (g : Line) → o ≡ Some g → n ≡ g.block → held t g.block ≡ Some (mark_number g.mark, g.stamp) → held t' g.block ≡ None → Passed t t' o n

-- a put of a block that is not held
module _ (t : TierMeaning) (ok : Lawful t) (n : ℕ) (k : Mark) (s : ℕ) (free : look_of t n ≡ None) where
  put-out : given (put_answer t n k s) ≡ out_of t n k s
  put-out = ap (λ o. given (if_held o (Err AlreadyHeld) (Ok (out_of t n k s)))) free

  pub put_holds : held (after t (put n k s)) n ≡ Some (mark_number k, s)
  put_holds = ap bare ((ok []).put_in n k s free)

  -- it is not given out at once
  pub put-stays : (g : Line) → given (put_answer t n k s) ≡ Some g → n ≢ g.block
  put-stays g e q = none-some (held t g.block) _ (ap (held t) (sym q) ∙ ap bare free) ((ok []).out_held n k s g free (sym put-out ∙ e))

  pub put-passes : (j : ℕ) → j ≢ n → Passed t (after t (put n k s)) (given (put_answer t n k s)) j
  put-passes j ne = subst (λ o. Passed t (after t (put n k s)) o j) (sym put-out) (go (out_of t n k s) refl)
    where
      go : (o : Option Line) → out_of t n k s ≡ o → Passed t (after t (put n k s)) o j
      go None e = stayed ((ok []).put_rest n k s j free ne (λ r. let z : ◌≡◌ {A = ℕ} 0 1 = cc in omega arith)) (λ g r. never g r)
      go (Some g) e = elim (ℕ_discrete j g.block) [
        | yes q ↦ gone g refl q ((ok []).out_held n k s g free e) (ap bare ((ok []).out_gone n k s g free e))
        | no q ↦ stayed ((ok []).put_rest n k s j free ne (λ r. q (cc))) (λ g' r z. q (cc))
      ]

-- what bringing up a block does that is held as x, where o is given out
pub record Raised (t t' : TierMeaning) (o : Option Line) (n : ℕ) (x : Copy) : Type 0 where
  pub lawful : Lawful t'
  pub passed : (j : ℕ) → Passed t t' o j
  pub holds : held t' n ≡ Some x

module _ (t : TierMeaning) (ok : Lawful t) (n : ℕ) (h : Holding) (e : look_of t n ≡ Some h) where
  touched : Raised t (after t (touch n)) None n (h.0, h.1)
  touched = record {
    lawful = lawful-after t (touch n) ok;
    passed = λ j. stayed (ap bare ((ok []).touch_look n j)) (λ g r. never g r);
    holds = ap bare ((ok []).touch_look n n ∙ e);
  }

  abbrev u : TierMeaning
  u = after t (take n)

  -- taken and put in again
  module _ (k : Mark) (is : mark_number k ≡ h.0) where
    uk : Lawful u
    uk = lawful-after t (take n) ok

    free : look_of u n ≡ None
    free = (ok []).take_gone n

    abbrev t' : TierMeaning
    t' = after u (put n k h.1)

    back : held t' n ≡ Some (h.0, h.1)
    back = put_holds u uk n k h.1 free ∙ ap (λ i. Some (i, h.1)) is

    rest : (j : ℕ) → j ≢ n → held u j ≡ held t j
    rest j ne = ap bare ((ok []).take_rest n j ne)

    passes : (j : ℕ) → j ≢ n → Passed u t' (given (put_answer u n k h.1)) j → Passed t t' (given (put_answer u n k h.1)) j
    passes j ne (stayed a f) = stayed (a ∙ rest j ne) f
    passes j ne (gone g a q b c) = gone g a q (sym (rest g.block (λ r. ne (q ∙ r))) ∙ b) c

    put_again : Raised t t' (given (put_answer u n k h.1)) n (h.0, h.1)
    put_again = record {
      lawful = lawful-after u (put n k h.1) uk;
      passed = λ j. elim (ℕ_discrete j n) [
        | yes q ↦ stayed (ap (held t') q ∙ back ∙ sym (ap (held t) q ∙ ap bare e)) (λ g a r. put-stays u uk n k h.1 free g a (sym q ∙ r))
        | no ne ↦ passes j ne (put-passes u uk n k h.1 free j ne)
      ];
      holds = back;
    }

  pub raises : Raised t (raised t n h) (raised_out t n h) n (h.0, h.1)
  raises = go (eqb h.2 1)
    where
      marked : (k : Mark) × (mark_of h.0 ≡ Some k) × (mark_number k ≡ h.0)
      marked = mark_of_number h.0 ((ok []).marks n h e)

      low : Raised t (put_back t n (mark_of h.0) h.1) (put_back_out t n (mark_of h.0) h.1) n (h.0, h.1)
      low = subst (λ o. Raised t (put_back t n o h.1) (put_back_out t n o h.1) n (h.0, h.1)) (sym marked.1) (put_again marked.0 marked.2)

      go : (b : Bool) → Raised t (cond b (after t (touch n)) (put_back t n (mark_of h.0) h.1)) (cond b None (put_back_out t n (mark_of h.0) h.1)) n (h.0, h.1)
      go true = touched
      go false = low

-- a change of a block that is held
pub change-holds : (t : TierMeaning) → Lawful t → (n : ℕ) (x : Copy) → held t n ≡ Some x → (k : Mark) (s : ℕ) → held (after t (change n k s)) n ≡ Some (mark_number k, s)
change-holds t ok n x e k s = go (look_of t n) refl
  where
    go : (o : Option Holding) → look_of t n ≡ o → held (after t (change n k s)) n ≡ Some (mark_number k, s)
    go None q = none-some (held t n) x (ap bare q) e
    go (Some h) q = ap bare ((ok []).change_in n k s h q)

pub change-others : (t : TierMeaning) → Lawful t → (n : ℕ) (k : Mark) (s j : ℕ) → j ≢ n → held (after t (change n k s)) j ≡ held t j
change-others t ok n k s j ne = ap bare ((ok []).change_rest n k s j ne)
