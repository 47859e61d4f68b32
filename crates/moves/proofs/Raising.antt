-- A held block that is brought up is held at level 1, with the mark and stamp it had.
use Rattle.std.proofs.Common.{◌≡◌, ℕ, zero, suc, ◌≤◌, Bool, true, false, cond, eqb, [], ◌∷◌, Some, sym, refl, ap, ◌∙◌, subst, arith}
use Rattle.std.proofs.lemmas.Bool.{eqb-true}
use Rattle.device.specs.Device.{after}
use Rattle.parts.specs.declared.mark.Mark.{Mark}
use Rattle.parts.specs.Marks.{mark_number, mark_of}
use Rattle.tier.specs.Meaning.{TierMeaning, put, take, touch, Holding, look_of, Lawful}
use Rattle.moves.specs.Moves.{put_back, raised}

-- a mark's number tells the mark
pub mark_of_number : (i : ℕ) → i ≤ 1 → (k : Mark) × (mark_of i ≡ Some k) × (mark_number k ≡ i)
mark_of_number zero h = (_, refl, refl)
mark_of_number (suc zero) h = (_, refl, refl)
mark_of_number (suc (suc i)) h = absurd (omega arith)

pub raised_look : (t : TierMeaning) → Lawful t → (n : ℕ) (h : Holding) → look_of t n ≡ Some h → look_of (raised t n h) n ≡ Some (h.0, h.1, 1)
raised_look t ok n h e = go (eqb h.2 1) refl
  where
    marked : (k : Mark) × (mark_of h.0 ≡ Some k) × (mark_number k ≡ h.0)
    marked = mark_of_number h.0 ((ok []).marks n h e)

    again : (k : Mark) → mark_number k ≡ h.0 → look_of (after (after t (take n)) (put n k h.1)) n ≡ Some (h.0, h.1, 1)
    again k is = (ok (take n ∷ [])).put_in n k h.1 ((ok []).take_gone n) ∙ ap (λ i. Some (i, h.1, 1)) is

    go : (b : Bool) → eqb h.2 1 ≡ b → look_of (cond b (after t (touch n)) (put_back t n (mark_of h.0) h.1)) n ≡ Some (h.0, h.1, 1)
    go true q = (ok []).touch_look n n ∙ e ∙ ap (λ l. Some (h.0, h.1, l)) (eqb-true h.2 1 q)
    go false q = subst (λ o. look_of (put_back t n o h.1) n ≡ Some (h.0, h.1, 1)) (sym marked.1) (again marked.0 marked.2)
