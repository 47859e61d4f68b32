-- A row of one core: core 0 is that core, and no other is there.
use Rattle.std.proofs.Common.{◌≡◌, ◌≢◌, ℕ, zero, suc, Bool, true, false, cond, eqb, ltb, [], ◌∷◌, Some, None, Option, refl, ap}
use Rattle.parts.specs.declared.mark.Mark.{Mark}
use Rattle.parts.specs.Marks.{mark_of}
use Rattle.moves.specs.Moves.{put_back_out}
use Rattle.row.specs.declared.operation.Operation.{Operation}
use Rattle.row.specs.declared.operation.Operation.TheVariants.{BringUp, Put, Change}
use Rattle.row.specs.Cores.{CoreMeaning, absent, core_at, place, operated_out}

same : {A : Type 0} (b : Bool) (a : A) → cond b a a ≡ a
same true a = refl
same false a = refl

pub core_at-zero : (x : CoreMeaning) (c : ℕ) → c ≡ 0 → core_at (x ∷ []) c ≡ x
unfolding core_at
core_at-zero x c e = ap (core_at (x ∷ [])) e

pub core_at-other : (x : CoreMeaning) (c : ℕ) → c ≢ 0 → core_at (x ∷ []) c ≡ absent
unfolding core_at
core_at-other x zero ne = absurd (ne refl)
core_at-other x (suc c) ne = same (ltb (suc c) 8) absent

pub place-zero : (x y : CoreMeaning) (c : ℕ) → c ≡ 0 → place (x ∷ []) c y ≡ y ∷ []
unfolding place
place-zero x y c e = ap (λ (i : ℕ). place (x ∷ []) i y) e

pub place-other : (x y : CoreMeaning) (c : ℕ) → c ≢ 0 → place (x ∷ []) c y ≡ x ∷ []
unfolding place
place-other x y zero ne = absurd (ne refl)
place-other x y (suc c) ne = same (ltb (suc c) 8) (x ∷ [])

-- a core that is not there gives out nothing
no_put-back : (n : ℕ) (k : Option Mark) (s : ℕ) → None ≡ put_back_out absent.tier n k s
unfolding absent
no_put-back n None s = refl
no_put-back n (Some k) s = refl

not_raised : (b : Bool) (n : ℕ) (k : Option Mark) (s : ℕ) → None ≡ cond b None (put_back_out absent.tier n k s)
not_raised true n k s = refl
not_raised false n k s = no_put-back n k s

pub nothing_out : (o : Operation) → None ≡ operated_out absent.tier o
unfolding absent
nothing_out (BringUp n h) = not_raised (eqb h.2 1) n (mark_of h.0) h.1
nothing_out (Put g) = refl
nothing_out (Change g) = refl

-- what the calls of a row of one core come to
pub ruleset of_one = (core_at-zero, core_at-other, place-zero, place-other, nothing_out)
