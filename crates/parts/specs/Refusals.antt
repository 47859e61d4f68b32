-- The number of each refusal of a tier, and what a constructor answers.
use Rattle.std.specs.Prelude.{ℕ, Bool, true, false, Some, None, Ok, Err, Option, Result}
use Rattle.std.specs.declared.alloc.AllocError.{AllocError}
use Rattle.parts.specs.declared.refusal.Refusal.{Refusal}
use Rattle.parts.specs.declared.refusal.Refusal.TheVariants.{AlreadyHeld, NotHeld}
use Rattle.parts.specs.declared.refusal.BuildError.{BuildError}
use Rattle.parts.specs.declared.refusal.BuildError.TheVariants.{BadSize, NoMemory}

abbrev pub refusal_number : Refusal → ℕ
refusal_number AlreadyHeld = 10
refusal_number NotHeld = 11

abbrev pub build_number : {X : Type 0} → BuildError X → Option ℕ
build_number (BadSize t) = Some 12
build_number NoMemory = None

-- the tier that was made all the same, if there was memory for it
abbrev pub tier_of : {X : Type 0} → BuildError X → Result X AllocError
tier_of (BadSize (Some t)) = Ok t
tier_of e = Err (record {})

-- what a constructor answers, of what was made: a tier of the sizes asked for if they fit, else one of one line
abbrev pub answer_of : {X : Type 0} → Bool → Result X AllocError → Result X (BuildError X)
answer_of true (Ok t) = Ok t
answer_of true (Err e) = Err NoMemory
answer_of false (Ok t) = Err (BadSize (Some t))
answer_of false (Err e) = Err (BadSize None)
