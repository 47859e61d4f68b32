-- What a constructor of a tier answers.
use Rattle.std.specs.Prelude.{◌≡◌, ℕ, Bool, true, false, cond, Some, None, Ok, Err, Result, nat_lt}
use Rattle.parts.specs.declared.refusal.BuildError.{BuildError}
use Rattle.parts.specs.declared.refusal.BuildError.TheVariants.{BadSize, NoMemory}
use Rattle.tier.specs.Meaning.{TierMeaning}

-- n is from low to high
abbrev pub within : ℕ → ℕ → ℕ → Bool
within low high n = cond (nat_lt n low) false (cond (nat_lt high n) false true)

-- what is asked of a constructor: whether the sizes are in range, the tier of those sizes, and the tier of one line
pub record Asked : Type 0 where
  pub fits : Bool
  pub tier : TierMeaning
  pub least : TierMeaning

-- what the answer r tells: of sizes in range the tier that is asked for, or that there was no memory for it; of any others alone
-- refusal 12, with the tier of one line if there was memory for that
abbrev pub Builds : {X : Type 0} → (X → TierMeaning) → Result X (BuildError X) → Asked → Type 0
Builds meaning (Ok t) a = (a.fits ≡ true) × (meaning t ≡ a.tier)
Builds meaning (Err NoMemory) a = a.fits ≡ true
Builds meaning (Err (BadSize (Some t))) a = (a.fits ≡ false) × (meaning t ≡ a.least)
Builds meaning (Err (BadSize None)) a = a.fits ≡ false
