-- What holds of the tier that is asked for holds of the tier that is built.
use Rattle.std.proofs.Common.{◌≡◌, ℕ, ◌≤◌, true, IfOk, Ok, Err, Result, sym, subst, arith}
use Rattle.std.proofs.lemmas.Bool.Decides.{nat_tests}
use Rattle.parts.specs.declared.refusal.BuildError.{BuildError}
use Rattle.tier.specs.Meaning.{TierMeaning}
use Rattle.tier.specs.Building.{within, Asked, Builds}

module _ {X : Type 0} (meaning : X → TierMeaning) (P : TierMeaning → Type 0) where
  pub builds_made : (a : Asked) (r : Result X (BuildError X)) → Builds meaning r a → (a.fits ≡ true → P a.tier) → IfOk r (λ t. P (meaning t))
  builds_made a (Ok t) e h = subst P (sym e.1) (h e.0)
  builds_made a (Err x) e h = tt

pub within_low : (low high n : ℕ) → within low high n ≡ true → low ≤ n
within_low low high n h = grind (arith, nat_tests)
