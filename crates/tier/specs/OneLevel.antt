-- That a tier has one level.
use Rattle.std.specs.Prelude.{◌≡◌, ℕ, Some}
use Rattle.tier.specs.Meaning.{TierMeaning, Holding, depth_of, held_of}

-- all that it holds is at level 1
pub record OneLevel (m : TierMeaning) : Type 0 where
  pub depth : depth_of m ≡ 1
  pub level : (n : ℕ) (h : Holding) → held_of m n ≡ Some h → h.2 ≡ 1
