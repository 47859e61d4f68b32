-- What direct mapping is, told of what a tier holds and gives out.
use Rattle.std.specs.Prelude.{◌≡◌, ℕ, ◌%◌, true, is_some, Some, None, ◌≢◌}
use Rattle.std.specs.Option.{option_map}
use Rattle.device.specs.Device.{after}
use Rattle.parts.specs.declared.mark.Mark.{Mark}
use Rattle.parts.specs.declared.line.Line.{Line}
use Rattle.tier.specs.Meaning.{TierMeaning, touch, held_of, out_of}
use Rattle.tier.specs.OneLevel.{OneLevel}

pub record DirectMapped (lines : ℕ) (m : TierMeaning) : Type 0 where
  pub one_level : OneLevel m
  -- a line holds one block
  pub alone : (a b : ℕ) → is_some (held_of m a) ≡ true → is_some (held_of m b) ≡ true → a % lines ≡ b % lines → a ≡ b
  -- a put gives out the block that its line holds, and nothing if that is free
  pub ousted : (n : ℕ) (k : Mark) (s b : ℕ) → is_some (held_of m b) ≡ true → b % lines ≡ n % lines → option_map (λ (g : Line). g.block) (out_of m n k s) ≡ Some b
  pub spared : (n : ℕ) (k : Mark) (s : ℕ) → ((b : ℕ) → is_some (held_of m b) ≡ true → b % lines ≢ n % lines) → out_of m n k s ≡ None
  -- touch is ignored
  pub untouched : (n : ℕ) → after m (touch n) ≡ m
