-- What it is that the choice moves on, told of what a tier of two lines holds.
use Rattle.std.specs.Prelude.{◌≡◌, ◌≢◌, ℕ, true, is_some, Some, None, Option}
use Rattle.std.specs.Option.{option_map}
use Rattle.device.specs.Device.{after}
use Rattle.parts.specs.declared.mark.Mark.{Mark}
use Rattle.parts.specs.declared.line.Line.{Line}
use Rattle.tier.specs.Meaning.{TierMeaning, TierCall, held_of, out_of}
use Rattle.tier.specs.OneLevel.{OneLevel}

abbrev pub Held : TierMeaning → ℕ → Type 0
Held m n = is_some (held_of m n) ≡ true

-- the block that a put would give out
abbrev pub leaving : TierMeaning → ℕ → Mark → ℕ → Option ℕ
leaving m n k s = option_map (λ (g : Line). g.block) (out_of m n k s)

pub record MovesOn (m : TierMeaning) : Type 0 where
  pub one_level : OneLevel m
  -- nothing leaves while no more than one block is held
  pub room : (n : ℕ) (k : Mark) (s b : ℕ) → ((a : ℕ) → Held m a → a ≡ b) → out_of m n k s ≡ None
  -- of two blocks that are held one leaves
  pub full : (n : ℕ) (k : Mark) (s a b : ℕ) → a ≢ b → Held m a → Held m b → leaving m n k s ≢ Some a → leaving m n k s ≡ Some b
  -- and it is the other one after any call that leaves both held
  pub moves : (c : TierCall) (n : ℕ) (k : Mark) (s a b : ℕ) → a ≢ b → Held m a → Held m b → Held (after m c) a → Held (after m c) b
      → leaving m n k s ≡ Some a → leaving (after m c) n k s ≡ Some b
