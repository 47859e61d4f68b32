-- The laws of a tier speak of what is held alone. So a kind whose choice of what leaves moves on with every call is a tier like any
-- other: it is lawful, it piles, and what is warranted of every study is warranted over it.
use Rattle.std.specs.Prelude.{◌≡◌, ◌≢◌, ℕ, List, [], ◌∷◌, Some}
use Rattle.device.specs.Device.{after, reach}
use Rattle.parts.specs.declared.mark.Mark.TheVariants.{Shared}
use Rattle.tier.specs.Meaning.{TierMeaning, TierCall, take, line, held_of, Lawful as LawfulTier}
use Rattle.tier.specs.Pile.{pile}
use Rattle.memory.specs.declared.cell.Cell.{Cell}
use Rattle.memory.specs.Flat.{flat}
use Rattle.protocol.specs.declared.access.CoreState.TheVariants.{Ready}
use Rattle.row.specs.Cores.{CoreMeaning, core}
use Rattle.study.specs.Warrant.{Warranted}
use Rattle.examples.specs.FreeRunning.{free_running, cleared}
use Rattle.examples.specs.Nine.{weights}
use Rattle.examples.specs.Examples.{gives_out, puts}

abbrev pub free : TierMeaning
free = free_running cleared

-- a core whose upper tier is of this kind, and one whose lower tier is
abbrev pub cores_with : TierMeaning → List CoreMeaning
cores_with t = core (pile free t) Ready ∷ core (pile t free) Ready ∷ []

-- both lines are taken
abbrev pub full : List TierCall
full = puts 0 ∷ puts 1 ∷ []

-- the call alters nothing that m holds
abbrev pub SameHeld : TierMeaning → TierCall → Type 0
SameHeld m c = (n : ℕ) → held_of (after m c) n ≡ held_of m n

pub record FreeRuns : Type 0 where
  -- it is a tier, and so is it on any lawful tier, and any lawful tier on it
  pub lawful : LawfulTier free
  pub above : (t : TierMeaning) → LawfulTier t → LawfulTier (pile free t)
  pub below : (t : TierMeaning) → LawfulTier t → LawfulTier (pile t free)
  -- two cores with such piles, over any table that is lent
  pub warranted : (t : TierMeaning) → LawfulTier t → (a : ℕ) (cells : List Cell) → Warranted (cores_with t) (flat a cells) weights
  -- a full one gives out block 0. After a put that was refused, and after a take that found nothing, it holds the same and gives out 1
  pub gives : gives_out free full 2 ≡ Some (line 0 Shared 0)
  pub refused_held : SameHeld (reach free full) (puts 0)
  pub refused_gives : gives_out free (puts 0 ∷ puts 1 ∷ puts 0 ∷ []) 2 ≡ Some (line 1 Shared 1)
  pub missed_held : SameHeld (reach free full) (take 2)
  pub missed_gives : gives_out free (puts 0 ∷ puts 1 ∷ take 2 ∷ []) 2 ≡ Some (line 1 Shared 1)
  -- so either call leaves another device: a law that it be the same would shut this kind out
  pub refused_moves : after (reach free full) (puts 0) ≢ reach free full
  pub missed_moves : after (reach free full) (take 2) ≢ reach free full
