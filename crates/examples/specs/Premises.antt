-- Nothing that is warranted is empty: the tiers, the memories and the machine that are shipped meet the premises.
use Rattle.std.specs.Prelude.{◌≡◌, ℕ, ◌≤◌, Bool, List, [], length, Ok}
use Rattle.tier.specs.Meaning.{TierMeaning, Lawful as LawfulTier}
use Rattle.tier.specs.Pile.{pile}
use Rattle.direct.specs.Lines.{direct, empty}
use Rattle.ranks.specs.Ranks.{ranked}
use Rattle.assoc.specs.Sets.{set_associative, empty as empty-sets}
use Rattle.memory.specs.declared.cell.Cell.{Cell}
use Rattle.memory.specs.Meaning.{MemoryMeaning, Lawful as LawfulMemory}
use Rattle.memory.specs.Flat.{flat}
use Rattle.window.specs.Window.{window}
use Rattle.interleaved.specs.Interleaved.{interleaved}
use Rattle.row.specs.Cores.{count_of, AllLawful}
use Rattle.machine.specs.Machine.{two_cores}
use Rattle.study.specs.Opening.{opened, opening}
use Rattle.protocol.specs.declared.weights.Prices.{Prices}
use Rattle.protocol.specs.Prices.{Affordable}
use Rattle.study.specs.Warrant.{Warranted}
use Rattle.examples.specs.Nine.{weights}

pub record Premises : Type 0 where
  -- the tiers as they are made, and every pile of lawful tiers
  pub direct_tier : (l : ℕ) → 1 ≤ l → l ≤ 64 → LawfulTier (direct (empty l))
  -- a queue, and a set that gives out the least recently used
  pub ranked_tier : (lru : Bool) (l : ℕ) → 1 ≤ l → l ≤ 16 → LawfulTier (ranked lru l [])
  pub set_tier : (s w : ℕ) → 1 ≤ s → s ≤ 16 → 1 ≤ w → w ≤ 4 → LawfulTier (set_associative (empty-sets s w))
  pub piled : (u l : TierMeaning) → LawfulTier u → LawfulTier l → LawfulTier (pile u l)
  -- a memory over any table that was lent under any name, and what is put over lawful memories
  pub table : (a : ℕ) (t : List Cell) → LawfulMemory (flat a t)
  pub windowed : (s l : ℕ) (m : MemoryMeaning) → LawfulMemory m → LawfulMemory (window s l m)
  pub in_turn : (m o : MemoryMeaning) → LawfulMemory m → LawfulMemory o → LawfulMemory (interleaved m o)
  -- the machine, and the weights of the nine calls; over a table of 1 to 4,096 cells a study on it opens, whatever its weights;
  -- and all that is warranted of it, whatever weights it is given that weighing takes
  pub cores_lawful : AllLawful two_cores
  pub cores_few : count_of two_cores ≤ 8
  pub fair : Affordable weights
  pub opens : (w : Prices) (a : ℕ) (t : List Cell) → 1 ≤ length t → length t ≤ 4096 → opening two_cores (flat a t) w ≡ Ok (opened two_cores (flat a t) w)
  pub machine : (w : Prices) → Affordable w → (a : ℕ) (t : List Cell) → Warranted two_cores (flat a t) w
