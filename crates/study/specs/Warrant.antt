-- The warrant: what holds of every study, whatever its tiers, its memory and its schedule.
use Rattle.std.specs.Prelude.{◌≡◌, ℕ, ◌<◌, ◌≤◌, List, Some}
use Rattle.device.specs.Device.{Device, after, reach}
use Rattle.tier.specs.Meaning.{TierMeaning, clear, Lawful as LawfulTier}
use Rattle.tier.specs.Pile.{pile}
use Rattle.tier.specs.Stacked.{StaysStacked}
use Rattle.memory.specs.Meaning.{MemoryMeaning, size_of, Lawful as LawfulMemory}
use Rattle.protocol.specs.declared.access.CoreState.TheVariants.{Ready}
use Rattle.protocol.specs.declared.call.Call.{Call}
use Rattle.protocol.specs.declared.weights.Prices.{Prices}
use Rattle.protocol.specs.Prices.{Affordable}
use Rattle.row.specs.Cores.{CoreMeaning, core, most_cores, count_of, core_at, tier_at, AllLawful}
use Rattle.study.specs.Run.{RunMeaning}
use Rattle.study.specs.Step.{valid}
use Rattle.study.specs.Opening.{opened}
use Rattle.study.specs.Play.{played, history}
use Rattle.study.specs.Coherence.{Lacks, Coherent, Unmet}
use Rattle.study.specs.Told.{Tells}
use Rattle.study.specs.Decided.{Decided}
use Rattle.study.specs.Book.{new_book, HonestFrom}
use Rattle.study.specs.Report.{Reported}

-- a pile of any two tiers is a tier at every call, refused ones included; made of two cleared tiers it holds, after any calls,
-- what the upper holds and, of the rest, what the lower holds, deeper by the upper's depth
abbrev pub Piles : Type 0
Piles = (u l : TierMeaning) → LawfulTier u → LawfulTier l
    → LawfulTier (pile u l) × StaysStacked (pile (after u clear) (after l clear)) (after u clear) (after l clear)

-- some calls of the device d make d' of it
abbrev pub Becomes : {K C V : Type 0} → Device K C V → Device K C V → Type 0
Becomes {C = C} d d' = (cs : List C) × (d' ≡ reach d cs)

-- a run of a row with as many cores, of a memory with as many blocks, at these weights
pub record SameMachine (cs : List CoreMeaning) (m : MemoryMeaning) (w : Prices) (r : RunMeaning) : Type 0 where
  pub cores : count_of r.cores ≡ count_of cs
  pub blocks : size_of r.memory ≡ size_of m
  pub prices : r.prices ≡ w

-- of the study of these cores and this memory at these prices, and every list of calls from its opening on
pub record Warranted (cs : List CoreMeaning) (m : MemoryMeaning) (w : Prices) : Type 0 where
  pub piles : Piles
  -- opening clears the tier of every core, which is ready and holds nothing
  pub fresh : (c : ℕ) → core_at (opened cs m w).cores c ≡ core (after (tier_at cs c) clear) Ready
  pub empty : (c n : ℕ) → Lacks (opened cs m w).cores c n
  -- and leaves every block of the memory valid with stamp 0
  pub zeros : (n : ℕ) → n < size_of m → valid (opened cs m w).memory n ≡ Some 0
  -- no call alters how many cores and blocks there are, nor the weights
  pub machine : (ks : List Call) → SameMachine cs m w (played (opened cs m w) ks)
  pub told : (ks : List Call) (k : Call) → Tells (played (opened cs m w) ks) k
  -- what is told of a call leaves no choice
  pub decided : (ks : List Call) (k : Call) → Decided (played (opened cs m w) ks) k
  -- each core's tier is what calls of a tier have made of the one that was opened, and the memory what calls of a memory have made
  -- of the one that it was
  pub tiers : (ks : List Call) (c : ℕ) → Becomes (tier_at (opened cs m w).cores c) (tier_at (played (opened cs m w) ks).cores c)
  pub memory : (ks : List Call) → Becomes m (played (opened cs m w) ks).memory
  pub coherent : (ks : List Call) → Coherent (played (opened cs m w) ks).cores (played (opened cs m w) ks).memory
  pub unmet : (ks : List Call) → Unmet (played (opened cs m w) ks)
  pub honest : (ks : List Call) → HonestFrom new_book (history (opened cs m w) ks)
  pub reported : (ks : List Call) → Reported (opened cs m w) ks

-- for any lawful tiers, at most eight cores, and any lawful memory
abbrev pub Warrant : Type 0
Warrant = (cs : List CoreMeaning) (m : MemoryMeaning) (w : Prices) → count_of cs ≤ most_cores → AllLawful cs → LawfulMemory m → Affordable w → Warranted cs m w
