-- The questions that are put to an opening and to a step, in the order of the numbers of their refusals, and when each is answered
-- by yes.
use Rattle.std.specs.Prelude.{◌≡◌, ℕ, ◌<◌, ◌≤◌, ◌≢◌, List, length, Some, Ok, Err, Result}
use Rattle.parts.specs.declared.mark.Mark.TheVariants.{Modified}
use Rattle.memory.specs.Meaning.{MemoryMeaning, size_of}
use Rattle.protocol.specs.declared.access.Access.{Access}
use Rattle.protocol.specs.declared.access.CoreState.{CoreState}
use Rattle.protocol.specs.declared.access.CoreState.TheVariants.{Ready, Waiting, Due}
use Rattle.protocol.specs.declared.call.Call.{Call}
use Rattle.protocol.specs.declared.call.Call.TheVariants.{Read, Write, Fetch, Resume, Flush, Commit}
use Rattle.protocol.specs.declared.refusal.Refusal.{Refusal}
use Rattle.protocol.specs.declared.refusal.Refusal.TheVariants.{TooManyCores, NoBlocks, TooManySteps, NoSuchCore, NoSuchBlock, WrongState, StaleBlock, NotOwed}
use Rattle.protocol.specs.declared.weights.Prices.{Prices}
use Rattle.protocol.specs.Accesses.{block_of}
use Rattle.protocol.specs.Calls.{core_of}
use Rattle.protocol.specs.Refusals.{refusal_number}
use Rattle.row.specs.Cores.{CoreMeaning, state_at}
use Rattle.study.specs.Run.{RunMeaning}
use Rattle.study.specs.Step.{valid}
use Rattle.study.specs.Opening.{opened}
use Rattle.study.specs.Coherence.{Holds}

-- the memory has the block that the call names, if it names one
abbrev pub InMemory : Call → MemoryMeaning → Type 0
InMemory (Read c n) m = n < size_of m
InMemory (Write c n) m = n < size_of m
InMemory (Flush c n) m = n < size_of m
InMemory (Commit c n) m = n < size_of m
InMemory _ m = Unit {0}

-- the state that the call is for; a flush is for any
abbrev pub Fits : Call → CoreState → Type 0
Fits (Fetch c) s = (a : Access) × (s ≡ Waiting a)
Fits (Resume c) s = (a : Access) × (s ≡ Due a)
Fits (Flush c n) s = Unit {0}
Fits _ s = s ≡ Ready

-- core c can fetch: it waits, and memory has its block valid
pub record CanFetch (c : ℕ) (r : RunMeaning) : Type 0 where
  pub wanted : Access
  pub waits : state_at r.cores c ≡ Waiting wanted
  pub stamp : ℕ
  pub stored : valid r.memory (block_of wanted) ≡ Some stamp

-- a core other than c waits for block n; one that is due does not
pub record Wanted (c n : ℕ) (cs : List CoreMeaning) : Type 0 where
  pub core : ℕ
  pub other : core ≢ c
  pub wanted : Access
  pub waits : state_at cs core ≡ Waiting wanted
  pub block : block_of wanted ≡ n

-- core c owes a flush of block n: it holds the block modified, and another core waits for it
pub record Owes (c n : ℕ) (cs : List CoreMeaning) : Type 0 where
  pub stamp : ℕ
  pub held : Holds cs c n Modified stamp
  pub wanted : Wanted c n cs

-- the question that a refusal says no to is answered by yes: is there room for a step, is there such a core, is there such a block,
-- is the core in the state, can a fetch be made, is a flush owed; no other is put to a step
abbrev pub Yes : Refusal → Call → RunMeaning → Type 0
Yes TooManySteps k r = r.tally.steps < 1000000
Yes NoSuchCore k r = core_of k < length r.cores
Yes NoSuchBlock k r = InMemory k r.memory
Yes WrongState k r = Fits k (state_at r.cores (core_of k))
Yes StaleBlock (Fetch c) r = CanFetch c r
Yes NotOwed (Flush c n) r = Owes c n r.cores
Yes _ k r = Unit {0}

-- a call is accepted where every question is answered by yes
abbrev pub Allowed : Call → RunMeaning → Type 0
Allowed k r = (e : Refusal) → Yes e k r

-- and refused where its question is answered by no, and each with a lower number by yes
pub record Because (k : Call) (r : RunMeaning) (e : Refusal) : Type 0 where
  pub no : Yes e k r → ⊥
  pub before : (d : Refusal) → refusal_number d < refusal_number e → Yes d k r

-- the question of an opening that a refusal says no to is answered by yes: has the row at most eight cores, has the memory a block;
-- no other is put to an opening
abbrev pub OpeningYes : Refusal → List CoreMeaning → MemoryMeaning → Type 0
OpeningYes TooManyCores cs m = length cs ≤ 8
OpeningYes NoBlocks cs m = 0 < size_of m
OpeningYes _ cs m = Unit {0}

-- a draft is not opened where a question is answered by no, and each with a lower number by yes
pub record Unopened (cs : List CoreMeaning) (m : MemoryMeaning) (e : Refusal) : Type 0 where
  pub no : OpeningYes e cs m → ⊥
  pub before : (d : Refusal) → refusal_number d < refusal_number e → OpeningYes d cs m

-- where every question is answered by yes it is opened, with these weights
abbrev pub OpeningTold : List CoreMeaning → MemoryMeaning → Prices → Result RunMeaning Refusal → Type 0
OpeningTold cs m w (Ok r) = ((e : Refusal) → OpeningYes e cs m) × (r ≡ opened cs m w)
OpeningTold cs m w (Err e) = Unopened cs m e
