-- One step of a run.
use Rattle.std.specs.Prelude.{ℕ, ◌+◌, Bool, true, false, cond, List, Some, None, Ok, Err, Option, Result, nat_lt}
use Rattle.device.specs.Device.{after}
use Rattle.parts.specs.declared.mark.Mark.{Mark}
use Rattle.parts.specs.declared.mark.Mark.TheVariants.{Shared, Modified}
use Rattle.parts.specs.declared.line.Line.{Line}
use Rattle.tier.specs.Meaning.{Holding, look_of, line}
use Rattle.memory.specs.declared.refusal.Refusal.{Refusal as MemoryRefusal}
use Rattle.memory.specs.Meaning.{MemoryMeaning, store, stale, size_of, asked}
use Rattle.protocol.specs.declared.access.Access.{Access}
use Rattle.protocol.specs.declared.access.Access.TheVariants.{Read as ToRead, Write as ToWrite}
use Rattle.protocol.specs.declared.access.CoreState.{CoreState}
use Rattle.protocol.specs.declared.access.CoreState.TheVariants.{Ready, Waiting, Due}
use Rattle.protocol.specs.declared.answer.Answer.{Answer}
use Rattle.protocol.specs.declared.answer.Answer.TheVariants.{Waits, Brought, Read as WasRead, Wrote, Flushed, Committed}
use Rattle.protocol.specs.declared.call.Call.{Call}
use Rattle.protocol.specs.declared.call.Call.TheVariants.{Read, Write, Fetch, Resume, Flush, Commit}
use Rattle.protocol.specs.declared.refusal.Refusal.{Refusal}
use Rattle.protocol.specs.declared.refusal.Refusal.TheVariants.{TooManySteps, NoSuchCore, NoSuchBlock, WrongState, StaleBlock, NotOwed}
use Rattle.protocol.specs.declared.weights.Movement.{Movement}
use Rattle.protocol.specs.declared.weights.Movement.TheVariants.{Still, FromLevel, Memory}
use Rattle.protocol.specs.Accesses.{block_of}
use Rattle.protocol.specs.Calls.{core_of, fits_in}
use Rattle.protocol.specs.declared.weights.Prices.{Prices}
use Rattle.protocol.specs.Prices.{price}
use Rattle.moves.specs.Moves.{is_modified, modified_stamp}
use Rattle.row.specs.declared.operation.Operation.TheVariants.{BringUp, Put, Change}
use Rattle.row.specs.Cores.{CoreMeaning, count_of, tier_at, state_at, turned, operated_out, done, invalidated, met, awaited}
use Rattle.study.specs.declared.effect.Performed.{Performed}
use Rattle.study.specs.declared.effect.Performed.TheVariants.{Nothing, Read as ARead, Write as AWrite}
use Rattle.study.specs.Run.{RunMeaning, a_run, most_steps, tallied, Outcome, outcome}

-- the stamp of a block that is valid in memory
abbrev pub valid_of : Result (Option ℕ) MemoryRefusal → Option ℕ
valid_of (Ok o) = o
valid_of (Err e) = None

abbrev pub valid : MemoryMeaning → ℕ → Option ℕ
valid m n = valid_of (asked m n)

-- memory when a line has left a tier: modified, its stamp is stored; shared, it is dropped
abbrev pub memory_taking_as : Mark → ℕ → ℕ → MemoryMeaning → MemoryMeaning
memory_taking_as Shared n s m = m
memory_taking_as Modified n s m = after m (store n s)

abbrev pub memory_taking : Option Line → MemoryMeaning → MemoryMeaning
memory_taking None m = m
memory_taking (Some g) m = memory_taking_as g.mark g.block g.stamp m

-- how the line moved
abbrev pub movement_as : Mark → Movement
movement_as Shared = Still
movement_as Modified = Memory

abbrev pub movement_of : Option Line → Movement
movement_of None = Still
movement_of (Some g) = movement_as g.mark

-- what a call is charged for two movements
abbrev pub charged : Prices → Movement → Movement → ℕ
charged w a b = price w a + price w b

-- an accepted call: the cores and the memory it leaves, what was performed, two movements, and the answer
abbrev pub accepted : RunMeaning → List CoreMeaning → MemoryMeaning → Performed → Movement → Movement → Answer → Outcome
accepted r cs m p a b x = outcome (a_run cs m r.prices (tallied r.tally p (charged r.prices a b))) (Ok x) (charged r.prices a b)

-- a refused call alters nothing
abbrev pub refused : RunMeaning → Refusal → Outcome
refused r e = outcome r (Err e) 0

abbrev pub provided : Bool → Refusal → RunMeaning → Outcome → Outcome
provided true e r x = x
provided false e r x = refused r e

-- core c cannot make the access yet
abbrev pub waiting : RunMeaning → ℕ → Access → Outcome
waiting r c a = accepted r (turned r.cores c (Waiting a)) r.memory Nothing Still Still (Waits (block_of a))

-- core c brings up block n, which it holds so, and is ready; a line may leave
abbrev pub brought_up : RunMeaning → ℕ → ℕ → Holding → List CoreMeaning
brought_up r c n h = turned (done r.cores c (BringUp n h)) c Ready

abbrev pub pushed_out : RunMeaning → ℕ → ℕ → Holding → Option Line
pushed_out r c n h = operated_out (tier_at r.cores c) (BringUp n h)

-- core c reads block n, which it holds so
abbrev pub reading : RunMeaning → ℕ → ℕ → Holding → Outcome
reading r c n h =
    accepted r (brought_up r c n h) (memory_taking (pushed_out r c n h) r.memory) ARead (FromLevel h.2) (movement_of (pushed_out r c n h)) (WasRead h.1)

-- core c becomes the only holder of block n: the others drop it, a modified copy met is stored, and memory's is stale
abbrev pub alone_cores : Bool → ℕ → ℕ → List CoreMeaning → List CoreMeaning
alone_cores true c n cs = cs
alone_cores false c n cs = invalidated 0 c n cs

abbrev pub recalled : ℕ → Option ℕ → MemoryMeaning → MemoryMeaning
recalled n None m = m
recalled n (Some s) m = after m (store n s)

abbrev pub alone_memory : Bool → ℕ → ℕ → List CoreMeaning → MemoryMeaning → MemoryMeaning
alone_memory true c n cs m = m
alone_memory false c n cs m = after (recalled n (met 0 c n cs) m) (stale n)

-- core c writes block n, which it holds so; a modified copy has no other
abbrev pub writing : RunMeaning → ℕ → ℕ → Holding → Outcome
writing r c n h =
    accepted r
    (done (alone_cores (is_modified h) c n (brought_up r c n h)) c (Change (line n Modified (r.tally.writes + 1))))
    (alone_memory (is_modified h) c n (brought_up r c n h) (memory_taking (pushed_out r c n h) r.memory))
    AWrite (FromLevel h.2) (movement_of (pushed_out r c n h)) (Wrote (r.tally.writes + 1))

-- an access as a ready core makes it
abbrev pub access_by : RunMeaning → ℕ → Access → Option Holding → Outcome
access_by r c a None = waiting r c a
access_by r c (ToRead n) (Some h) = reading r c n h
access_by r c (ToWrite n) (Some h) = writing r c n h

abbrev pub access : RunMeaning → ℕ → Access → Outcome
access r c a = access_by r c a (look_of (tier_at r.cores c) (block_of a))

-- the stamp with which memory has the block valid that a core in such a state waits for
abbrev pub fetchable_in : MemoryMeaning → CoreState → Option ℕ
fetchable_in m (Waiting a) = valid m (block_of a)
fetchable_in m _ = None

abbrev pub fetchable : RunMeaning → ℕ → Option ℕ
fetchable r c = fetchable_in r.memory (state_at r.cores c)

-- the block that core c waits for comes from memory, which has it with the stamp s
abbrev pub fetched_line : RunMeaning → ℕ → Access → ℕ → Option Line
fetched_line r c a s = operated_out (tier_at r.cores c) (Put (line (block_of a) Shared s))

abbrev pub fetching : RunMeaning → ℕ → Access → ℕ → Outcome
fetching r c a s =
    accepted r
    (turned (done r.cores c (Put (line (block_of a) Shared s))) c (Due a))
    (memory_taking (fetched_line r c a s) r.memory)
    Nothing Memory (movement_of (fetched_line r c a s)) (Brought (block_of a))

abbrev pub fetch_by : RunMeaning → ℕ → Access → Option ℕ → Outcome
fetch_by r c a None = refused r StaleBlock
fetch_by r c a (Some s) = fetching r c a s

abbrev pub fetch : RunMeaning → ℕ → Access → Outcome
fetch r c a = fetch_by r c a (valid r.memory (block_of a))

-- memory takes the copy that core c holds modified with the stamp s, and the copy is shared
abbrev pub cleaning : RunMeaning → ℕ → ℕ → ℕ → Answer → Outcome
cleaning r c n s x = accepted r (done r.cores c (Change (line n Shared s))) (after r.memory (store n s)) Nothing Memory Still x

-- the stamp with which core c holds block n modified
abbrev pub modified_at : RunMeaning → ℕ → ℕ → Option ℕ
modified_at r c n = modified_stamp (look_of (tier_at r.cores c) n)

-- the stamp of block n that core c owes to memory: it holds the block modified, and another core waits for it
abbrev pub owed_of : RunMeaning → ℕ → ℕ → Option ℕ → Option ℕ
owed_of r c n None = None
owed_of r c n (Some s) = cond (awaited 0 c n r.cores) (Some s) None

abbrev pub owed : RunMeaning → ℕ → ℕ → Option ℕ
owed r c n = owed_of r c n (modified_at r c n)

abbrev pub flush_by : RunMeaning → ℕ → ℕ → Option ℕ → Outcome
flush_by r c n None = refused r NotOwed
flush_by r c n (Some s) = cleaning r c n s (Flushed n)

abbrev pub flush : RunMeaning → ℕ → ℕ → Outcome
flush r c n = flush_by r c n (owed r c n)

abbrev pub commit_by : RunMeaning → ℕ → ℕ → Option ℕ → Outcome
commit_by r c n None = accepted r r.cores r.memory Nothing Still Still (Committed false)
commit_by r c n (Some s) = cleaning r c n s (Committed true)

abbrev pub commit : RunMeaning → ℕ → ℕ → Outcome
commit r c n = commit_by r c n (modified_at r c n)

-- what a call does depends on the state of its core
abbrev pub act : RunMeaning → Call → CoreState → Outcome
act r (Read c n) Ready = access r c (ToRead n)
act r (Write c n) Ready = access r c (ToWrite n)
act r (Fetch c) (Waiting a) = fetch r c a
act r (Resume c) (Due a) = access r c a
act r (Flush c n) _ = flush r c n
act r (Commit c n) Ready = commit r c n
act r _ _ = refused r WrongState

-- the questions that are put to every call, in this order, and then the call
unfoldable pub step : RunMeaning → Call → Outcome
step r k =
    provided (nat_lt r.tally.steps most_steps) TooManySteps r
    (provided (nat_lt (core_of k) (count_of r.cores)) NoSuchCore r
    (provided (fits_in (size_of r.memory) k) NoSuchBlock r
    (act r k (state_at r.cores (core_of k)))))
