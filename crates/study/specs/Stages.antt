-- What the stages of a study mean, over what its row and its memory mean: a draft has yet to be opened, a run takes steps, and a
-- settled study is over.
use Rattle.std.specs.Prelude.{List, Ok, Err, Result}
use Rattle.memory.specs.Meaning.{MemoryMeaning}
use Rattle.protocol.specs.declared.refusal.Refusal.{Refusal}
use Rattle.protocol.specs.declared.weights.Prices.{Prices}
use Rattle.protocol.specs.Weighing.{prices_of}
use Rattle.row.specs.Cores.{CoreMeaning}
use Rattle.study.specs.declared.stages.Run.{Run}
use Rattle.study.specs.declared.stages.RefusedDraft.{RefusedDraft}
use Rattle.study.specs.Run.{RunMeaning, a_run}
use Rattle.study.specs.declared.stages.Settled.{Settled}
use Rattle.study.specs.Settling.{Ending, ending}

-- a run by its cores, its memory, its weights and its counts
abbrev pub run_of : {R M : Type 0} → (R → List CoreMeaning) → (M → MemoryMeaning) → Run R M → RunMeaning
run_of cores meaning r = a_run (cores r.row) (meaning r.memory) (prices_of r.weights) r.counts

-- what an opening came to
abbrev pub opened_as : {R M : Type 0} → (R → List CoreMeaning) → (M → MemoryMeaning) → Result (Run R M) (RefusedDraft R M) → Result RunMeaning Refusal
opened_as cores meaning (Ok r) = Ok (run_of cores meaning r)
opened_as cores meaning (Err e) = Err e.refusal

-- the weights after a weighing, and what it answers
abbrev pub weighed_as : Result Prices Refusal → Prices → Prices
weighed_as (Ok w) w' = w
weighed_as (Err e) w' = w'

abbrev pub answer_of : Result Prices Refusal → Result (Unit {0}) Refusal
answer_of (Ok w) = Ok tt
answer_of (Err e) = Err e

-- what a settled study gives back, and what a simulation came to
abbrev pub ending_of : {R M : Type 0} → (R → List CoreMeaning) → (M → MemoryMeaning) → Settled R M → Ending
ending_of cores meaning s = ending (cores s.row) (meaning s.memory) s.quote

abbrev pub ended_as : {R M : Type 0} → (R → List CoreMeaning) → (M → MemoryMeaning) → Result (Settled R M) (RefusedDraft R M) → Result Ending Refusal
ended_as cores meaning (Ok s) = Ok (ending_of cores meaning s)
ended_as cores meaning (Err e) = Err e.refusal
