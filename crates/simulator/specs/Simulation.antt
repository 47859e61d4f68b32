-- From the bytes of a scenario to what its study leaves.
use Rattle.std.specs.Prelude.{◌≡◌, ℕ, List, [], Ok, Err, Result, IfErr, OnOk}
use Rattle.memory.specs.Meaning.{MemoryMeaning}
use Rattle.protocol.specs.declared.call.Call.{Call}
use Rattle.protocol.specs.declared.refusal.Refusal.{Refusal}
use Rattle.protocol.specs.declared.weights.Prices.{Prices}
use Rattle.protocol.specs.Prices.{weighing, none}
use Rattle.row.specs.Cores.{CoreMeaning}
use Rattle.study.specs.Run.{RunMeaning}
use Rattle.study.specs.Opening.{started}
use Rattle.study.specs.Settling.{quoted, cores_after, memory_after}
use Rattle.study.specs.Warrant.{Warranted}
use Rattle.scenario.specs.declared.fault.Fault.{Fault}
use Rattle.scenario.specs.declared.fault.Fault.TheVariants.{Study}
use Rattle.scenario.specs.Changes.{and_then}
use Rattle.scenario.specs.Reading.{Read}
use Rattle.scenario.specs.Texts.{table_after}
use Rattle.simulator.specs.declared.simulate.Simulated.{Simulated}

abbrev pub as_study : {A : Type 0} → Result A Refusal → Result A Fault
as_study (Ok r) = Ok r
as_study (Err e) = Err (Study e)

-- a text that was read asks for a study of these cores and this memory, which is weighed and opened
abbrev pub study_of : Result Read Fault → List CoreMeaning → MemoryMeaning → Result RunMeaning Fault
study_of (Ok t) cs m = as_study (started (weighing t.prices) cs m)
study_of (Err e) cs m = Err e

abbrev pub schedule_of : {E : Type 0} → Result Read E → List Call
schedule_of (Ok t) = t.calls
schedule_of (Err e) = []

abbrev pub prices_in : {E : Type 0} → Result Read E → Prices
prices_in (Ok t) = t.prices
prices_in (Err e) = none

-- the layout table afterwards: the placements of a study that was opened, or nothing placed; one of another length is left
abbrev pub table_left : Result RunMeaning Fault → List ℕ → Result Read Fault → List ℕ
table_left o table t = table_after table (and_then o (λ _. t))

-- x is what the study that was read comes to on this row and this memory, where `begins` says how it begins or why it does not
pub record IsSimulated {R M E : Type 0} (cores : R → List CoreMeaning) (meaning : M → MemoryMeaning) (begins : Result Read E → List CoreMeaning → MemoryMeaning → Result RunMeaning E) (r : Result Read E) (row : R) (memory : M) (x : Simulated R M E) : Type 0 where
  pub outcome : x.outcome ≡ quoted (begins r (cores row) (meaning memory)) (schedule_of r)
  pub row_after : cores x.row ≡ cores_after (begins r (cores row) (meaning memory)) (cores row) (schedule_of r)
  pub memory_after : meaning x.memory ≡ memory_after (begins r (cores row) (meaning memory)) (meaning memory) (schedule_of r)
  pub back : IfErr x.outcome (λ _. (x.row ≡ row) × (x.memory ≡ memory))
  pub warrant : OnOk x.outcome (Warranted (cores row) (meaning memory) (prices_in r))
