-- Of private functions only: what a call does to a run of the code, before its step is counted.
use Rattle.std.specs.Prelude.{◌≡◌, List, Ok, Err, Result}
use Rattle.memory.specs.Meaning.{MemoryMeaning}
use Rattle.protocol.specs.declared.refusal.Refusal.{Refusal}
use Rattle.row.specs.Cores.{CoreMeaning}
use Rattle.study.specs.declared.effect.Effect.{Effect}
use Rattle.study.specs.declared.stages.Run.{Run}
use Rattle.study.specs.Run.{RunMeaning, a_run, Outcome, outcome}
use Rattle.study.specs.Step.{accepted}
use Rattle.study.specs.Stages.{run_of}

-- what becomes of a call that leaves these cores and this memory, once the effect e is charged; or a refusal
abbrev pub effected : RunMeaning → List CoreMeaning → MemoryMeaning → Result Effect Refusal → Outcome
effected r cs m (Ok e) = accepted r cs m e.performed e.moved e.left e.answer
effected r cs m (Err x) = outcome (a_run cs m r.prices r.tally) (Err x) 0

-- the run s became s' with the effect e, and charging e would make of s what x says
pub record Does {R M : Type 0} (cores : R → List CoreMeaning) (meaning : M → MemoryMeaning) (s s' : Run R M) (e : Result Effect Refusal) (x : Outcome) : Type 0 where
  pub counts : s'.counts ≡ s.counts
  pub weights : s'.weights ≡ s.weights
  pub outcome : effected (run_of cores meaning s) (cores s'.row) (meaning s'.memory) e ≡ x
