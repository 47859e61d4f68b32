-- Of private functions only: what a beginning of the code came to, and the bytes of a line that may be missing.
use Rattle.std.specs.Prelude.{ℕ, List, [], Some, None, Ok, Err, Option, Result}
use Rattle.memory.specs.Meaning.{MemoryMeaning}
use Rattle.scenario.specs.declared.fault.Fault.{Fault}
use Rattle.row.specs.Cores.{CoreMeaning}
use Rattle.study.specs.declared.stages.Run.{Run}
use Rattle.study.specs.Run.{RunMeaning}
use Rattle.study.specs.Stages.{run_of}
use Rattle.simulator.specs.declared.begin.Refused.{Refused}

abbrev pub begun_as : {R M : Type 0} → (R → List CoreMeaning) → (M → MemoryMeaning) → Result (Run R M) (Refused R M) → Result RunMeaning Fault
begun_as cores meaning (Ok r) = Ok (run_of cores meaning r)
begun_as cores meaning (Err e) = Err e.fault

abbrev pub line_text : Option (List ℕ) → List ℕ
line_text None = []
line_text (Some l) = l
