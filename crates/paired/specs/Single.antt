-- The single study of a placement under a schedule.
use Rattle.std.specs.Prelude.{ℕ, List, [], ◌∷◌, ◌++◌, None, Ok, Err, Option, Result}
use Rattle.memory.specs.Meaning.{MemoryMeaning}
use Rattle.protocol.specs.declared.call.Call.{Call}
use Rattle.row.specs.Cores.{CoreMeaning}
use Rattle.study.specs.declared.quote.Quote.{Quote}
use Rattle.study.specs.Run.{RunMeaning}
use Rattle.scenario.specs.declared.fault.Fault.{Fault}
use Rattle.scenario.specs.declared.fault.File.TheVariants.{Schedule}
use Rattle.scenario.specs.declared.fault.FileFault.{FileFault}
use Rattle.scenario.specs.Reading.{Read}
use Rattle.scenario.specs.Texts.{single_of}
use Rattle.report.specs.declared.paired_lines.Side.{Side}
use Rattle.report.specs.Lines.{Field}
use Rattle.report.specs.Pairs.{side_fault_fields, difference_fields}
use Rattle.simulator.specs.Report.{by_side, study_lines}
use Rattle.simulator.specs.Simulation.{study_of, schedule_of}

-- what is wrong with the study itself is wrong with its schedule
abbrev pub in_schedule : Result RunMeaning Fault → Result RunMeaning FileFault
in_schedule (Ok r) = Ok r
in_schedule (Err e) = Err (record { file = Schedule; fault = e })

-- how the study of a placement and a schedule begins, or why it does not
abbrev pub single_study_of : Result Read FileFault → List CoreMeaning → MemoryMeaning → Result RunMeaning FileFault
single_study_of (Ok t) cs m = in_schedule (study_of (Ok t) cs m)
single_study_of (Err e) cs m = Err e

-- the lines that are written of it
abbrev pub side_study_lines : Side → Result RunMeaning FileFault → List Call → List (List Field)
side_study_lines s (Ok r) ks = study_lines (by_side s) (Ok r) ks
side_study_lines s (Err e) ks = side_fault_fields s e.file e.fault ∷ []

abbrev pub side_lines : Side → List ℕ → List ℕ → List CoreMeaning → MemoryMeaning → List (List Field)
side_lines s p b cs m = side_study_lines s (single_study_of (single_of p b) cs m) (schedule_of (single_of p b))

-- the figure of a study that came to a quote
abbrev pub figure_of : Result Quote FileFault → Option ℕ
figure_of (Ok q) = q.figure
figure_of (Err e) = None

-- the lines of both sides, and that of the difference of the figures that they came to
abbrev pub pair_lines : List (List Field) → List (List Field) → Result Quote FileFault → Result Quote FileFault → List (List Field)
pair_lines a b x y = a ++ (b ++ difference_fields (figure_of x) (figure_of y) ∷ [])
