-- What the programs report, on two cores over 16 blocks.
use Rattle.std.specs.Prelude.{ℕ, List, Option, Result, replicate}
use Rattle.std.specs.Io.KnownBytes.{Appends}
use Rattle.machine.specs.Machine.{two_cores}
use Rattle.memory.specs.declared.cell.State.TheVariants.{Stale}
use Rattle.memory.specs.Meaning.{MemoryMeaning}
use Rattle.memory.specs.Flat.{flat}
use Rattle.study.specs.declared.quote.Quote.{Quote}
use Rattle.study.specs.Settling.{quoted}
use Rattle.scenario.specs.declared.fault.FileFault.{FileFault}
use Rattle.scenario.specs.Texts.{unplaced, scenario_of, single_of}
use Rattle.report.specs.declared.paired_lines.Side.TheVariants.{A, B}
use Rattle.report.specs.Lines.{Field, text_of}
use Rattle.report.specs.Reading.{ReadBack}
use Rattle.simulator.specs.Simulation.{schedule_of}
use Rattle.simulator.specs.Report.{in_full, report_lines}
use Rattle.paired.specs.Single.{single_study_of, side_lines, pair_lines}

-- a flat memory over a table of so many cells, which was lent under this name
abbrev pub cells : ℕ → ℕ → MemoryMeaning
cells name blocks = flat name (replicate blocks (record { state = Stale; stamp = 0 }))

-- the lines of the report of a scenario, where the table of the cells is lent under this name
abbrev pub scenario_report : List ℕ → ℕ → List (List Field)
scenario_report text name = report_lines in_full (scenario_of unplaced text) two_cores (cells name 16)

-- what the single study of the placement p under the schedule s comes to
abbrev pub single_outcome : List ℕ → List ℕ → ℕ → Result Quote FileFault
single_outcome p s name = quoted (single_study_of (single_of p s) two_cores (cells name 16)) (schedule_of (single_of p s))

-- the lines of the report of the placements a and b under the schedule s, with a table for each
abbrev pub pair_report : List ℕ → List ℕ → List ℕ → ℕ × ℕ → List (List Field)
pair_report a b s names =
    pair_lines
    (side_lines A a s two_cores (cells names.0 16))
    (side_lines B b s two_cores (cells names.1 16))
    (single_outcome a s names.0)
    (single_outcome b s names.1)

-- what the writer held is followed by the lines of the report, which read back; the tables are lent under some names
pub record Reported {N : Type 0} (lines : N → List (List Field)) (before after : Option (List ℕ)) : Type 0 where
  pub names : N
  pub report : Appends before after (text_of (lines names))
  pub reads_back : ReadBack (lines names)
