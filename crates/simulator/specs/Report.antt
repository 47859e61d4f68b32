-- The report of the study that a text asks for.
use Rattle.std.specs.Prelude.{ℕ, ◌+◌, List, [], ◌∷◌, ◌++◌, Some, None, Ok, Err, Option, Result, option_and_then}
use Rattle.memory.specs.Meaning.{MemoryMeaning}
use Rattle.protocol.specs.declared.answer.Answer.{Answer}
use Rattle.protocol.specs.declared.call.Call.{Call}
use Rattle.protocol.specs.declared.refusal.Refusal.{Refusal}
use Rattle.row.specs.Cores.{CoreMeaning}
use Rattle.study.specs.declared.quote.Quote.{Quote}
use Rattle.study.specs.declared.turn.Played.{Played}
use Rattle.study.specs.declared.turn.Turn.{Turn}
use Rattle.study.specs.Run.{RunMeaning}
use Rattle.study.specs.Play.{played, history}
use Rattle.study.specs.Settling.{quote_of}
use Rattle.scenario.specs.declared.fault.Fault.{Fault}
use Rattle.scenario.specs.declared.fault.File.TheVariants.{Schedule}
use Rattle.scenario.specs.Reading.{Read}
use Rattle.report.specs.declared.paired_lines.Side.{Side}
use Rattle.report.specs.Lines.{Field, step_fields, quote_fields, fault_fields}
use Rattle.report.specs.Pairs.{refused_fields, side_quote_fields, side_fault_fields}
use Rattle.simulator.specs.Simulation.{study_of, schedule_of}

-- how a study is told: the line of step n, if it has one, that of the quote, and that of a fault
pub record Form : Type 0 where
  pub turn : ℕ → Played → Option (List Field)
  pub quote : Quote → List Field
  pub fault : Fault → List Field

-- a report: a line for each step and for the quote, or one for the fault
abbrev pub in_full : Form
in_full = record { turn = λ n p. Some (step_fields n p); quote = quote_fields; fault = fault_fields }

abbrev pub if_refused : Side → ℕ → Result Answer Refusal → Option (List Field)
if_refused s n (Ok x) = None
if_refused s n (Err e) = Some (refused_fields s n e)

-- one side of a paired study: a line for each step that was refused, and for the quote; or one for a fault of the schedule
abbrev pub by_side : Side → Form
by_side s = record { turn = λ n p. if_refused s n p.answer; quote = side_quote_fields s; fault = side_fault_fields s Schedule }

abbrev pub line_if : Option (List Field) → List (List Field)
line_if None = []
line_if (Some fs) = fs ∷ []

-- the lines of the turns, which are numbered from n
unfoldable pub turn_lines : Form → ℕ → List Turn → List (List Field)
turn_lines f n [] = []
turn_lines f n (t ∷ ts) = line_if (option_and_then (f.turn n) t.played) ++ turn_lines f (n + 1) ts

-- a run that was opened tells its history and its quote, and a fault tells itself
abbrev pub study_lines : Form → Result RunMeaning Fault → List Call → List (List Field)
study_lines f (Ok r) ks = turn_lines f 1 (history r ks) ++ f.quote (quote_of (played r ks).tally) ∷ []
study_lines f (Err e) ks = f.fault e ∷ []

-- of a text that was read, on these cores and this memory
abbrev pub report_lines : Form → Result Read Fault → List CoreMeaning → MemoryMeaning → List (List Field)
report_lines f r cs m = study_lines f (study_of r cs m) (schedule_of r)
