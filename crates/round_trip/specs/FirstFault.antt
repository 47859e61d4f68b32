-- The first faulty line of a text decides.
use Rattle.std.specs.Prelude.{◌≡◌, ◌≢◌, ℕ, zero, suc, ◌<◌, ◌≤◌, cond, ◌==◌, List, [], ◌∷◌, length, Ok, Err, Result, IsOk}
use Rattle.records.specs.declared.fault.TextFault.TheVariants.{TooLong}
use Rattle.records.specs.declared.keyword.Section.TheVariants.{Placement, Schedule}
use Rattle.scenario.specs.declared.fault.Fault.{Fault}
use Rattle.scenario.specs.declared.fault.Fault.TheVariants.{Text, Layout}
use Rattle.scenario.specs.declared.fault.LayoutFault.TheVariants.{BadTable}
use Rattle.scenario.specs.declared.fault.File.{File}
use Rattle.scenario.specs.declared.fault.File.TheVariants.{Placement as PlacementFile, Schedule as ScheduleFile}
use Rattle.scenario.specs.declared.fault.FileFault.{FileFault}
use Rattle.scenario.specs.Faults.{told_of}
use Rattle.scenario.specs.Reading.{Read, section_of}
use Rattle.scenario.specs.Texts.{unplaced, scenario_of, single_of}

-- the first n lines of a text, each with its line feed (10); of a text with fewer line feeds, all of it
unfoldable pub first_lines : ℕ → List ℕ → List ℕ
first_lines zero bs = []
first_lines (suc n) [] = []
first_lines (suc n) (b ∷ bs) = b ∷ first_lines (cond (b == 10) n (suc n)) bs

-- the line that a fault names: from 1, or 0 for one of the whole text (15) or of the table (14)
abbrev pub line_of : Fault → ℕ
line_of e = (told_of e).line

-- the fault of a line: the lines before it, and any first ones of them, are a text without a fault; and whatever follows it makes no
-- difference: every text with the same lines up to this one has the same fault
pub record IsFirstFault (read : List ℕ → Result Read Fault) (text : List ℕ) (e : Fault) : Type 0 where
  pub named : 1 ≤ line_of e
  pub before : (n : ℕ) → 1 ≤ n → n < line_of e → IsOk (read (first_lines n text))
  pub after : (other : List ℕ) → length other ≤ 65536 → first_lines (line_of e) other ≡ first_lines (line_of e) text → read other ≡ Err e

-- the fault of a text: 15 if it is too long, and else that of its first faulty line
pub record IsFault (read : List ℕ → Result Read Fault) (text : List ℕ) (e : Fault) : Type 0 where
  pub long : 65536 < length text → e ≡ Text TooLong
  pub lines : length text ≤ 65536 → IsFirstFault read text e

-- of a scenario, of which the table is asked first: 14 if it has other than 256 entries
pub record IsScenarioFault (table text : List ℕ) (e : Fault) : Type 0 where
  pub bad_table : length table ≢ 256 → e ≡ Layout BadTable
  pub of_text : length table ≡ 256 → IsFault (scenario_of table) text e

abbrev pub FirstFaultDecides : List ℕ → List ℕ → Type 0
FirstFaultDecides table text = (e : Fault) → scenario_of table text ≡ Err e → IsScenarioFault table text e

-- of a placement and a schedule: the fault of the placement, or else, under its layout, that of the schedule
abbrev pub IsPairFault : List ℕ → List ℕ → File → Fault → Type 0
IsPairFault placement schedule PlacementFile e = IsFault (section_of Placement unplaced) placement e
IsPairFault placement schedule ScheduleFile e = (r : Read) × (section_of Placement unplaced placement ≡ Ok r) × IsFault (section_of Schedule r.layout) schedule e

abbrev pub PairFirstFaultDecides : List ℕ → List ℕ → Type 0
PairFirstFaultDecides placement schedule = (e : FileFault) → single_of placement schedule ≡ Err e → IsPairFault placement schedule e.file e.fault
