-- A scenario, and a single study: a placement under a schedule.
use Rattle.std.specs.Prelude.{ℕ, cond, List, length, replicate, Ok, Err, Result, ◌==◌}
use Rattle.records.specs.declared.keyword.Section.TheVariants.{Scenario, Placement, Schedule}
use Rattle.scenario.specs.declared.fault.Fault.{Fault}
use Rattle.scenario.specs.declared.fault.Fault.TheVariants.{Layout}
use Rattle.scenario.specs.declared.fault.LayoutFault.TheVariants.{BadTable}
use Rattle.scenario.specs.declared.fault.File.{File}
use Rattle.scenario.specs.declared.fault.File.TheVariants.{Placement as PlacementFile, Schedule as ScheduleFile}
use Rattle.scenario.specs.declared.fault.FileFault.{FileFault}
use Rattle.scenario.specs.Changes.{and_then}
use Rattle.scenario.specs.Reading.{Read, section_of}

-- at first nothing is placed
abbrev pub unplaced : List ℕ
unplaced = replicate 256 65536

-- only a table of 256 entries is read into
abbrev pub scenario_of : List ℕ → List ℕ → Result Read Fault
scenario_of table bs = cond (length table == 256) (section_of Scenario unplaced bs) (Err (Layout BadTable))

-- what the table holds then: the placements, or nothing placed; one that is not read into is left as it was
abbrev pub table_after : List ℕ → Result Read Fault → List ℕ
table_after table (Ok r) = r.layout
table_after table (Err e) = cond (length table == 256) unplaced table

abbrev pub in_file : File → Result Read Fault → Result Read FileFault
in_file f (Ok r) = Ok r
in_file f (Err e) = Err (record { file = f; fault = e })

-- the placement p, and then the schedule s under it
abbrev pub single_of : List ℕ → List ℕ → Result Read FileFault
single_of p s = and_then (in_file PlacementFile (section_of Placement unplaced p)) (λ r. in_file ScheduleFile (section_of Schedule r.layout s))
