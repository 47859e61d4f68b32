-- How a report tells a fault: its layer, line, field and number.
use Rattle.std.specs.Prelude.{ℕ, List, codes}
use Rattle.protocol.specs.Refusals.{refusal_number}
use Rattle.records.specs.declared.fault.TextFault.TheVariants.{TooLong, Unended, Misplaced, Miscounted, NotANumber}
use Rattle.scenario.specs.declared.fault.LayoutFault.TheVariants.{BadTable, Taken, Unplaced}
use Rattle.scenario.specs.declared.fault.Fault.{Fault}
use Rattle.scenario.specs.declared.fault.Fault.TheVariants.{Text, Layout, Study}
use Rattle.scenario.specs.declared.fault.File.{File}
use Rattle.scenario.specs.declared.fault.File.TheVariants.{Placement, Schedule}
use Rattle.scenario.specs.declared.fault.Layer.{Layer}
use Rattle.scenario.specs.declared.fault.Layer.TheVariants.{Text as TextLayer, Layout as LayoutLayer, Study as StudyLayer}
use Rattle.scenario.specs.declared.fault.Told.{Told}

abbrev pub spelling : Layer → List ℕ
spelling TextLayer = codes "text"
spelling LayoutLayer = codes "layout"
spelling StudyLayer = codes "study"

abbrev pub file_spelling : File → List ℕ
file_spelling Placement = codes "placement"
file_spelling Schedule = codes "schedule"

abbrev pub told : Layer → ℕ → ℕ → ℕ → Told
told l line field n = record { layer = l; line = line; field = field; number = n }

abbrev pub told_of : Fault → Told
told_of (Text TooLong) = told TextLayer 0 0 15
told_of (Text (Unended line)) = told TextLayer line 0 16
told_of (Text (Misplaced line)) = told TextLayer line 1 17
told_of (Text (Miscounted line)) = told TextLayer line 0 18
told_of (Text (NotANumber at)) = told TextLayer at.line at.field 19
told_of (Layout BadTable) = told LayoutLayer 0 0 14
told_of (Layout (Taken at)) = told LayoutLayer at.line at.field 20
told_of (Layout (Unplaced at)) = told LayoutLayer at.line at.field 21
told_of (Study e) = told StudyLayer 1 0 (refusal_number e)
