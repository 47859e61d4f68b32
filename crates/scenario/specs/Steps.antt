-- The steps of a text, as they are read again.
use Rattle.std.specs.Prelude.{ℕ, List, [], ◌∷◌, length, Some, None, Ok, Err, Option, Result}
use Rattle.fields.specs.Parts.{parts}
use Rattle.protocol.specs.declared.call.Call.{Call}
use Rattle.records.specs.declared.keyword.Section.TheVariants.{Steps}
use Rattle.scenario.specs.declared.change.Change.{Change}
use Rattle.scenario.specs.declared.change.Change.TheVariants.{Weigh, Lay, Make}
use Rattle.scenario.specs.declared.fault.Fault.{Fault}
use Rattle.scenario.specs.declared.steps.Steps.{Steps as StepsOfText}
use Rattle.scenario.specs.Changes.{line_change}

-- the call that a line makes, if it makes one
abbrev pub made : Result Change Fault → Option Call
made (Ok (Weigh w)) = None
made (Ok (Lay r b)) = None
made (Ok (Make k)) = Some k
made (Err e) = None

abbrev pub onto : Option Call → List Call → List Call
onto None ks = []
onto (Some k) ks = k ∷ ks

-- the calls of the lines, up to the first that makes none; where a line stands makes no difference to its call
unfoldable pub calls_from : List ℕ → List (List ℕ) → List Call
calls_from layout [] = []
calls_from layout (p ∷ []) = []
calls_from layout (p ∷ q ∷ ps) = onto (made (line_change layout Steps 1 p)) (calls_from layout (q ∷ ps))

-- the calls of steps, under the placements that they carry
abbrev pub calls_in : StepsOfText → List Call
calls_in t = calls_from t.placements.now (parts 10 t.rest.now)

abbrev pub bytes_left : StepsOfText → ℕ
bytes_left t = length t.rest.now
