-- What a text that was read comes to.
use Rattle.std.specs.Prelude.{ℕ, List, Ok, Err, Result}
use Rattle.fields.specs.Parts.{parts}
use Rattle.protocol.specs.declared.call.Call.{Call}
use Rattle.protocol.specs.declared.weights.Prices.{Prices}
use Rattle.records.specs.declared.keyword.Section.{Section}
use Rattle.scenario.specs.declared.fault.Fault.{Fault}
use Rattle.scenario.specs.declared.text.Text.{Text}
use Rattle.scenario.specs.Changes.{and_then}
use Rattle.scenario.specs.Scan.{State, text_of}
use Rattle.scenario.specs.Steps.{calls_from}

-- weights, layout and schedule
pub record Read : Type 0 where
  pub prices : Prices
  pub layout : List ℕ
  pub calls : List Call

abbrev pub a_read : Prices → List ℕ → List Call → Read
a_read w layout ks = record { prices = w; layout = layout; calls = ks }

abbrev pub read_of : State → Read
read_of st = a_read st.prices st.layout st.calls

-- what a text that was read says: its weights, its own placements, and the calls of its steps under these
abbrev pub read_in : Text → Read
read_in t = a_read t.prices t.placements (calls_from t.placements (parts 10 t.rest.now))

-- what the code read
abbrev pub read_as : {E : Type 0} → Result Text E → Result Read E
read_as (Ok t) = Ok (read_in t)
read_as (Err e) = Err e

-- a text that begins in this section, read under a layout
unfoldable pub section_of : Section → List ℕ → List ℕ → Result Read Fault
section_of s layout bs = and_then (text_of s layout bs) (λ st. Ok (read_of st))
