-- A text, line by line from the first to the last.
use Rattle.std.specs.Prelude.{ℕ, ◌+◌, cond, List, [], ◌∷◌, ◌++◌, length, slice_set, Ok, Err, Result, nat_lt}
use Rattle.fields.specs.Parts.{parts}
use Rattle.protocol.specs.declared.call.Call.{Call}
use Rattle.protocol.specs.declared.weights.Prices.{Prices}
use Rattle.protocol.specs.Prices.{none}
use Rattle.records.specs.declared.fault.TextFault.TheVariants.{TooLong, Unended, Misplaced}
use Rattle.records.specs.declared.keyword.Section.{Section}
use Rattle.records.specs.declared.keyword.Section.TheVariants.{Scenario, Refs, Steps, Placement, Schedule}
use Rattle.scenario.specs.declared.change.Change.{Change}
use Rattle.scenario.specs.declared.change.Change.TheVariants.{Weigh, Lay, Make}
use Rattle.scenario.specs.declared.fault.Fault.{Fault}
use Rattle.scenario.specs.declared.fault.Fault.TheVariants.{Text}
use Rattle.scenario.specs.Changes.{and_then, line_change}

-- what was read so far, and which lines may come next
pub record State : Type 0 where
  pub prices : Prices
  pub layout : List ℕ
  pub calls : List Call
  pub section : Section

abbrev pub state : Prices → List ℕ → List Call → Section → State
state w layout ks s = record { prices = w; layout = layout; calls = ks; section = s }

-- the section after the weights: a schedule has no placements
abbrev pub after_weights : Section → Section
after_weights Schedule = Steps
after_weights _ = Refs

abbrev pub changed_by : State → Change → State
changed_by st (Weigh w) = state w st.layout st.calls (after_weights st.section)
changed_by st (Lay r b) = state st.prices (slice_set st.layout r b) st.calls st.section
changed_by st (Make k) = state st.prices st.layout (st.calls ++ k ∷ []) Steps

-- a text that ends in this section: all but a placement begin with weights
abbrev pub complete : Section → ℕ → Result (Unit {0}) Fault
complete Scenario line = Err (Text (Misplaced line))
complete Refs line = Ok tt
complete Steps line = Ok tt
complete Placement line = Ok tt
complete Schedule line = Err (Text (Misplaced line))

-- what follows the last line feed: nothing, or a line that is not ended
abbrev pub ended : Section → ℕ → List ℕ → Result (Unit {0}) Fault
ended s line [] = complete s line
ended s line (b ∷ bs) = Err (Text (Unended line))

-- the lines from number `line` on, in order; the first that is faulty decides
unfoldable pub scan : State → ℕ → List (List ℕ) → Result State Fault
scan st line [] = Ok st
scan st line (p ∷ []) = and_then (ended st.section line p) (λ _. Ok st)
scan st line (p ∷ q ∷ ps) = and_then (line_change st.layout st.section line p) (λ c. scan (changed_by st c) (line + 1) (q ∷ ps))

-- nothing was read yet
abbrev pub start : Section → List ℕ → State
start s layout = state none layout [] s

-- a text that begins in this section, read under a layout
abbrev pub text_of : Section → List ℕ → List ℕ → Result State Fault
text_of s layout bs = cond (nat_lt 65536 (length bs)) (Err (Text TooLong)) (scan (start s layout) 1 (parts 10 bs))
