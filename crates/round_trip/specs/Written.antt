-- A scenario, as a buyer writes it down.
use Rattle.std.specs.Prelude.{◌≡◌, ℕ, ◌<◌, List, [], ◌∷◌, ◌++◌, map, get_or, slice_get, slice_set, codes, Some}
use Rattle.protocol.specs.declared.call.Call.{Call}
use Rattle.protocol.specs.declared.call.Call.TheVariants as call
use Rattle.protocol.specs.declared.weights.Prices.{Prices}
use Rattle.records.specs.declared.keyword.Verb.{Verb}
use Rattle.records.specs.declared.keyword.Verb.TheVariants.{Read, Write, Commit, Flush, Fetch, Resume}
use Rattle.report.specs.Lines.{Field, Number, Text, text_of}

-- a reference, and the block where it is placed
pub record Placing : Type 0 where
  pub reference : ℕ
  pub block : ℕ

-- a step of a core, and the reference that it names, if it names one
pub record Step : Type 0 where
  pub verb : Verb
  pub core : ℕ
  pub reference : ℕ

abbrev pub weights_fields : Prices → List Field
weights_fields w = Text (codes "weights") ∷ Number w.w1 ∷ Number w.w2 ∷ Number w.w3 ∷ Number w.w4 ∷ Number w.wm ∷ []

abbrev pub placing_fields : Placing → List Field
placing_fields p = Text (codes "ref") ∷ Number p.reference ∷ Number p.block ∷ []

abbrev pub step_fields_of : Verb → ℕ → ℕ → List Field
step_fields_of Read c r = Text (codes "read") ∷ Number c ∷ Number r ∷ []
step_fields_of Write c r = Text (codes "write") ∷ Number c ∷ Number r ∷ []
step_fields_of Commit c r = Text (codes "commit") ∷ Number c ∷ Number r ∷ []
step_fields_of Flush c r = Text (codes "flush") ∷ Number c ∷ Number r ∷ []
step_fields_of Fetch c r = Text (codes "fetch") ∷ Number c ∷ []
step_fields_of Resume c r = Text (codes "resume") ∷ Number c ∷ []

abbrev pub step_fields : Step → List Field
step_fields s = step_fields_of s.verb s.core s.reference

abbrev pub written : Prices → List Placing → List Step → List ℕ
written w ps ss = text_of (weights_fields w ∷ (map placing_fields ps ++ map step_fields ss))

-- the layout with the placings
unfoldable pub placed : List ℕ → List Placing → List ℕ
placed layout [] = layout
placed layout (p ∷ ps) = placed (slice_set layout p.reference p.block) ps

-- the call that a step makes where its reference lies in block n
abbrev pub call_of : Verb → ℕ → ℕ → Call
call_of Read c n = call.Read c n
call_of Write c n = call.Write c n
call_of Commit c n = call.Commit c n
call_of Flush c n = call.Flush c n
call_of Fetch c n = call.Fetch c
call_of Resume c n = call.Resume c

abbrev pub made_by : List ℕ → Step → Call
made_by layout s = call_of s.verb s.core (get_or layout s.reference 0)

-- what the format asks of weights, of placings in their order, and of a step
pub record Writable (w : Prices) : Type 0 where
  pub w1 : w.w1 < 65536
  pub w2 : w.w2 < 65536
  pub w3 : w.w3 < 65536
  pub w4 : w.w4 < 65536
  pub wm : w.wm < 65536

abbrev pub Placeable : List ℕ → List Placing → Type 0
Placeable layout [] = Unit {0}
Placeable layout (p ∷ ps) = (slice_get layout p.reference ≡ Some 65536) × (p.reference < 256) × (p.block < 65536) × Placeable (slice_set layout p.reference p.block) ps

-- the reference of a step is placed, if it names one
abbrev pub NamesPlaced : List ℕ → Verb → ℕ → Type 0
NamesPlaced layout Read r = (r < 256) × (slice_get layout r ≡ Some (get_or layout r 0)) × (get_or layout r 0 < 65536)
NamesPlaced layout Write r = (r < 256) × (slice_get layout r ≡ Some (get_or layout r 0)) × (get_or layout r 0 < 65536)
NamesPlaced layout Commit r = (r < 256) × (slice_get layout r ≡ Some (get_or layout r 0)) × (get_or layout r 0 < 65536)
NamesPlaced layout Flush r = (r < 256) × (slice_get layout r ≡ Some (get_or layout r 0)) × (get_or layout r 0 < 65536)
NamesPlaced layout Fetch r = Unit {0}
NamesPlaced layout Resume r = Unit {0}

abbrev pub Steppable : List ℕ → List Step → Type 0
Steppable layout [] = Unit {0}
Steppable layout (s ∷ ss) = (s.core < 65536) × NamesPlaced layout s.verb s.reference × Steppable layout ss

-- the same in two texts: a placement, and a schedule
abbrev pub written_placement : List Placing → List ℕ
written_placement ps = text_of (map placing_fields ps)

abbrev pub written_schedule : Prices → List Step → List ℕ
written_schedule w ss = text_of (weights_fields w ∷ map step_fields ss)
