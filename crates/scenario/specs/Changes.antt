-- What a line changes.
use Rattle.std.specs.Prelude.{ℕ, List, [], ◌∷◌, get_or, slice_get, Ok, Err, Result}
use Rattle.protocol.specs.declared.call.Call.TheVariants as call
use Rattle.protocol.specs.declared.weights.Prices.{Prices}
use Rattle.protocol.specs.Prices.{prices}
use Rattle.records.specs.declared.fault.Place.{Place}
use Rattle.records.specs.declared.fault.TextFault.{TextFault}
use Rattle.records.specs.declared.keyword.Keyword.{Keyword}
use Rattle.records.specs.declared.keyword.Keyword.TheVariants.{Weights, Ref, Step}
use Rattle.records.specs.declared.keyword.Verb.{Verb}
use Rattle.records.specs.declared.keyword.Verb.TheVariants.{Read, Write, Commit, Flush, Fetch, Resume}
use Rattle.records.specs.declared.keyword.Section.{Section}
use Rattle.records.specs.Lines.{Located, number_in, line_of}
use Rattle.scenario.specs.declared.change.Change.{Change}
use Rattle.scenario.specs.declared.change.Change.TheVariants.{Weigh, Lay, Make}
use Rattle.scenario.specs.declared.fault.LayoutFault.{LayoutFault}
use Rattle.scenario.specs.declared.fault.Fault.{Fault}
use Rattle.scenario.specs.declared.fault.Fault.TheVariants.{Text, Layout}
use Rattle.scenario.specs.Layouts.{free, block_at}

-- f of a result, or its error
abbrev pub and_then : {A B E : Type 0} → Result A E → (A → Result B E) → Result B E
and_then (Ok x) f = f x
and_then (Err e) f = Err e

abbrev pub as_text : {A : Type 0} → Result A TextFault → Result A Fault
as_text (Ok x) = Ok x
as_text (Err e) = Err (Text e)

abbrev pub as_layout : {A : Type 0} → Result A LayoutFault → Result A Fault
as_layout (Ok x) = Ok x
as_layout (Err e) = Err (Layout e)

-- the numbers of the fields, or the fault of the first that is none
abbrev pub numbers : List Located → Result (List ℕ) TextFault
numbers [] = Ok []
numbers (f ∷ fs) = and_then (number_in f) (λ n. and_then (numbers fs) (λ ns. Ok (n ∷ ns)))

abbrev pub at : List ℕ → ℕ → ℕ
at ns k = get_or ns k 0

abbrev pub place_at : List Located → ℕ → Place
place_at fs k = (get_or fs k ([], record { line = 0; field = 0 })).1

abbrev pub numbers_of : List Located → Result (List ℕ) Fault
numbers_of fs = as_text (numbers fs)

-- the weights that five fields give
abbrev pub weighed : List ℕ → Prices
weighed ns = prices (at ns 0) (at ns 1) (at ns 2) (at ns 3) (at ns 4)

unfoldable pub weights_of : List Located → Result Prices Fault
weights_of fs = and_then (numbers_of fs) (λ ns. Ok (weighed ns))

-- core and block of a step that names a core and a reference
abbrev pub target : List ℕ → List Located → Result (ℕ × ℕ) Fault
target layout fs = and_then (numbers_of fs) (λ ns. and_then (as_layout (block_at (place_at fs 1) (slice_get layout (at ns 1)))) (λ n. Ok (at ns 0, n)))

abbrev pub step_of : List ℕ → Verb → List Located → Result Change Fault
step_of layout Read fs = and_then (target layout fs) (λ t. Ok (Make (call.Read t.0 t.1)))
step_of layout Write fs = and_then (target layout fs) (λ t. Ok (Make (call.Write t.0 t.1)))
step_of layout Commit fs = and_then (target layout fs) (λ t. Ok (Make (call.Commit t.0 t.1)))
step_of layout Flush fs = and_then (target layout fs) (λ t. Ok (Make (call.Flush t.0 t.1)))
step_of layout Fetch fs = and_then (numbers_of fs) (λ ns. Ok (Make (call.Fetch (at ns 0))))
step_of layout Resume fs = and_then (numbers_of fs) (λ ns. Ok (Make (call.Resume (at ns 0))))

-- what a line with this word and these fields changes
abbrev pub changed : List ℕ → Keyword → List Located → Result Change Fault
changed layout Weights fs = and_then (weights_of fs) (λ w. Ok (Weigh w))
changed layout Ref fs = and_then (numbers_of fs) (λ ns. and_then (as_layout (free (place_at fs 0) (slice_get layout (at ns 0)))) (λ _. Ok (Lay (at ns 0) (at ns 1))))
changed layout (Step v) fs = step_of layout v fs

abbrev pub change_of : List ℕ → Keyword × List Located → Result Change Fault
change_of layout r = changed layout r.0 r.1

-- a line without its line feed, read in a section under a layout
unfoldable pub line_change : List ℕ → Section → ℕ → List ℕ → Result Change Fault
line_change layout s line bs = and_then (as_text (line_of s line bs)) (change_of layout)
