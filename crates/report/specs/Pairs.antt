-- The lines of a paired study, as their fields.
use Rattle.std.specs.Prelude.{ℕ, cond, List, [], ◌∷◌, codes, Some, Option, nat_lt}
use Rattle.std.specs.Int.{abs_diff}
use Rattle.protocol.specs.declared.refusal.Refusal.{Refusal}
use Rattle.protocol.specs.Refusals.{refusal_number}
use Rattle.study.specs.declared.quote.Quote.{Quote}
use Rattle.scenario.specs.declared.fault.Fault.{Fault}
use Rattle.scenario.specs.Faults.{told_of, file_spelling}
use Rattle.report.specs.declared.paired_lines.Side.{Side}
use Rattle.report.specs.declared.paired_lines.Side.TheVariants.{A, B}
use Rattle.scenario.specs.declared.fault.File.{File}
use Rattle.report.specs.Lines.{Field, Number, Text, quote_fields, told_fields}

abbrev pub side_spelling : Side → List ℕ
side_spelling A = codes "a"
side_spelling B = codes "b"

abbrev pub refusal_fields : ℕ → Refusal → List Field
refusal_fields step r = Text (codes "refused") ∷ Number step ∷ Number (refusal_number r) ∷ []

abbrev pub refused_fields : Side → ℕ → Refusal → List Field
refused_fields s step r = Text (side_spelling s) ∷ refusal_fields step r

abbrev pub side_quote_fields : Side → Quote → List Field
side_quote_fields s q = Text (side_spelling s) ∷ quote_fields q

abbrev pub side_fault_fields : Side → File → Fault → List Field
side_fault_fields s file f = Text (side_spelling s) ∷ Text (codes "fault") ∷ Text (file_spelling file) ∷ told_fields (told_of f)

-- the placement with the smaller figure
abbrev pub cheaper : ℕ → ℕ → List ℕ
cheaper a b = cond (nat_lt a b) (codes "a") (cond (nat_lt b a) (codes "b") (codes "equal"))

abbrev pub difference_fields : Option ℕ → Option ℕ → List Field
difference_fields (Some a) (Some b) = Text (codes "difference") ∷ Number (abs_diff a b) ∷ Text (cheaper a b) ∷ []
difference_fields _ _ = Text (codes "difference") ∷ Text (codes "-") ∷ Text (codes "-") ∷ []
