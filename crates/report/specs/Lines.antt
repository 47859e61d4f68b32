-- The lines of a report, as their fields, and how they are written.
use Rattle.std.specs.Prelude.{ℕ, List, [], ◌∷◌, ◌++◌, map, codes, decimal, Some, None, Option}
use Rattle.protocol.specs.Answers.{word_of, value_of, spelling as word_spelling}
use Rattle.study.specs.declared.turn.Played.{Played}
use Rattle.study.specs.declared.quote.Quote.{Quote}
use Rattle.scenario.specs.declared.fault.Fault.{Fault}
use Rattle.scenario.specs.declared.fault.Told.{Told}
use Rattle.scenario.specs.Faults.{told_of, spelling as layer_spelling}

-- what a field says: a number, or else a text
pub data Field : Type 0 where
  Number : ℕ → Field
  Text : List ℕ → Field

abbrev pub written : Field → List ℕ
written (Number n) = decimal n
written (Text bs) = bs

-- parted by tabs (9), ended by a line feed (10)
abbrev pub row : List (List ℕ) → List ℕ
row [] = 10 ∷ []
row (f ∷ []) = f ++ 10 ∷ []
row (f ∷ g ∷ fs) = f ++ 9 ∷ row (g ∷ fs)

abbrev pub line_of : List Field → List ℕ
line_of fs = row (map written fs)

-- line after line
unfoldable pub text_of : List (List Field) → List ℕ
text_of [] = []
text_of (fs ∷ fss) = line_of fs ++ text_of fss

-- number, word, value and total
abbrev pub step_fields : ℕ → Played → List Field
step_fields n p = Number n ∷ Text (word_spelling (word_of p.answer)) ∷ Number (value_of p.answer) ∷ Number p.total ∷ []

abbrev pub figure_field : Option ℕ → Field
figure_field None = Text (codes "-")
figure_field (Some f) = Number f

abbrev pub quote_fields : Quote → List Field
quote_fields q = Text (codes "quote") ∷ Number q.accesses ∷ Number q.total ∷ figure_field q.figure ∷ []

-- layer, line, field and number
abbrev pub told_fields : Told → List Field
told_fields t = Text (layer_spelling t.layer) ∷ Number t.line ∷ Number t.field ∷ Number t.number ∷ []

abbrev pub fault_fields : Fault → List Field
fault_fields f = Text (codes "fault") ∷ told_fields (told_of f)
