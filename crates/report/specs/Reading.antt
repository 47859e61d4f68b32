-- Reading a text back, by nothing but its line feeds, its tabs and its digits.
use Rattle.std.specs.Prelude.{◌≡◌, ℕ, ◌+◌, ◌-◌, ◌*◌, cond, List, [], ◌∷◌, ◌++◌, map, Some, None, Option}
use Rattle.fields.specs.Parts.{parts}
use Rattle.numeral.specs.Number.{is_digit}
use Rattle.report.specs.Lines.{Field, Number, Text, text_of}

-- the number of which n stands before these digits, read from left to right; none where a byte is no digit
unfoldable pub number_after : ℕ → List ℕ → Option ℕ
number_after n [] = Some n
number_after n (b ∷ bs) = cond (is_digit b) (number_after (10 * n + (b - 48)) bs) None

abbrev pub number_or_text : Option ℕ → List ℕ → Field
number_or_text (Some n) bs = Number n
number_or_text None bs = Text bs

unfoldable pub field_of : List ℕ → Field
field_of [] = Text []
field_of (b ∷ bs) = number_or_text (number_after 0 (b ∷ bs)) (b ∷ bs)

abbrev pub fields_in : List ℕ → List Field
fields_in line = map field_of (parts 9 line)

-- the fields of each line, and of what follows the last line feed
unfoldable pub read_back : List ℕ → List (List Field)
read_back bytes = map fields_in (parts 10 bytes)

-- wherever the text stands, it reads back as these lines, and what follows as if it stood alone
pub record ReadsAs (text : List ℕ) (lines : List (List Field)) : Type 0 where
  pub before : (rest : List ℕ) → read_back (text ++ rest) ≡ lines ++ read_back rest

-- these lines read back as what was written
abbrev pub ReadBack : List (List Field) → Type 0
ReadBack lines = ReadsAs (text_of lines) lines
