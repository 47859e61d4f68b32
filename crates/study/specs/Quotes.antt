-- How a quote is written.
use Rattle.std.specs.Prelude.{ℕ, List, [], ◌∷◌, ◌++◌, Some, None, Option}
use Rattle.std.specs.Fmt.{decimal}
use Rattle.study.specs.declared.quote.Quote.{Quote}

-- in decimal, or - where there is none
abbrev pub figure_text : Option ℕ → List ℕ
figure_text None = 45 ∷ []
figure_text (Some f) = decimal f

-- accesses, total and figure, parted by tabs
abbrev pub quote_text : Quote → List ℕ
quote_text q = decimal q.accesses ++ 9 ∷ (decimal q.total ++ 9 ∷ figure_text q.figure)
