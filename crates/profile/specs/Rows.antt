-- How an access is written.
use Rattle.std.specs.Prelude.{ℕ, List, [], ◌∷◌, ◌++◌, Some, None, Option, unwrap_or}
use Rattle.std.specs.Fmt.{decimal}
use Rattle.profile.specs.declared.Row.{Row}

-- in decimal, or - where no block left
abbrev pub left_text : Option ℕ → List ℕ
left_text None = 45 ∷ []
left_text (Some b) = decimal b

-- the number of the access, its block, the level that served it (0 for a miss) and the block that left, parted by tabs
abbrev pub row_text : Row → List ℕ
row_text r = decimal r.number ++ 9 ∷ (decimal r.block ++ 9 ∷ (decimal (unwrap_or r.access.level 0) ++ 9 ∷ left_text r.access.left))
