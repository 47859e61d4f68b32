-- Bytes, parted at a separator: a text at line feeds, a line at tabs.
use Rattle.std.specs.Prelude.{ℕ, List, ◌==◌}
use Rattle.std.specs.List.{slice_split}

-- what stands between the separators: one part more than there are separators
unfoldable pub parts : ℕ → List ℕ → List (List ℕ)
parts sep bs = slice_split (λ b. b == sep) bs
