-- The figure that is quoted.
use Rattle.std.specs.Prelude.{ℕ, ◌*◌, ◌/◌, cond, Some, None, Option, ◌==◌}

-- the mean penalty per access in hundredths, rounded down; none without accesses
abbrev pub figure_of : ℕ → ℕ → Option ℕ
figure_of total accesses = cond (accesses == 0) None (Some (100 * total / accesses))
