-- What a table holds once one of its blocks was retired.
use Rattle.std.specs.Prelude.{ℕ, ◌+◌, cond, List, nat_lt}
use Rattle.memory.specs.declared.cell.Cell.{Cell}
use Rattle.memory.specs.declared.cell.State.TheVariants.{Stale}
use Rattle.memory.specs.Flat.{write, flat}
use Rattle.window.specs.Window.{window_size}

-- block n of a memory over the table
abbrev pub retired : List Cell → ℕ → ℕ → List Cell
retired t n s = write t n (record { state = Stale; stamp = s })

-- block n of a window over that memory, where the window has it (the size is the same under each name of the loan)
abbrev pub retired_in : ℕ → ℕ → List Cell → ℕ → ℕ → List Cell
retired_in start length t n s = cond (nat_lt n (window_size start length (flat 0 t))) (retired t (start + n) s) t
