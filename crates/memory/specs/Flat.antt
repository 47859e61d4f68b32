-- A memory over a table of cells: block n is cell n.
use Rattle.std.specs.Prelude.{ℕ, Bool, cond, List, [], ◌∷◌, length, nat_lt, slice_index_or, slice_set}
use Rattle.device.specs.Device.{device}
use Rattle.memory.specs.declared.cell.Cell.{Cell}
use Rattle.memory.specs.declared.cell.State.TheVariants.{Valid, Stale}
use Rattle.memory.specs.Meaning.{MemoryCall, store, stale, View, MemoryMeaning}

-- a table of more than 4,096 cells is a memory with no block, as is one of none
abbrev pub flat_size : List Cell → ℕ
flat_size t = cond (nat_lt 4096 (length t)) 0 (length t)

-- a block table makes a memory with a block: it has 1 to 4,096 cells
abbrev pub fits : List Cell → Bool
fits t = nat_lt 0 (flat_size t)

-- what stands past the end of a table
abbrev pub no_cell : Cell
no_cell = record { state = Valid; stamp = 0 }

abbrev pub write : List Cell → ℕ → Cell → List Cell
write t n x = cond (nat_lt n (flat_size t)) (slice_set t n x) t

-- a cell made stale keeps its stamp
abbrev pub flat_step : List Cell → MemoryCall → List Cell
flat_step t (store n s) = write t n (record { state = Valid; stamp = s })
flat_step t (stale n) = write t n (record { state = Stale; stamp = (slice_index_or t n no_cell).stamp })

abbrev pub flat_view : ℕ → List Cell → View
flat_view a t = record { cell = λ n. slice_index_or t n no_cell; lent = record { name = a; cells = t } ∷ [] }

-- the memory over the table t that was lent under the ghost name a
abbrev pub flat : ℕ → List Cell → MemoryMeaning
flat a t = device flat_size (flat_view a) flat_step t
