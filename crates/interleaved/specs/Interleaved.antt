-- Two memories in turn: the even blocks are the one's, the odd blocks the other's.
use Rattle.std.specs.Prelude.{◌++◌, Bool, cond, ℕ, ◌*◌, ◌/◌, ◌%◌, min, nat_lt, ◌==◌}
use Rattle.device.specs.Device.{after, device}
use Rattle.memory.specs.declared.cell.Cell.{Cell}
use Rattle.memory.specs.Meaning.{MemoryMeaning, MemoryCall, View, size_of, cell_of, lent_of, block_of, on_block}

pub record Halves : Type 0 where
  pub even : MemoryMeaning
  pub odd : MemoryMeaning

-- twice the smaller size, at most 65,536
abbrev pub interleaved_size : Halves → ℕ
interleaved_size h = min 65536 (2 * min (size_of h.even) (size_of h.odd))

abbrev pub is_even : ℕ → Bool
is_even n = n % 2 == 0

-- a call on one half, and a cell of it
abbrev pub half_step : Bool → Halves → MemoryCall → Halves
half_step even h c = cond even (record { even = after h.even c; odd = h.odd }) (record { even = h.even; odd = after h.odd c })

abbrev pub half_cell : Bool → Halves → ℕ → Cell
half_cell even h k = cond even (cell_of h.even k) (cell_of h.odd k)

-- block n is block n / 2, rounded down, of its half
abbrev pub interleaved_step : Halves → MemoryCall → Halves
interleaved_step h c = cond (nat_lt (block_of c) (interleaved_size h)) (half_step (is_even (block_of c)) h (on_block (block_of c / 2) c)) h

abbrev pub interleaved_view : Halves → View
interleaved_view h = record { cell = λ n. half_cell (is_even n) h (n / 2); lent = lent_of h.even ++ lent_of h.odd }

abbrev pub interleaved : MemoryMeaning → MemoryMeaning → MemoryMeaning
interleaved even odd = device interleaved_size interleaved_view interleaved_step (record { even = even; odd = odd })
