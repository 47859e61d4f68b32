-- A stretch of another memory: block n is block start + n below.
use Rattle.std.specs.Prelude.{ℕ, ◌+◌, ◌-◌, min, cond, nat_lt}
use Rattle.device.specs.Device.{after, device}
use Rattle.memory.specs.Meaning.{MemoryMeaning, MemoryCall, View, size_of, cell_of, lent_of, block_of, on_block}

-- as many blocks as there are below from start on, at most length
abbrev pub window_size : ℕ → ℕ → MemoryMeaning → ℕ
window_size start length m = min length (size_of m - start)

-- what a call makes of the memory below
abbrev pub window_step : ℕ → ℕ → MemoryMeaning → MemoryCall → MemoryMeaning
window_step start length m c = cond (nat_lt (block_of c) (window_size start length m)) (after m (on_block (start + block_of c) c)) m

abbrev pub window_view : ℕ → MemoryMeaning → View
window_view start m = record { cell = λ n. cell_of m (start + n); lent = lent_of m }

abbrev pub window : ℕ → ℕ → MemoryMeaning → MemoryMeaning
window start length m = device (window_size start length) (window_view start) (window_step start length) m
