-- What a lawful memory makes of a call that was passed on to one of its blocks.
use Rattle.std.specs.Prelude.{◌≡◌, ℕ, ◌<◌, ◌≢◌}
use Rattle.device.specs.Device.{after}
use Rattle.memory.specs.Meaning.{MemoryMeaning, MemoryCall, store, stale, size_of, cell_of, stamp_of, on_block, result, MemoryLaws}

pub call_named : (m : MemoryMeaning) → MemoryLaws m → (c : MemoryCall) (k : ℕ) → k < size_of m → stamp_of (cell_of (after m (on_block k c)) k) ≡ result c
call_named m laws (store n s) k h = laws.named (store k s) h
call_named m laws (stale n) k h = laws.named (stale k) h

pub call_others : (m : MemoryMeaning) → MemoryLaws m → (c : MemoryCall) (k j : ℕ) → k < size_of m → (j ≢ k) → stamp_of (cell_of (after m (on_block k c)) j) ≡ stamp_of (cell_of m j)
call_others m laws (store n s) k j h ne = laws.others (store k s) j h ne
call_others m laws (stale n) k j h ne = laws.others (stale k) j h ne
