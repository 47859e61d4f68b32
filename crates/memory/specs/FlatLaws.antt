-- The laws of a memory over a table.
use Rattle.std.specs.Prelude.{◌≡◌, ℕ, ◌<◌, ◌≤◌, Bool, true, false, cond, List, length, get_or, ◌≢◌, nat_lt, slice_index_or, slice_set, refl}
use Rattle.std.proofs.Common.{sym, ap, ◌∙◌, arith, length-set, get_or-set_same, get_or-set_other, ltb-false, lt-ltb, le-ltb}
use Rattle.device.specs.Device.{after}
use Rattle.device.specs.Laws.{device-after, device_always}
use Rattle.memory.specs.declared.cell.Cell.{Cell}
use Rattle.memory.specs.Meaning.{MemoryCall, store, stale, block_of, result, stamp_of, MemoryLaws, Lawful}
use Rattle.memory.specs.Flat.{flat_size, no_cell, write, flat_step, flat_view, flat}

-- the size, by the number of cells
size-within : (k : ℕ) → cond (nat_lt 4096 k) 0 k ≤ k
size-within k = elim (nat_lt 4096 k) as (λ b. cond b 0 k ≤ k) [ true ↦ omega arith | false ↦ omega arith ]

size-bounded : (k : ℕ) → cond (nat_lt 4096 k) 0 k ≤ 65536
size-bounded k = go (nat_lt 4096 k) refl
  where
    go : (b : Bool) → nat_lt 4096 k ≡ b → cond b 0 k ≤ 65536
    go true e = omega arith
    go false e = omega (arith, ltb-false 4096 k e)

-- one write
write-length : (t : List Cell) (n : ℕ) (x : Cell) → length (write t n x) ≡ length t
write-length t n x =
    elim (nat_lt n (flat_size t)) as (λ b. length (cond b (slice_set t n x) t) ≡ length t) [ true ↦ length-set t n x | false ↦ refl ]

write_same : (t : List Cell) (n : ℕ) (x : Cell) → n < flat_size t → slice_index_or (write t n x) n no_cell ≡ x
write_same t n x h =
    ap (λ b. get_or (cond b (slice_set t n x) t) n no_cell) (lt-ltb n (flat_size t) h)
    ∙ get_or-set_same t n x no_cell (omega (arith, size-within (length t)))

write-other : (t : List Cell) (n k : ℕ) (x : Cell) → (k ≢ n) → slice_index_or (write t n x) k no_cell ≡ slice_index_or t k no_cell
write-other t n k x ne =
    elim (nat_lt n (flat_size t)) as (λ b. slice_index_or (cond b (slice_set t n x) t) k no_cell ≡ slice_index_or t k no_cell) [ true ↦ get_or-set_other t n k x no_cell ne | false ↦ refl ]

write-refused : (t : List Cell) (n : ℕ) (x : Cell) → flat_size t ≤ n → write t n x ≡ t
write-refused t n x h = ap (λ b. cond b (slice_set t n x) t) (le-ltb n (flat_size t) h)

-- one call
step-length : (t : List Cell) (c : MemoryCall) → length (flat_step t c) ≡ length t
step-length t (store n s) = write-length t n _
step-length t (stale n) = write-length t n _

flat-stays : (t : List Cell) (c : MemoryCall) → flat_size (flat_step t c) ≡ flat_size t
flat-stays t c = ap (λ k. cond (nat_lt 4096 k) 0 k) (step-length t c)

flat-named : (t : List Cell) (c : MemoryCall) → block_of c < flat_size t → stamp_of (slice_index_or (flat_step t c) (block_of c) no_cell) ≡ result c
flat-named t (store n s) h = ap stamp_of (write_same t n _ h)
flat-named t (stale n) h = ap stamp_of (write_same t n _ h)

flat-others : (t : List Cell) (c : MemoryCall) (k : ℕ) → (k ≢ block_of c) → slice_index_or (flat_step t c) k no_cell ≡ slice_index_or t k no_cell
flat-others t (store n s) k ne = write-other t n k _ ne
flat-others t (stale n) k ne = write-other t n k _ ne

flat-refused : (t : List Cell) (c : MemoryCall) → flat_size t ≤ block_of c → flat_step t c ≡ t
flat-refused t (store n s) h = write-refused t n _ h
flat-refused t (stale n) h = write-refused t n _ h

module _ (a : ℕ) where
  flat_after : (t : List Cell) (c : MemoryCall) → flat a (flat_step t c) ≡ after (flat a t) c
  flat_after = device-after flat_size (flat_view a) flat_step flat-stays

  flat-laws : (t : List Cell) → Unit {0} → MemoryLaws (flat a t)
  flat-laws t _ = record {
    bounded = size-bounded (length t);
    named = flat-named t;
    others = λ c k h ne. ap stamp_of (flat-others t c k ne);
    refused = λ c h. sym (flat_after t c) ∙ ap (flat a) (flat-refused t c h);
    loans = λ c. refl;
  }

  pub flat-lawful : (t : List Cell) → Lawful (flat a t)
  flat-lawful t = device_always flat_size (flat_view a) flat_step flat-stays MemoryLaws (λ _. Unit {0}) (λ s c u. tt) flat-laws t tt
