-- A main memory: numbered blocks, each valid with a stamp, the number of the write that its copy shows, or stale, where a newer
-- copy lives in some cache. What it is: its size, and what it shows after any list of calls. And its laws.
use Rattle.std.specs.Prelude.{◌≡◌, ℕ, ◌<◌, ◌≤◌, cond, List, map, Some, None, Ok, Err, Option, Result, ◌≢◌, nat_lt}
use Rattle.device.specs.Device.{Device, after, seen, Always}
use Rattle.memory.specs.declared.cell.Cell.{Cell}
use Rattle.memory.specs.declared.cell.State.{State}
use Rattle.memory.specs.declared.cell.State.TheVariants.{Valid, Stale}
use Rattle.memory.specs.declared.refusal.Refusal.{Refusal}
use Rattle.memory.specs.declared.refusal.Refusal.TheVariants.{NoSuchBlock}

-- the calls that may alter something: store a stamp in a block, make a block stale
pub data MemoryCall : Type 0 where
  store : ℕ → ℕ → MemoryCall
  stale : ℕ → MemoryCall

-- a table that a caller lent: the ghost name of the loan, and the cells
pub record Lent : Type 0 where
  pub name : ℕ
  pub cells : List Cell

-- what is seen at one moment: each block's state and stamp, and the lent tables as they stand
pub record View : Type 0 where
  pub cell : ℕ → Cell
  pub lent : List Lent

-- a memory is a device whose size no call alters
abbrev pub MemoryMeaning : Type 0
MemoryMeaning = Device ℕ MemoryCall View

abbrev pub size_of : MemoryMeaning → ℕ
size_of m = m.fixed

abbrev pub cell_of : MemoryMeaning → ℕ → Cell
cell_of m n = (seen m).cell n

abbrev pub lent_of : MemoryMeaning → List Lent
lent_of m = (seen m).lent

-- the stamp of a valid block; none of a stale one
abbrev pub stamp_if : State → ℕ → Option ℕ
stamp_if Valid s = Some s
stamp_if Stale s = None

abbrev pub stamp_of : Cell → Option ℕ
stamp_of x = stamp_if x.state x.stamp

-- what `ask` answers, and what `store` and `stale` answer: a block not below the size is refused
abbrev pub asked : MemoryMeaning → ℕ → Result (Option ℕ) Refusal
asked m n = cond (nat_lt n (size_of m)) (Ok (stamp_of (cell_of m n))) (Err NoSuchBlock)

abbrev pub granted : MemoryMeaning → ℕ → Result (Unit {0}) Refusal
granted m n = cond (nat_lt n (size_of m)) (Ok tt) (Err NoSuchBlock)

-- the block that a call names, and the same call on another block
abbrev pub block_of : MemoryCall → ℕ
block_of (store n s) = n
block_of (stale n) = n

abbrev pub on_block : ℕ → MemoryCall → MemoryCall
on_block k (store n s) = store k s
on_block k (stale n) = stale k

-- what the named block comes to
abbrev pub result : MemoryCall → Option ℕ
result (store n s) = Some s
result (stale n) = None

-- what a memory keeps to, as it now is
pub record MemoryLaws (m : MemoryMeaning) : Type 0 where
  pub bounded : size_of m ≤ 65536
  -- a call does its work on the block that it names, and touches no other
  pub named : (c : MemoryCall) → block_of c < size_of m → stamp_of (cell_of (after m c) (block_of c)) ≡ result c
  pub others : (c : MemoryCall) (k : ℕ) → block_of c < size_of m → (k ≢ block_of c) → stamp_of (cell_of (after m c) k) ≡ stamp_of (cell_of m k)
  -- a refused call alters nothing
  pub refused : (c : MemoryCall) → size_of m ≤ block_of c → after m c ≡ m
  -- no call exchanges the lent tables for others
  pub loans : (c : MemoryCall) → map (λ (t : Lent). t.name) (lent_of (after m c)) ≡ map (λ (t : Lent). t.name) (lent_of m)

-- they hold now, and after any list of calls
abbrev pub Lawful : MemoryMeaning → Type 0
Lawful = Always MemoryLaws
