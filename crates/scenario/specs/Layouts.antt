-- The layout table: for each reference its block, or 65,536 if it is unplaced.
use Rattle.std.specs.Prelude.{ℕ, cond, Some, None, Ok, Err, Option, Result, ◌==◌, nat_lt}
use Rattle.records.specs.declared.fault.Place.{Place}
use Rattle.scenario.specs.declared.fault.LayoutFault.{LayoutFault}
use Rattle.scenario.specs.declared.fault.LayoutFault.TheVariants.{Taken, Unplaced}

-- the entry of a reference, if there is one, says that it may be placed
abbrev pub free : Place → Option ℕ → Result (Unit {0}) LayoutFault
free at None = Err (Taken at)
free at (Some n) = cond (n == 65536) (Ok tt) (Err (Taken at))

-- the block that the entry of a reference names
abbrev pub block_at : Place → Option ℕ → Result ℕ LayoutFault
block_at at None = Err (Unplaced at)
block_at at (Some n) = cond (nat_lt n 65536) (Ok n) (Err (Unplaced at))
