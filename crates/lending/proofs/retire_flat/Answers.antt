-- The table that the memory is over is the one that it shows.
use Rattle.lending.proofs.Tables.{memory-back}
use Rattle.lending.proofs.retire_flat.Goals as goal

pub returns : goal.returns
returns c =
    let back = memory-back _ _ _ _ _ _ c.retire.ensures in
    record { cells = back.1; named = back.0 }
