-- The table that comes back is the one that the window shows.
use Rattle.memory.specs.Flat.{flat}
use Rattle.window.specs.Window.{window}
use Rattle.lending.proofs.Tables.{window-back}
use Rattle.lending.proofs.lend_to_window.Goals as goal

pub returns : goal.returns
returns c =
    let new = c.new-window.ensures in
    let back = window-back c.args.start c.args.length _ _ _ _ c.over.result.table.now _ _ _ _
    (λ i. window (new.1 i) (new.2 i) (flat (new.0 i).table.ghost_name (new.0 i).table.now)) c.retire_owned-window.ensures in
    record { value = cc; named = cc }
