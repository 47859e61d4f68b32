-- The line stands in the place of the one that has its block.
use Rattle.std.proofs.Common.{ap, ap₂, ◌∙◌}
use Rattle.examples.specs.FreeRunning.{two_lines, moved_on, free_running}
use Rattle.examples.proofs.free_running.FreeRunningTier.change.Goals as goal

pub returns-clause-next : goal.returns-clause-next
returns-clause-next c =
    ap free_running (c.move_on.ensures ∙ ap₂ (λ a b. moved_on (two_lines a b c.args.self.now.second_leaves)) c.instead-self.ensures c.instead-self-2.ensures)
