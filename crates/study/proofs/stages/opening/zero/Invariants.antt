use Rattle.std.proofs.Common.{◌≡◌}
use Rattle.study.specs.Opening.{zeroed}
use Rattle.study.proofs.stages.opening.zero.Given as goal

abbrev pub invariant-loop-block : goal.invariant-loop-block
invariant-loop-block g l = g.M.Memory.meaning l.memory ≡ zeroed l.block (g.M.Memory.meaning l.initial.memory)
