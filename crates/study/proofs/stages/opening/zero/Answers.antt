-- No memory has more than 65,536 blocks.
use Rattle.std.proofs.Common.{[], arith}
use Rattle.study.proofs.stages.opening.zero.Goals as goal

pub overflow_cast-block : goal.overflow_cast-block
overflow_cast-block g c = omega (arith, (g.met.M.Memory.lawful c.args.memory.now []).bounded)
