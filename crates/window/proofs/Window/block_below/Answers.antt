-- The block below has a number of 16 bits, since no memory has more than 65,536 blocks.
use Rattle.std.proofs.Common.{[], arith}
use Rattle.window.proofs.Window.block_below.Goals as goal

pub overflow_add-result : goal.overflow_add-result
overflow_add-result g c = omega (arith, (g.met.M.Memory.lawful c.args.self.now.below []).bounded)

pub overflow_cast-result : goal.overflow_cast-result
overflow_cast-result g c = omega (arith, (g.met.M.Memory.lawful c.args.self.now.below []).bounded)
