-- Sets that are cleared one after another are all cleared in the end.
use Rattle.std.proofs.Common.{rules}
use Rattle.tier.specs.Meaning.{clear}
use Rattle.assoc.proofs.Calls.{stays-placed, cleared_more, cleared_all}
use Rattle.assoc.proofs.set_associative.SetAssociativeTier.clear.Goals as goal

pub loop-set-preserved : goal.loop-set-preserved
loop-set-preserved c =
    cleared_more c.args.self.now c.loop-set.set-items c.loop-set.set-index c.set-item.result c.clear.new.self (search rules) (search rules) c.loop-set.invariant c.clear.ensures

pub invariant_of-self-clause-placed : goal.invariant_of-self-clause-placed
invariant_of-self-clause-placed c =
    let t = c.args.self.now in
    stays-placed t _ clear (cleared_all t c.loop-set.set-items c.loop-set.set-index (search rules) (search rules) c.loop-set.invariant)
