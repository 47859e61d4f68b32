-- After the call each set still holds blocks of its own only.
use Rattle.std.proofs.Common.{refl}
use Rattle.tier.specs.Meaning.{change}
use Rattle.assoc.proofs.Calls.{set-placed}
use Rattle.assoc.proofs.set_associative.SetAssociativeTier.change.Goals as goal

pub invariant_of-self-clause-placed : goal.invariant_of-self-clause-placed
invariant_of-self-clause-placed c = set-placed c.args.self.now c.args.line.block (change c.args.line.block _ _) _ refl c.set_of-set.ensures c.index_mut.ensures.value c.change.ensures.next
