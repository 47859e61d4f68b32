use Rattle.assoc.proofs.Calls.{Cleared}
use Rattle.assoc.proofs.set_associative.SetAssociativeTier.clear.Given as goal

abbrev pub invariant-loop-set : goal.invariant-loop-set
invariant-loop-set l = Cleared l.fn.self l.set-index l.set-items
