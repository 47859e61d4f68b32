use Rattle.fields.proofs.Cuts.{Unparted}
use Rattle.fields.proofs.cut.Given as goal

abbrev pub invariant-loop-i : goal.invariant-loop-i
invariant-loop-i l = Unparted l.sep l.i l.bytes
