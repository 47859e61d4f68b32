use Rattle.std.proofs.Common.{◌≤◌, ◌+◌, length}
use Rattle.scenario.proofs.Sofar.{Sofar}
use Rattle.scenario.proofs.reader.lines.Given as goal

abbrev pub invariant-loop-bytes : goal.invariant-loop-bytes
invariant-loop-bytes l =
    (l.line + length l.rest ≤ 65537) × (length l.steps ≤ 65536) × Sofar l.fn.first l.fn.placed l.text l.prices l.placements l.section l.line l.rest l.steps

abbrev pub decreases-loop-bytes : goal.decreases-loop-bytes
decreases-loop-bytes l = length l.rest
