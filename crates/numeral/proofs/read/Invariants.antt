use Rattle.std.proofs.Common.{◌≡◌, ◌<◌, drop}
use Rattle.numeral.specs.Number.{digits, number_of}
use Rattle.numeral.proofs.read.Given as goal

abbrev pub invariant-loop-b : goal.invariant-loop-b
invariant-loop-b l = (l.n < 65536) × (number_of l.bytes ≡ digits l.n (drop l.b-index l.bytes))
