-- Two rows of the same cores, side by side, have these cores twice.
use Rattle.speed.specs.Private.{caches_of}
use Rattle.speed.proofs.eight.four_cores.Goals as goal

pub returns : goal.returns
unfolding caches_of
returns c = c.beside.ensures _ c.deep_pair.ensures c.deep_pair-2.ensures
