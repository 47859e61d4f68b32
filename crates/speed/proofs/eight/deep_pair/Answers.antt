-- Two rows of the same cores, side by side, have these cores twice.
use Rattle.speed.specs.Private.{caches_of}
use Rattle.speed.proofs.eight.deep_pair.Goals as goal

pub returns : goal.returns
unfolding caches_of
returns c = c.beside.ensures _ c.deep_core.ensures c.deep_core-2.ensures
