-- The laws of hits and of counts, from caches that were cleared.
use Rattle.profiling.proofs.Hits.{cleared_told}
use Rattle.profiling.proofs.Tallies.{counts_all}
use Rattle.profiling.proofs.Profile.new.Goals as goal

pub returns-clause-law : goal.returns-clause-law
returns-clause-law g c = cleared_told _ _ (g.met.T.Tier.lawful c.args.tier) c.idle.ensures.tier

pub returns-clause-tally : goal.returns-clause-tally
returns-clause-tally g c = counts_all _ _ (g.met.T.Tier.lawful c.args.tier) c.idle.ensures.tier _ c.idle.ensures.counts
