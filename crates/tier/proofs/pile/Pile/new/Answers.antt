-- Two tiers that were cleared have no block in common, so the pile stays stacked.
use Rattle.tier.proofs.Stacks.{cleared_stacked}
use Rattle.tier.proofs.pile.Pile.new.Goals as goal

pub returns : goal.returns
returns g c = record {
  cleared = c.stack.ensures;
  stacked = cleared_stacked _ _ _ (g.met.U.Tier.lawful c.args.upper) (g.met.L.Tier.lawful c.args.lower) c.stack.ensures;
}
