-- The put of a block that was taken out, if it was there, is not refused.
use Rattle.std.proofs.Common.{rules}
use Rattle.tier.proofs.Moves.{put-freed}
use Rattle.tier.proofs.pile.sink_into.Goals as goal

pub returns-clause-answer : goal.returns-clause-answer
returns-clause-answer g c =
    let x = c.args.line in
    let e = put-freed _ _ x.block x.mark x.stamp _ (g.met.L.Tier.lawful c.args.lower.now) c.free.ensures c.put.ensures.answer in
    search rules
