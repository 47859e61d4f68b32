-- The law of lines by age, of the tier that was built.
use Rattle.tier.proofs.Builds.{builds_made, within_low}
use Rattle.ranked.specs.Ranked.{ranked_of}
use Rattle.ranked.specs.Ages.{OldestLeaves}
use Rattle.ranked.proofs.Ages.{oldest_leaves}
use Rattle.ranked.proofs.ranked.Ranked.with_policy.Goals as goal

pub returns-clause-law : goal.returns-clause-law
returns-clause-law g c =
    let renews = g.P.Replacement.renewing c.args.policy in
    builds_made (ranked_of g.P.Replacement.renewing) (OldestLeaves renews 1 c.args.ways) _ c.sized.result c.sized.ensures
    (λ e. oldest_leaves renews c.args.ways (within_low 1 16 c.args.ways e))
