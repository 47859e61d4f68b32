use Rattle.moves.proofs.Raising.{raised_look}
use Rattle.moves.proofs.bring_up.Goals as goal

pub returns-clause-law : goal.returns-clause-law
returns-clause-law g c = λ e. rw c.raise.ensures.next (raised_look _ (g.met.T.Tier.lawful c.args.tier.now) _ _ e)
