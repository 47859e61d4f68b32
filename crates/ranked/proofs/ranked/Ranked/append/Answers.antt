-- A block that is not there yet may stand last.
use Rattle.std.proofs.Common.{ap, ◌∙◌}
use Rattle.ranks.specs.Ranks.{apart}
use Rattle.ranks.proofs.RanksLemmas.{apart-push}
use Rattle.ranked.proofs.ranked.Ranked.append.Goals as goal

pub invariant_of-self-clause-alone : goal.invariant_of-self-clause-alone
invariant_of-self-clause-alone g c =
    let s = c.args.self.now in
    ap apart c.push_reserved.ensures.items ∙ apart-push s.held.items c.args.line s.alone c.requires.fresh
