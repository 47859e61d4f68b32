-- The first place that has the block.
use Rattle.std.proofs.Common.{sym, subst, rules, tests}
use Rattle.std.proofs.lemmas.Iterator.{YieldsList-from_slice}
use Rattle.std.proofs.lemmas.Iterator.Search.{position_from_yields_List}
use Rattle.ranked.specs.Private.{Place}
use Rattle.ranked.proofs.Places.{has, first_place}
use Rattle.ranked.proofs.ranked.Ranked.position.Goals as goal

pub returns : goal.returns
returns g c =
    subst (λ r. Place c.args.self.now.held.items c.args.block r)
    (sym (position_from_yields_List (has c.args.block) _ _ c.position.result c.position.ensures.ran (YieldsList-from_slice _ cc) (λ x b q k. search (rules, tests))))
    (first_place c.args.block c.args.self.now.held.items c.args.self.now.alone)
