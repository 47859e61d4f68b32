-- The row that was made is the one that is meant.
use Rattle.std.proofs.Common.{map, cond, ap, IfSome, subst, sym, ◌∙◌}
use Rattle.machine.specs.Machine.{two_cores}
use Rattle.speed.specs.Requests.{call_of}
use Rattle.speed.specs.Eight.{eight_cores}
use Rattle.speed.specs.Private.{caches_of}
use Rattle.speed.specs.Played.{Played}
use Rattle.speed.proofs.exports.played.Goals as goal

pub returns-then-deep : goal.returns-then-deep
unfolding caches_of
returns-then-deep c =
    let meant = c.in-Ok.ensures ∙ sym (ap (λ d. cond d eight_cores two_cores) c.if-deep.true) in
    subst (λ cs. IfSome c.play.result (Played cs c.args.blocks (map call_of c.args.requests.now))) meant c.play.ensures
