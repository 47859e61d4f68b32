use Rattle.std.proofs.Common.{vec_items}
use Rattle.intake.proofs.Taken.{taken}
use Rattle.intake.proofs.text.Goals as goal

pub returns-clause-given : goal.returns-clause-given
returns-clause-given g c =
    taken (g.R.Read.remaining c.args.input) 65537 (vec_items c.read_to_end.new.buf) _ c.truncate.ensures.items
    (rw (c.take.ensures.limit, c.most.ensures, c.take.ensures.inner, c.new-bytes.ensures.items) at c.in_ok-read_to_end.ensures.bytes)
