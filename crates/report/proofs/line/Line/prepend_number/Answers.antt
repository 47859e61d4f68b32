use Rattle.std.proofs.Common.{arith, length, length-append, drop, decimal, ap, ◌∙◌}
use Rattle.report.proofs.Rooms.{before, at_most_20}
use Rattle.report.proofs.line.Line.prepend_number.Goals as goal

pub write_digits-self-inside-requires : goal.write_digits-self-inside-requires
write_digits-self-inside-requires c =
    let s = c.self.inside in
    (omega (arith, before s.start s.bytes _ (c.self.view_is ∙ c.prepend.ensures.text) (omega arith), at_most_20 c.args.number (omega arith)), omega arith)

pub returns-clause-length : goal.returns-clause-length
returns-clause-length c =
    let s = c.self.inside in
    omega (arith, ap length c.write_digits-self-inside.ensures.written, length-append (decimal c.args.number) (drop s.start s.bytes), ap length (c.self.view_is ∙ c.prepend.ensures.text), at_most_20 c.args.number (omega arith))
