use Rattle.std.proofs.Common.{arith, ◌∙◌}
use Rattle.std.proofs.lemmas.List.{length-drop, length-take}
use Rattle.report.proofs.Rooms.{before}
use Rattle.report.proofs.line.Line.prepend_text.Goals as goal

pub overflow_sub-self : goal.overflow_sub-self
overflow_sub-self c =
    let s = c.self.inside in
    omega (arith, before s.start s.bytes _ (c.self.view_is ∙ c.prepend.ensures.text) (omega arith))

pub copy_from_slice-requires : goal.copy_from_slice-requires
copy_from_slice-requires c =
    let s = c.self.inside in
    let room = before s.start s.bytes _ (c.self.view_is ∙ c.prepend.ensures.text) (omega arith) in
    simp (length-take, length-drop) (omega arith)
