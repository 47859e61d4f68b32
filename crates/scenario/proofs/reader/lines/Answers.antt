use Rattle.std.proofs.Common.{refl, arith, rules}
use Rattle.scenario.proofs.Sofar.{stops, weighs, lays, acts, ends, ends_badly, reads, reads_not}
use Rattle.scenario.proofs.reader.lines.Goals as goal
use Rattle.scenario.proofs.reader.lines.Goals.{in-Weigh, in-Lay, in-Make}

pub returns-in_err-given : goal.returns-in_err-given
returns-in_err-given c =
    let e = c.in_err-given.ensures in
    let h = reads_not c.args.first c.args.placed c.args.text.now c.requires _ (stops _ _ _ _ _ _ _ _ _ c.loop-bytes.invariant.2 _ _ c.in-Some.ensures.0 _ e) in
    search (rules, h)

pub loop-bytes-preserved : goal.loop-bytes-preserved
loop-bytes-preserved c =
    let cut = c.in-Some.ensures.0 in
    let sofar = c.loop-bytes.invariant.2 in
    let is = c.in_ok-given.ensures in (
      omega (arith, c.in-Some.ensures.1),
      elim c.match-branch-2.branch [
        | in-Weigh w ↦ rw w.steps-is (omega (arith, c.in-Some.ensures.1))
        | in-Lay w ↦ rw w.steps-is (omega (arith, c.in-Some.ensures.1))
        | in-Make w ↦ rw w.steps-is (omega arith)
      ],
      elim c.match-branch-2.branch [
        | in-Weigh w ↦ rw (w.placements-is, w.prices-is, w.section-is, w.steps-is, w.after_weights-section.ensures)
            (weighs _ _ _ _ _ _ _ _ _ sofar _ _ cut _ (rw w.in-Weigh.is at is))
        | in-Lay w ↦ rw (w.placements-is, w.prices-is, w.section-is, w.steps-is, w.lay.ensures)
            (lays _ _ _ _ _ _ _ _ _ sofar _ _ cut _ _ (rw w.in-Lay.is at is))
        | in-Make w ↦ rw (w.placements-is, w.prices-is, w.section-is, w.steps-is) (acts _ _ _ _ _ _ _ _ _ sofar _ _ cut _ (rw w.in-Make.is at is))
      ],
    )

pub returns-in_err-ended : goal.returns-in_err-ended
returns-in_err-ended c =
    let h = reads_not c.args.first c.args.placed c.args.text.now c.requires _ (ends_badly _ _ _ _ _ _ _ _ _ c.loop-bytes.invariant.2 c.in_default.ensures _ c.in_err-ended.ensures) in
    search (rules, h)

pub returns : goal.returns
returns c = reads c.args.first c.args.placed c.args.text.now c.requires _ _ _ c.loop-bytes.section (ends _ _ _ _ _ _ _ _ _ c.loop-bytes.invariant.2 c.in_default.ensures _ c.in_ok-ended.ensures refl)
