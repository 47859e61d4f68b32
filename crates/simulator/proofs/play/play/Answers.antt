use Rattle.std.proofs.Common.{refl, arith}
use Rattle.simulator.proofs.Playing.{on_one, on_both, told_none, played_on, told_on, written_on, played_all, told_all, written_all}
use Rattle.simulator.proofs.play.play.Goals as goal

pub loop-call-init : goal.loop-call-init
loop-call-init g c = let t = told_none _ _ _ _ in (omega (arith, c.args.steps.few), refl, t.0, t.1)

pub loop-call-preserved : goal.loop-call-preserved
loop-call-preserved g c =
    let next = c.in-Some.ensures.next in
    let run = c.take_turn.ensures.run in
    let is = c.take_turn.ensures.played in
    let plain = c.turn-line.ensures.reads_back in (
      omega (arith, c.in-Some.ensures.shorter),
      played_on _ _ _ _ _ _ _ next run c.loop-call.invariant.1,
      told_on _ _ _ _ _ _ _ next run _ _ _ is c.loop-call.invariant.2 plain,
      on_both c.loop-call.written c.write-written.result c.loop-call.invariant.3 c.write-written.ensures
          (written_on _ _ _ _ _ _ _ next run _ _ _ is c.loop-call.invariant.2 plain _ _ _ _ c.turn-line.ensures.text),
    )

pub returns-clause-run : goal.returns-clause-run
returns-clause-run g c = played_all _ _ _ _ c.in_default.ensures.next c.loop-call.invariant.1

pub returns-clause-lines : goal.returns-clause-lines
returns-clause-lines g c = on_one c.loop-call.written c.loop-call.invariant.3 (written_all _ _ _ _ c.in_default.ensures.next _ _ c.loop-call.invariant.2 _ _)

pub returns-clause-reads_back : goal.returns-clause-reads_back
returns-clause-reads_back g c = told_all _ _ _ _ c.in_default.ensures.next _ _ c.loop-call.invariant.2
