use Rattle.std.proofs.Common.{◌∙◌, arith}
use Rattle.study.proofs.Schedules.{played-next, history-next, played_end, history_end}
use Rattle.study.proofs.stages.Run.play.Goals as goal

pub loop-turn-preserved : goal.loop-turn-preserved
loop-turn-preserved g c =
    let turns = c.loop-turn.turn-items in
    let i = c.loop-turn.turn-index in (
      played-next _ _ turns i _ _ (omega arith) c.take_turn.ensures.run c.take_turn.ensures.played ∙ c.loop-turn.invariant.0,
      history-next _ _ turns i _ _ (omega arith) c.take_turn.ensures.run c.take_turn.ensures.played ∙ c.loop-turn.invariant.1,
    )

pub returns : goal.returns
returns g c = record {
  run = played_end _ c.loop-turn.turn-items c.loop-turn.turn-index (omega arith) ∙ c.loop-turn.invariant.0;
  turns = history_end _ c.loop-turn.turn-items c.loop-turn.turn-index (omega arith) ∙ c.loop-turn.invariant.1;
}
