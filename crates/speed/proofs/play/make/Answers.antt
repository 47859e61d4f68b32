use Rattle.std.proofs.Common.{ap, ◌∙◌, arith}
use Rattle.study.specs.Stages.{run_of}
use Rattle.study.specs.Step.{step}
use Rattle.speed.specs.Requests.{call_of}
use Rattle.speed.proofs.Requested.{played-next, played_end}
use Rattle.speed.proofs.play.make.Goals as goal

pub loop-request-preserved : goal.loop-request-preserved
loop-request-preserved g c =
    let r = run_of g.R.Row.cores g.M.Memory.meaning c.loop-request.run in
    let made = c.step.ensures.run ∙ ap (λ k. (step r k).run) c.from.ensures in
    played-next call_of r _ _ _ _ c.loop-request-test.true made ∙ c.loop-request.invariant

pub returns : goal.returns
returns g c = played_end call_of _ c.args.requests.now c.loop-request.request-index (omega arith) ∙ c.loop-request.invariant
