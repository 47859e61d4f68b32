use Rattle.std.proofs.Common.{◌≡◌, map, drop}
use Rattle.study.specs.Play.{played}
use Rattle.study.specs.Stages.{run_of}
use Rattle.speed.specs.Requests.{call_of}
use Rattle.speed.proofs.play.make.Given as goal

-- making the rest from here comes to what making all came to
abbrev pub invariant-loop-request : goal.invariant-loop-request
invariant-loop-request g l =
    played (run_of g.R.Row.cores g.M.Memory.meaning l.run) (map call_of (drop l.request-index l.requests)) ≡ played (run_of g.R.Row.cores g.M.Memory.meaning l.initial.run) (map call_of l.initial.requests)
