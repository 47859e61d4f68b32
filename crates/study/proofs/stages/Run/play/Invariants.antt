use Rattle.std.proofs.Common.{◌≡◌, ◌++◌, take, drop}
use Rattle.study.specs.Play.{played, history, calls_of}
use Rattle.study.specs.Stages.{run_of}
use Rattle.study.proofs.stages.Run.play.Given as goal

-- playing the rest from here comes to what playing the whole came to
abbrev pub invariant-loop-turn : goal.invariant-loop-turn
invariant-loop-turn g l =
    (played (run_of g.R.Row.cores g.M.Memory.meaning l.self) (calls_of (drop l.turn-index l.turn-items)) ≡ played (run_of g.R.Row.cores g.M.Memory.meaning l.initial.self) (calls_of l.initial.turn-items))
    × (take l.turn-index l.turn-items ++ history (run_of g.R.Row.cores g.M.Memory.meaning l.self) (calls_of (drop l.turn-index l.turn-items)) ≡ history (run_of g.R.Row.cores g.M.Memory.meaning l.initial.self) (calls_of l.initial.turn-items))
