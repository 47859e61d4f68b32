use Rattle.std.proofs.Common.{◌≡◌, ◌≤◌, ◌+◌, OnOk}
use Rattle.std.specs.Io.KnownBytes.{Appends}
use Rattle.study.specs.Play.{played}
use Rattle.study.specs.Stages.{run_of}
use Rattle.scenario.specs.Steps.{calls_in, bytes_left}
use Rattle.report.specs.Lines.{text_of}
use Rattle.simulator.proofs.Playing.{Told}
use Rattle.simulator.proofs.play.play.Given as goal

abbrev pub invariant-loop-call : goal.invariant-loop-call
invariant-loop-call g l =
    let r = run_of g.R.Row.cores g.M.Memory.meaning l.run in
    let r₀ = run_of g.R.Row.cores g.M.Memory.meaning l.initial.run in
    let ks = calls_in l.rest in
    let ks₀ = calls_in l.steps in
    (l.number + bytes_left l.rest ≤ 65538)
    × (played r ks ≡ played r₀ ks₀)
    × (t : Told (g.T.Telling.form l.telling) r r₀ ks ks₀ l.number)
    × OnOk l.written (Appends (g.W.Write.contents l.initial.out) (g.W.Write.contents l.out) (text_of t.done))

abbrev pub decreases-loop-call : goal.decreases-loop-call
decreases-loop-call g l = bytes_left l.rest
