-- Calls after one another, and the record of them.
use Rattle.std.specs.Prelude.{List, [], ◌∷◌, map, Some}
use Rattle.protocol.specs.declared.call.Call.{Call}
use Rattle.study.specs.declared.turn.Played.{Played}
use Rattle.study.specs.declared.turn.Turn.{Turn}
use Rattle.study.specs.Run.{RunMeaning}
use Rattle.study.specs.Step.{step}

-- the run after the calls
unfoldable pub played : RunMeaning → List Call → RunMeaning
played r [] = r
played r (k ∷ ks) = played (step r k).run ks

-- what becomes of a call: its answer, and the total after it
abbrev pub played_of : RunMeaning → Call → Played
played_of r k = record { answer = (step r k).answer; total = (step r k).run.tally.total }

abbrev pub turn_of : RunMeaning → Call → Turn
turn_of r k = record { call = k; played = Some (played_of r k) }

unfoldable pub history : RunMeaning → List Call → List Turn
history r [] = []
history r (k ∷ ks) = turn_of r k ∷ history (step r k).run ks

abbrev pub calls_of : List Turn → List Call
calls_of = map (λ (t : Turn). t.call)
