-- What a study comes to.
use Rattle.std.specs.Prelude.{List, Ok, Err, Result}
use Rattle.memory.specs.Meaning.{MemoryMeaning}
use Rattle.protocol.specs.declared.call.Call.{Call}
use Rattle.protocol.specs.declared.refusal.Refusal.{Refusal}
use Rattle.row.specs.Cores.{CoreMeaning}
use Rattle.study.specs.declared.quote.Quote.{Quote}
use Rattle.study.specs.declared.turn.Turn.{Turn}
use Rattle.study.specs.Figure.{figure_of}
use Rattle.study.specs.Run.{Tally, RunMeaning}
use Rattle.study.specs.Play.{played, history, calls_of}

-- what a run has come to by its counts
abbrev pub quote_of : Tally → Quote
quote_of k = record { accesses = k.accesses; total = k.total; figure = figure_of k.total k.accesses }

-- what is given back when a run is settled
pub record Ending : Type 0 where
  pub cores : List CoreMeaning
  pub memory : MemoryMeaning
  pub quote : Quote

abbrev pub ending : List CoreMeaning → MemoryMeaning → Quote → Ending
ending cs m q = record { cores = cs; memory = m; quote = q }

abbrev pub end_of : RunMeaning → Ending
end_of r = ending r.cores r.memory (quote_of r.tally)

-- what an opened study comes to: its quote, and cores and memory as the run leaves them; a refused one leaves them untouched
abbrev pub quoted : {E : Type 0} → Result RunMeaning E → List Call → Result Quote E
quoted (Ok r) ks = Ok (quote_of (played r ks).tally)
quoted (Err e) ks = Err e

abbrev pub cores_after : {E : Type 0} → Result RunMeaning E → List CoreMeaning → List Call → List CoreMeaning
cores_after (Ok r) cs ks = (played r ks).cores
cores_after (Err e) cs ks = cs

abbrev pub memory_after : {E : Type 0} → Result RunMeaning E → MemoryMeaning → List Call → MemoryMeaning
memory_after (Ok r) m ks = (played r ks).memory
memory_after (Err e) m ks = m

-- an opened study is played and settled; a refused one is not
abbrev pub simulated : Result RunMeaning Refusal → List Call → Result Ending Refusal
simulated (Ok r) ks = Ok (end_of (played r ks))
simulated (Err e) ks = Err e

-- the schedule afterwards: every call answered, or nothing touched
abbrev pub recorded : Result RunMeaning Refusal → List Turn → List Turn
recorded (Ok r) ts = history r (calls_of ts)
recorded (Err e) ts = ts
