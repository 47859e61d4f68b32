-- A study over a table that the caller lends.
use Rattle.std.specs.Prelude.{◌≡◌, ℕ, OnOk, List, [], ◌∷◌, Result}
use Rattle.memory.specs.declared.cell.Cell.{Cell}
use Rattle.memory.specs.Meaning.{Lent, lent_of}
use Rattle.memory.specs.Flat.{flat}
use Rattle.protocol.specs.declared.refusal.Refusal.{Refusal}
use Rattle.protocol.specs.declared.weights.Prices.{Prices}
use Rattle.protocol.specs.Prices.{weighing}
use Rattle.row.specs.Cores.{CoreMeaning}
use Rattle.study.specs.declared.quote.Quote.{Quote}
use Rattle.study.specs.declared.turn.Turn.{Turn}
use Rattle.study.specs.Opening.{started}
use Rattle.study.specs.Play.{calls_of}
use Rattle.study.specs.Settling.{quoted, memory_after, recorded}
use Rattle.study.specs.Warrant.{Warranted}

abbrev pub lent : ℕ → List Cell → Lent
lent a t = record { name = a; cells = t }

-- cells t are lent under the name a; t' come back
pub record LentStudy (w : Prices) (cs : List CoreMeaning) (a : ℕ) (t t' : List Cell) (turns turns' : List Turn) (answer : Result Quote Refusal) : Type 0 where
  pub table : lent_of (memory_after (started (weighing w) cs (flat a t)) (flat a t) (calls_of turns)) ≡ lent a t' ∷ []
  pub schedule : turns' ≡ recorded (started (weighing w) cs (flat a t)) turns
  pub quote : answer ≡ quoted (started (weighing w) cs (flat a t)) (calls_of turns)
  -- a study that is not refused is warranted
  pub warrant : OnOk answer (Warranted cs (flat a t) w)
