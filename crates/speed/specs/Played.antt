-- What a schedule comes to.
use Rattle.std.specs.Prelude.{◌≡◌, ℕ, List, Some, None, Ok, Err, Option, Result}
use Rattle.protocol.specs.declared.call.Call.{Call}
use Rattle.protocol.specs.declared.refusal.Refusal.{Refusal}
use Rattle.protocol.specs.declared.weights.Prices.{Prices}
use Rattle.protocol.specs.Prices.{prices}
use Rattle.row.specs.Cores.{CoreMeaning}
use Rattle.machine_study.specs.Reported.{cells}
use Rattle.study.specs.Opening.{opening}
use Rattle.study.specs.Settling.{Ending, simulated}
use Rattle.speed.specs.declared.requests.Tally.{Tally}
use Rattle.speed.specs.Requests.{tally_in}

abbrev pub weights : Prices
weights = prices 1 10 20 30 100

-- the tally of a study that was opened
abbrev pub tally_of : Result Ending Refusal → Option Tally
tally_of (Ok x) = Some (tally_in x.quote)
tally_of (Err e) = None

-- the calls come to this tally on the cores over so many blocks; the table is lent under some name
pub record Played (cs : List CoreMeaning) (blocks : ℕ) (ks : List Call) (t : Tally) : Type 0 where
  pub name : ℕ
  pub tally : Some t ≡ tally_of (simulated (opening cs (cells name blocks) weights) ks)
