-- A text is read without a fault exactly if it is written as the format says.
use Rattle.std.specs.Prelude.{◌≡◌, ◌↔◌, ℕ, ◌≤◌, List, map, length, Ok}
use Rattle.protocol.specs.declared.weights.Prices.{Prices}
use Rattle.scenario.specs.Reading.{Read, a_read}
use Rattle.scenario.specs.Texts.{unplaced, scenario_of, single_of}
use Rattle.round_trip.specs.Written.{Placing, Step, written, written_placement, written_schedule, placed, made_by, Writable, Placeable, Steppable}

-- what was read is some weights, placings and steps that the format allows and that the text spells
pub record IsWritten (Spelt : Prices → List Placing → List Step → Type 0) (r : Read) : Type 0 where
  pub weights : Prices
  pub placings : List Placing
  pub steps : List Step
  pub writable : Writable weights
  pub placeable : Placeable unplaced placings
  pub steppable : Steppable (placed unplaced placings) steps
  pub spelt : Spelt weights placings steps
  pub read : r ≡ a_read weights (placed unplaced placings) (map (made_by (placed unplaced placings)) steps)

-- a text is these bytes, and not too long
abbrev pub Spells : List ℕ → List ℕ → Type 0
Spells text bytes = (text ≡ bytes) × (length text ≤ 65536)

-- a scenario is read, and r is what is read, exactly if the table has 256 entries and r is written in the text as the format says
pub record ReadExactly (table text : List ℕ) : Type 0 where
  pub exactly : (r : Read) → (scenario_of table text ≡ Ok r) ↔ ((length table ≡ 256) × IsWritten (λ w ps ss. Spells text (written w ps ss)) r)

-- so with a placement and a schedule, in which the weights, placings and steps of one scenario are written
pub record PairReadExactly (placement schedule : List ℕ) : Type 0 where
  pub exactly : (r : Read) → (single_of placement schedule ≡ Ok r) ↔ IsWritten (λ w ps ss. Spells placement (written_placement ps) × Spells schedule (written_schedule w ss)) r
