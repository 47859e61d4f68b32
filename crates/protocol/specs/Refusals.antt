-- The number of each refusal of a study.
use Rattle.std.specs.Prelude.{ℕ}
use Rattle.protocol.specs.declared.refusal.Refusal.{Refusal}
use Rattle.protocol.specs.declared.refusal.Refusal.TheVariants.{TooManyCores, NoBlocks, WeightTooHigh, TooManySteps, NoSuchCore, NoSuchBlock, WrongState, StaleBlock, NotOwed}

abbrev pub refusal_number : Refusal → ℕ
refusal_number TooManyCores = 1
refusal_number NoBlocks = 2
refusal_number WeightTooHigh = 3
refusal_number TooManySteps = 4
refusal_number NoSuchCore = 5
refusal_number NoSuchBlock = 6
refusal_number WrongState = 7
refusal_number StaleBlock = 8
refusal_number NotOwed = 9
