-- The number of each refusal of a memory.
use Rattle.std.specs.Prelude.{ℕ}
use Rattle.memory.specs.declared.refusal.Refusal.{Refusal}
use Rattle.memory.specs.declared.refusal.Refusal.TheVariants.{NoSuchBlock, BadTable}

abbrev pub refusal_number : Refusal → ℕ
refusal_number NoSuchBlock = 6
refusal_number BadTable = 13
