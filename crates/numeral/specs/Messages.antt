-- What is said of bytes that are no number.
use Rattle.std.specs.Prelude.{ℕ, List, codes}
use Rattle.numeral.specs.declared.BadNumber.{BadNumber}
use Rattle.numeral.specs.declared.BadNumber.TheVariants.{Empty, NotDecimal, TooLarge}

abbrev pub message : BadNumber → List ℕ
message Empty = codes "there is no number"
message NotDecimal = codes "not a decimal number without leading zeros"
message TooLarge = codes "numbers end at 65535"
