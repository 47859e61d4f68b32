-- A number in decimal digits: 0 to 65,535, without a leading zero.
use Rattle.std.specs.Prelude.{◌≡◌, ℕ, ◌+◌, ◌-◌, ◌*◌, ◌<◌, Bool, cond, ◌&&◌, List, [], ◌∷◌, Ok, Err, decimal, Result, ◌==◌, nat_le, nat_lt}
use Rattle.numeral.specs.declared.BadNumber.{BadNumber}
use Rattle.numeral.specs.declared.BadNumber.TheVariants.{Empty, NotDecimal, TooLarge}

abbrev pub is_digit : ℕ → Bool
is_digit b = nat_le 48 b && nat_le b 57

-- the number that n and then the digits write
abbrev pub digits : ℕ → List ℕ → Result ℕ BadNumber
digits n [] = Ok n
digits n (b ∷ bs) = cond (is_digit b) (cond (nat_lt (10 * n + (b - 48)) 65536) (digits (10 * n + (b - 48)) bs) (Err TooLarge)) (Err NotDecimal)

abbrev pub number_of : List ℕ → Result ℕ BadNumber
number_of [] = Err Empty
number_of (b ∷ []) = digits 0 (b ∷ [])
number_of (b ∷ c ∷ bs) = cond (b == 48) (Err NotDecimal) (digits 0 (b ∷ c ∷ bs))

-- bytes are read as n just where n is below 65,536 and they are what n is written as
abbrev pub ReadsDecimals : List ℕ → Result ℕ BadNumber → Type 0
ReadsDecimals bs r = (n : ℕ) → (r ≡ Ok n → (bs ≡ decimal n) × (n < 65536)) × (bs ≡ decimal n → n < 65536 → r ≡ Ok n)
