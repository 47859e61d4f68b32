-- Numbers are read as they are written.
use Rattle.std.proofs.Common.{◌≡◌, ℕ, ◌+◌, ◌-◌, ◌*◌, ◌^◌, ◌<◌, ◌≤◌, true, List, [], ◌∷◌, length, get_or, Ok, decimal, Result, sym, refl, ap, ◌∙◌, arith, rules}
use Rattle.std.specs.Str.{all_ascii_digits}
use Rattle.std.proofs.lemmas.Bool.Decides.{nat_tests}
use Rattle.std.proofs.lemmas.Str.Parse.{IsNumeralModel, numerals_by_fold}
use Rattle.std.proofs.lemmas.Fmt.{digits_decimal, digits_value-decimal, decimal-digits_value, decimal_nonempty, first_decimal, length-decimal-le}
use Rattle.numeral.specs.declared.BadNumber.{BadNumber}
use Rattle.numeral.specs.Number.{digits, number_of, ReadsDecimals}

abbrev value : ℕ → List ℕ → ℕ
value n [] = n
value n (b ∷ bs) = value (10 * n + (b - 48)) bs

own : IsNumeralModel (λ ds. all_ascii_digits ds ≡ true) (value 0)
own = numerals_by_fold _ (search rules) value (search rules)

-- ---- what is read was written

reads : (n : ℕ) (bs : List ℕ) (m : ℕ) → n < 65536 → digits n bs ≡ Ok m → (all_ascii_digits bs ≡ true) × (value n bs ≡ m) × (m < 65536)
reads n [] m h e = grind arith
reads n (b ∷ bs) m h e = grind (arith, nat_tests, reads (10 * n + (b - 48)) bs m)

-- without a leading zero the digits decide
plain : (s : List ℕ) → 0 < length s → (get_or s 0 0 ≡ 48 → length s ≤ 1) → number_of s ≡ digits 0 s
plain [] h w = absurd (omega arith)
plain (b ∷ []) h w = refl
plain (b ∷ c ∷ s) h w = grind (arith, nat_tests)

unpadded : (s : List ℕ) (n : ℕ) → number_of s ≡ Ok n → (0 < length s) × (get_or s 0 0 ≡ 48 → length s ≡ 1)
unpadded [] n e = grind arith
unpadded (b ∷ []) n e = grind arith
unpadded (b ∷ c ∷ s) n e = grind (arith, nat_tests)

forward : (bs : List ℕ) (n : ℕ) → number_of bs ≡ Ok n → (bs ≡ decimal n) × (n < 65536)
forward bs n e =
    let u = unpadded bs n e in
    let r = reads 0 bs n (omega arith) (sym (plain bs u.0 (λ z. omega (arith, u.1 z))) ∙ e) in
    let fits : value 0 bs < 2 ^ 64 = omega (arith, r.1, r.2) in
    (sym (decimal-digits_value own bs r.0 u.0 u.1 fits) ∙ ap decimal r.1, r.2)

-- ---- what is written is read

grows : (n : ℕ) (bs : List ℕ) → n ≤ value n bs
grows n [] = omega arith
grows n (b ∷ bs) = omega (arith, grows (10 * n + (b - 48)) bs)

written : (n : ℕ) (bs : List ℕ) → all_ascii_digits bs ≡ true → value n bs < 65536 → digits n bs ≡ Ok (value n bs)
written n [] a h = refl
written n (b ∷ bs) a h = grind (arith, nat_tests, grows (10 * n + (b - 48)) bs, written (10 * n + (b - 48)) bs)

backward : (n : ℕ) → n < 65536 → number_of (decimal n) ≡ Ok n
backward n h =
    let fits : n < 2 ^ 64 = omega arith in
    let is = digits_value-decimal own n fits in
    let lead : get_or (decimal n) 0 0 ≡ 48 → length (decimal n) ≤ 1 = λ z. grind (arith, first_decimal n, length-decimal-le 1 n) in
    plain (decimal n) (decimal_nonempty n fits) lead ∙ written 0 (decimal n) (digits_decimal own n fits) (omega (arith, is)) ∙ ap Ok is

pub reads_decimals : (bs : List ℕ) (r : Result ℕ BadNumber) → r ≡ number_of bs → ReadsDecimals bs r
reads_decimals bs r q n = (λ e. forward bs n (sym q ∙ e), λ e h. q ∙ ap number_of e ∙ backward n h)
