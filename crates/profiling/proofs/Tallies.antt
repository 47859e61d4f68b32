-- The counts are those of the accesses.
use Rattle.std.proofs.Common.{◌≡◌, ℕ, ◌+◌, ◌≤◌, min, true, cond, List, [], ◌∷◌, length, ap, ◌∙◌, arith, is_some, Some, None, Option, nat_eq}
use Rattle.std.proofs.lemmas.Grind.{common_steps}
use Rattle.std.specs.Option.{option_eq}
use Rattle.device.specs.Device.{after}
use Rattle.tier.specs.Meaning.{TierMeaning, clear, Lawful}
use Rattle.profiling.specs.Access.{accessed, answer, place_of, counted, count_of}
use Rattle.profiling.specs.Tallies.{tallied, served_by, CountsAll}
use Rattle.profiling.proofs.Hits.{told, cleared}

abbrev most : ℕ
most = 18446744073709551615

-- one access
counted-length : (counts : List ℕ) (at : Option ℕ) → length (counted counts at) ≡ length counts
counted-length counts None = grind (arith, common_steps)
counted-length counts (Some a) = grind (arith, common_steps)

counted-at : (counts : List ℕ) (at level : Option ℕ) → length counts ≡ 5 → is_some (place_of at) ≡ true → count_of counts level ≤ most
    → count_of (counted counts at) level ≡ min (count_of counts level + cond (option_eq nat_eq at level) 1 0) most
counted-at counts None level five placed fits = grind (arith, common_steps)
counted-at counts (Some a) level five placed fits = grind (arith, common_steps)

counts_on : (ns : List ℕ) (m : TierMeaning) → Lawful m → (counts : List ℕ) (level : Option ℕ) → length counts ≡ 5 → count_of counts level ≤ most
    → count_of (tallied m counts ns) level ≡ min (count_of counts level + served_by m level ns) most
counts_on [] m ok counts level five fits = omega arith
counts_on (n ∷ ns) m ok counts level five fits =
    let t = told m ok n in
    let here = counted-at counts (answer m n).level level five t.placed fits in
    let rest = counts_on ns (accessed m n) t.lawful (counted counts (answer m n).level) level (counted-length counts (answer m n).level ∙ five) (omega arith) in
    rest ∙ omega (arith, here)

-- five counts of nothing
abbrev zeros : List ℕ
zeros = 0 ∷ 0 ∷ 0 ∷ 0 ∷ 0 ∷ []

zeros-at : (level : Option ℕ) → count_of zeros level ≡ 0
zeros-at level = grind (arith, common_steps)

pub counts_all : (m x : TierMeaning) → Lawful m → x ≡ after m clear → (counts : List ℕ) → counts ≡ zeros → CountsAll x counts
counts_all m x ok e counts z ns level = grind (arith, zeros-at level, counts_on ns x (cleared m x ok e) counts level (ap length z))
