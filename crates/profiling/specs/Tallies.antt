-- What the counts come to over a list of accesses.
use Rattle.std.specs.Prelude.{◌≡◌, ℕ, ◌+◌, min, cond, List, [], ◌∷◌, Option, nat_eq}
use Rattle.std.specs.Option.{option_eq}
use Rattle.tier.specs.Meaning.{TierMeaning}
use Rattle.profiling.specs.Access.{accessed, answer, counted, count_of}

-- the counts after the accesses ns
abbrev pub tallied : TierMeaning → List ℕ → List ℕ → List ℕ
tallied m counts [] = counts
tallied m counts (n ∷ ns) = tallied (accessed m n) (counted counts (answer m n).level) ns

-- how many of the accesses ns a level serves; the misses at none
abbrev pub served_by : TierMeaning → Option ℕ → List ℕ → ℕ
served_by m level [] = 0
served_by m level (n ∷ ns) = cond (option_eq nat_eq (answer m n).level level) 1 0 + served_by (accessed m n) level ns

-- each count is the number of accesses that its level served, or the largest number that fits
abbrev pub CountsAll : TierMeaning → List ℕ → Type 0
CountsAll m counts = (ns : List ℕ) (level : Option ℕ) → count_of (tallied m counts ns) level ≡ min (served_by m level ns) 18446744073709551615
