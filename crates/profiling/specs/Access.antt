-- What an access does to the caches of one core, and what it answers.
use Rattle.std.specs.Prelude.{ℕ, ◌+◌, min, cond, List, Some, None, Option, nat_lt, ◌&&◌, slice_index, slice_set}
use Rattle.std.specs.Option.{option_map}
use Rattle.device.specs.Device.{after}
use Rattle.parts.specs.declared.mark.Mark.TheVariants.{Shared}
use Rattle.parts.specs.declared.line.Line.{Line}
use Rattle.tier.specs.Meaning.{TierMeaning, put, Holding, look_of, put_answer}
use Rattle.moves.specs.Moves.{given, raised, raised_out}
use Rattle.profiling.specs.declared.Access.{Access}

-- the answer by the level that had the block, if any, and the line that left
abbrev pub access : Option ℕ → Option Line → Access
access level out = record { level = level; left = option_map (λ (g : Line). g.block) out }

-- a miss fills the block in as shared; a hit brings it up to level 1
abbrev pub next_by : TierMeaning → ℕ → Option Holding → TierMeaning
next_by m n None = after m (put n Shared 0)
next_by m n (Some h) = raised m n h

abbrev pub answer_by : TierMeaning → ℕ → Option Holding → Access
answer_by m n None = access None (given (put_answer m n Shared 0))
answer_by m n (Some h) = access (Some h.2) (raised_out m n h)

-- the tier after an access of block n, and the answer: the level that served it, none for a miss, and the block that left
abbrev pub accessed : TierMeaning → ℕ → TierMeaning
accessed m n = next_by m n (look_of m n)

abbrev pub answer : TierMeaning → ℕ → Access
answer m n = answer_by m n (look_of m n)

-- where accesses are counted: misses at 0, those served at a level from 1 to 4 at its number; no other level serves any
abbrev pub place_of : Option ℕ → Option ℕ
place_of None = Some 0
place_of (Some level) = cond (nat_lt 0 level && nat_lt level 5) (Some level) None

-- one more at a place; a count stops at the largest number that fits
abbrev pub counted_at : List ℕ → Option ℕ → List ℕ
counted_at counts None = counts
counted_at counts (Some i) = slice_set counts i (min (slice_index counts i + 1) 18446744073709551615)

abbrev pub counted : List ℕ → Option ℕ → List ℕ
counted counts level = counted_at counts (place_of level)

abbrev pub count_at : List ℕ → Option ℕ → ℕ
count_at counts None = 0
count_at counts (Some i) = slice_index counts i

abbrev pub count_of : List ℕ → Option ℕ → ℕ
count_of counts level = count_at counts (place_of level)
