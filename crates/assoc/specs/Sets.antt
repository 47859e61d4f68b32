-- A tier of sets: the calls on block n go to set n mod sets.
use Rattle.std.specs.Prelude.{◌≡◌, ℕ, ◌%◌, true, ◌&&◌, List, [], map, length, replicate, is_some, slice_index_or, slice_set}
use Rattle.device.specs.Device.{after, device}
use Rattle.tier.specs.Meaning.{TierMeaning, TierView, TierCall, put, take, change, touch, clear, look_of, out_of}
use Rattle.tier.specs.Building.{within, Asked}
use Rattle.ranked.specs.declared.policy.Lru.{Lru}
use Rattle.ranked.specs.declared.ranked.Ranked.{Ranked}
use Rattle.ranks.specs.Ranks.{ranked}
use Rattle.ranked.specs.Ranked.{ranked_of}

-- each set is a tier of its own
abbrev pub Sets : Type 0
Sets = List TierMeaning

-- an empty set of so many ways, in which touches count
abbrev pub lru : ℕ → TierMeaning
lru ways = ranked true ways []

-- set i, and the sets after a call of set i
abbrev pub nth : Sets → ℕ → TierMeaning
nth ms i = slice_index_or ms i (lru 1)

abbrev pub called : Sets → ℕ → TierCall → Sets
called ms i c = slice_set ms i (after (nth ms i) c)

-- the number of the set of block n
abbrev pub index : Sets → ℕ → ℕ
index ms n = n % length ms

abbrev pub sets_view : Sets → TierView
sets_view ms = record { look = λ n. look_of (nth ms (index ms n)) n; out = λ n k s. out_of (nth ms (index ms n)) n k s }

abbrev pub sets_step : Sets → TierCall → Sets
sets_step ms (put n k s) = called ms (index ms n) (put n k s)
sets_step ms (take n) = called ms (index ms n) (take n)
sets_step ms (change n k s) = called ms (index ms n) (change n k s)
sets_step ms (touch n) = called ms (index ms n) (touch n)
sets_step ms clear = map (λ m. after m clear) ms

abbrev pub set_associative : Sets → TierMeaning
set_associative ms = device (λ _. 1) sets_view sets_step ms

abbrev pub empty : ℕ → ℕ → Sets
empty sets ways = replicate sets (lru ways)

-- what the constructor is asked for: 1 to 16 sets of 1 to 4 ways
abbrev pub asked : ℕ → ℕ → Asked
asked sets ways = record { fits = within 1 16 sets && within 1 4 ways; tier = set_associative (empty sets ways); least = set_associative (empty 1 1) }

-- each set holds blocks of its own only
abbrev pub Placed : Sets → Type 0
Placed ms = (i b : ℕ) → is_some (look_of (nth ms i) b) ≡ true → b % length ms ≡ i

-- what the sets of the code mean: in each, touches count
abbrev pub lru_of : Ranked Lru → TierMeaning
lru_of = ranked_of (λ _. true)

abbrev pub lrus_of : List (Ranked Lru) → Sets
lrus_of = map lru_of
