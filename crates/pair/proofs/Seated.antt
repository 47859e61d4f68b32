-- A core of two rows is the core on its seat, and what is done to it is done there.
use Rattle.std.proofs.Common.{◌≡◌, ℕ, ◌-◌, ◌<◌, ◌≤◌, List, ◌++◌, length, arith}
use Rattle.std.proofs.lemmas.List.{get_or_append_left, get_or-append_right, set-append_left, set-append_right}
use Rattle.row.specs.Cores.{CoreMeaning, absent, core_at, place}
use Rattle.row.proofs.Single.{nothing_out}

module _ (xs ys : List CoreMeaning) (c : ℕ) where
  pub core_at-first : c < 8 → c < length xs → core_at (xs ++ ys) c ≡ core_at xs c
  unfolding core_at
  core_at-first low here = grind (arith, get_or_append_left)

  pub core_at-second : c < 8 → length xs ≤ c → core_at (xs ++ ys) c ≡ core_at ys (c - length xs)
  unfolding core_at
  core_at-second low past = grind (arith, get_or-append_right)

  pub place-first : (y : CoreMeaning) → c < 8 → c < length xs → place (xs ++ ys) c y ≡ place xs c y ++ ys
  unfolding place
  place-first y low here = grind (arith, set-append_left)

  pub place-second : (y : CoreMeaning) → c < 8 → length xs ≤ c → place (xs ++ ys) c y ≡ xs ++ place ys (c - length xs) y
  unfolding place
  place-second y low past = grind (arith, set-append_right)

pub core_at-nowhere : (xs : List CoreMeaning) (c : ℕ) → 8 ≤ c → core_at xs c ≡ absent
unfolding core_at
core_at-nowhere xs c high = grind arith

pub place-nowhere : (xs : List CoreMeaning) (c : ℕ) (y : CoreMeaning) → 8 ≤ c → place xs c y ≡ xs
unfolding place
place-nowhere xs c y high = grind arith

-- what the calls that name a core of two rows come to
pub ruleset by_seat = (core_at-first, core_at-second, core_at-nowhere, place-first, place-second, place-nowhere, nothing_out)
