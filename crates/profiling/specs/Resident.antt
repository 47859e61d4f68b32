-- Which accesses hit, told by the accesses and their answers alone.
use Rattle.std.specs.Prelude.{◌≡◌, ℕ, Bool, true, false, cond, List, [], ◌∷◌, is_some, Some, Option, nat_eq, ◌==◌}
use Rattle.std.specs.Option.{option_eq}
use Rattle.tier.specs.Meaning.{TierMeaning}
use Rattle.profiling.specs.declared.Access.{Access}
use Rattle.profiling.specs.Access.{accessed, answer}

abbrev pub is_block : Option ℕ → ℕ → Bool
is_block left b = option_eq nat_eq left (Some b)

-- the blocks that are cached after an access of block n: n itself, and those from before but the one that left
abbrev pub noted : (ℕ → Bool) → ℕ → Access → ℕ → Bool
noted cached n a b = cond (n == b) true (cond (is_block a.left b) false (cached b))

-- each access of a list is served by a cache just where its block is cached: accessed before, and not left since
abbrev pub HitsTold : TierMeaning → (ℕ → Bool) → List ℕ → Type 0
HitsTold m cached [] = Unit {0}
HitsTold m cached (n ∷ ns) = (is_some (answer m n).level ≡ cached n) × HitsTold (accessed m n) (noted cached n (answer m n)) ns
