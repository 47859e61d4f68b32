-- When a put gives a block out, and which: told by what is held, and by when the blocks were last used.
use Rattle.std.specs.Prelude.{◌≡◌, ℕ, suc, ◌%◌, ◌<◌, Bool, true, false, cond, ◌&&◌, List, [], ◌∷◌, length, is_some, Some, None, nat_eq, nat_le, ◌==◌, ◌≢◌}
use Rattle.std.specs.List.{IsDistinct}
use Rattle.std.specs.Set.{is_member}
use Rattle.device.specs.Device.{after, reach, Always}
use Rattle.parts.specs.declared.mark.Mark.{Mark}
use Rattle.parts.specs.declared.line.Line.{Line}
use Rattle.tier.specs.Meaning.{TierMeaning, TierCall, put, take, change, touch, clear, if_held, held_of, out_of}
use Rattle.tier.specs.OneLevel.{OneLevel}

-- whether a call, made of m, is a use of block b: a put that is not refused is one, and so is a touch where touches count
abbrev pub uses : Bool → TierMeaning → TierCall → ℕ → Bool
uses renews m (put n k s) b = if_held (held_of m n) false (n == b)
uses renews m (take n) b = false
uses renews m (change n k s) b = false
uses renews m (touch n) b = cond renews (n == b) false
uses renews m clear b = false

-- when each block was last used, where calls are made of m from time t on; `before` has the uses until then
abbrev pub last_use : Bool → TierMeaning → List TierCall → ℕ → (ℕ → ℕ) → ℕ → ℕ
last_use renews m [] t before = before
last_use renews m (c ∷ cs) t before = last_use renews (after m c) cs (suc t) (λ b. cond (uses renews m c b) t (before b))

-- a put of block n gives a block out just where all ways of its set are taken, block n being of set n mod sets
pub record LeavesWhenFull (sets ways : ℕ) (m : TierMeaning) (n : ℕ) : Type 0 where
  -- the blocks of that set that are held, each once
  pub blocks : List ℕ
  pub held : (b : ℕ) → is_member nat_eq blocks b ≡ (is_some (held_of m b) && b % sets == n % sets)
  pub once : IsDistinct nat_eq blocks
  pub full : (k : Mark) (s : ℕ) → is_some (out_of m n k s) ≡ nat_le ways (length blocks)

-- there is one level; a put gives a block out just where its set is full; what it gives out is of that set, and every other block
-- held there was used after it
pub record OldestLeaves (renews : Bool) (sets ways : ℕ) (m : TierMeaning) : Type 0 where
  pub one_level : Always OneLevel m
  pub when_full : (cs : List TierCall) (n : ℕ) → held_of (reach m cs) n ≡ None → LeavesWhenFull sets ways (reach m cs) n
  pub of_set : (cs : List TierCall) (n : ℕ) (k : Mark) (s : ℕ) (g : Line) → held_of (reach m cs) n ≡ None → out_of (reach m cs) n k s ≡ Some g → g.block % sets ≡ n % sets
  pub longest : (cs : List TierCall) (n : ℕ) (k : Mark) (s : ℕ) (g : Line) → held_of (reach m cs) n ≡ None → out_of (reach m cs) n k s ≡ Some g
      → (b : ℕ) → is_some (held_of (reach m cs) b) ≡ true → b % sets ≡ n % sets → (b ≢ g.block)
      → last_use renews m cs 1 (λ _. 0) g.block < last_use renews m cs 1 (λ _. 0) b
