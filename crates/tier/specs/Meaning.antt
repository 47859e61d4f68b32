-- A tier: what one core holds of main memory, in one cache level or several. What it is: its depth, the number of its levels,
-- and what it shows after any list of calls. And its laws.
use Rattle.std.specs.Prelude.{◌≡◌, ℕ, ◌≤◌, true, is_some, Some, None, Ok, Err, Option, Result, ◌≢◌}
use Rattle.std.specs.Option.{option_map}
use Rattle.device.specs.Device.{Device, after, seen, Always}
use Rattle.parts.specs.declared.mark.Mark.{Mark}
use Rattle.parts.specs.declared.line.Line.{Line}
use Rattle.parts.specs.declared.refusal.Refusal.{Refusal}
use Rattle.parts.specs.declared.refusal.Refusal.TheVariants.{AlreadyHeld, NotHeld}
use Rattle.parts.specs.Marks.{mark_number}

-- the calls that may alter something, of a block, a mark and a stamp: to hold a block, to free it, to give a held block another
-- mark and stamp, to tell that a held block was used, and to free every block
pub data TierCall : Type 0 where
  put : ℕ → Mark → ℕ → TierCall
  take : ℕ → TierCall
  change : ℕ → Mark → ℕ → TierCall
  touch : ℕ → TierCall
  clear : TierCall

-- what is shown of a block: the number of its mark, its stamp (the number of the write that the copy shows) and its level
-- (1 is the one next to the core)
abbrev pub Holding : Type 0
Holding = ℕ × ℕ × ℕ

-- what is seen at one moment: what look shows of each block, and what a put of a block, mark and stamp would give out
pub record TierView : Type 0 where
  pub look : ℕ → Option Holding
  pub out : ℕ → Mark → ℕ → Option Line

-- a tier is a device whose depth no call alters
abbrev pub TierMeaning : Type 0
TierMeaning = Device ℕ TierCall TierView

abbrev pub depth_of : TierMeaning → ℕ
depth_of m = m.fixed

abbrev pub look_of : TierMeaning → ℕ → Option Holding
look_of m n = (seen m).look n

-- what a tier holds of a block: all that it shows. What put, change and touch ask, and the laws, are told by what is held
abbrev pub held_of : TierMeaning → ℕ → Option Holding
held_of m n = look_of m n

abbrev pub out_of : TierMeaning → ℕ → Mark → ℕ → Option Line
out_of m n k s = (seen m).out n k s

abbrev pub line : ℕ → Mark → ℕ → Line
line n k s = record { block = n; mark = k; stamp = s }

-- x where the block is held, else y
abbrev pub if_held : {H X : Type 0} → Option H → X → X → X
if_held None x y = y
if_held (Some h) x y = x

-- what put answers: a held block is refused
abbrev pub put_answer : TierMeaning → ℕ → Mark → ℕ → Result (Option Line) Refusal
put_answer m n k s = if_held (held_of m n) (Err AlreadyHeld) (Ok (out_of m n k s))

-- what change and touch answer: a block that is not held is refused
abbrev pub held_answer : TierMeaning → ℕ → Result (Unit {0}) Refusal
held_answer m n = if_held (held_of m n) (Ok tt) (Err NotHeld)

-- a holding without its level
abbrev pub bare : Option Holding → Option (ℕ × ℕ)
bare = option_map (λ (h : Holding). (h.0, h.1))

-- What a tier keeps to, as it now is. The laws speak of holdings alone: which block a put will give out is each kind's own affair,
-- and may hang on any call made before, also on one that was refused.
pub record TierLaws (m : TierMeaning) : Type 0 where
  -- there are 1 to 4 levels; a held block is shared or modified, at level 1 to 4
  pub depth_low : 1 ≤ depth_of m
  pub depth_high : depth_of m ≤ 4
  pub marks : (n : ℕ) (h : Holding) → held_of m n ≡ Some h → h.0 ≤ 1
  pub levels : (n : ℕ) (h : Holding) → held_of m n ≡ Some h → (1 ≤ h.2) × (h.2 ≤ 4)
  -- a put of a block that is not held: the block is held at level 1 as given
  pub put_in : (n : ℕ) (k : Mark) (s : ℕ) → held_of m n ≡ None → held_of (after m (put n k s)) n ≡ Some (mark_number k, s, 1)
  -- what is given out, if anything, was held with that mark and stamp, and is held no more
  pub out_held : (n : ℕ) (k : Mark) (s : ℕ) (g : Line) → held_of m n ≡ None → out_of m n k s ≡ Some g → bare (held_of m g.block) ≡ Some (mark_number g.mark, g.stamp)
  pub out_gone : (n : ℕ) (k : Mark) (s : ℕ) (g : Line) → held_of m n ≡ None → out_of m n k s ≡ Some g → held_of (after m (put n k s)) g.block ≡ None
  -- all others keep mark and stamp
  pub put_rest : (n : ℕ) (k : Mark) (s b : ℕ) → held_of m n ≡ None → (b ≢ n) → (option_map (λ (g : Line). g.block) (out_of m n k s) ≢ Some b)
      → bare (held_of (after m (put n k s)) b) ≡ bare (held_of m b)
  -- a put of a held block, which is refused: every block is held as before
  pub put_held : (n : ℕ) (k : Mark) (s b : ℕ) → is_some (held_of m n) ≡ true → held_of (after m (put n k s)) b ≡ held_of m b
  -- a take: the block is not held, and all others are as before
  pub take_gone : (n : ℕ) → held_of (after m (take n)) n ≡ None
  pub take_rest : (n b : ℕ) → (b ≢ n) → held_of (after m (take n)) b ≡ held_of m b
  -- a change of a held block gives it mark and stamp, at the same level
  pub change_in : (n : ℕ) (k : Mark) (s : ℕ) (h : Holding) → held_of m n ≡ Some h → held_of (after m (change n k s)) n ≡ Some (mark_number k, s, h.2)
  -- one of a block that is not held, which is refused, does not make it held; and neither touches another block
  pub change_free : (n : ℕ) (k : Mark) (s : ℕ) → held_of m n ≡ None → held_of (after m (change n k s)) n ≡ None
  pub change_rest : (n : ℕ) (k : Mark) (s b : ℕ) → (b ≢ n) → held_of (after m (change n k s)) b ≡ held_of m b
  -- a touch, refused or not, leaves every block as it is held; a clear leaves nothing held
  pub touch_look : (n b : ℕ) → held_of (after m (touch n)) b ≡ held_of m b
  pub clear_gone : (n : ℕ) → held_of (after m clear) n ≡ None

-- they hold now, and after any list of calls
abbrev pub Lawful : TierMeaning → Type 0
Lawful = Always TierLaws
