-- What a pile holds, told of its two tiers.
use Rattle.std.specs.Prelude.{◌≡◌, ℕ, ◌+◌, min, List, Some, None}
use Rattle.parts.specs.declared.mark.Mark.{Mark}
use Rattle.parts.specs.declared.line.Line.{Line}
use Rattle.parts.specs.Marks.{mark_number}
use Rattle.device.specs.Device.{after, reach}
use Rattle.tier.specs.Meaning.{TierMeaning, TierCall, put, change, touch, Holding, depth_of, held_of, out_of, bare}
use Rattle.tier.specs.Pile.{pile}

-- p is as deep as u and l together, but at most 4; it holds what u holds and, of the rest, what l holds, deeper by u's depth; no
-- block is in both
pub record Stacked (p u l : TierMeaning) : Type 0 where
  pub depth : depth_of p ≡ min 4 (depth_of u + depth_of l)
  pub upper : (n : ℕ) (h : Holding) → held_of u n ≡ Some h → held_of p n ≡ Some h
  pub lower : (n : ℕ) (h : Holding) → held_of u n ≡ None → held_of l n ≡ Some h → held_of p n ≡ Some (h.0, h.1, min 4 (depth_of u + h.2))
  pub neither : (n : ℕ) → held_of u n ≡ None → held_of l n ≡ None → held_of p n ≡ None
  pub apart : (n : ℕ) (h : Holding) → held_of u n ≡ Some h → held_of l n ≡ None

-- a put into p, of u on l: a line that u gives out for it stays in the pile, just below u, and only then a line may leave the pile,
-- one that l held
pub record Sinks (p u l : TierMeaning) (n : ℕ) (k : Mark) (s : ℕ) : Type 0 where
  pub sunk : (g : Line) → out_of u n k s ≡ Some g → held_of (after p (put n k s)) g.block ≡ Some (mark_number g.mark, g.stamp, min 4 (depth_of u + 1))
  pub nothing : out_of u n k s ≡ None → out_of p n k s ≡ None
  pub leaver : (x : Line) → out_of p n k s ≡ Some x → bare (held_of l x.block) ≡ Some (mark_number x.mark, x.stamp)

-- a call of p about block n alone, a change or a touch, is made of the one part that has the block, u if that holds it, and else l
pub record ToOnePart (p u l : TierMeaning) (n : ℕ) (c : TierCall) : Type 0 where
  pub above : (h : Holding) → held_of u n ≡ Some h → after p c ≡ pile (after u c) l
  pub below : held_of u n ≡ None → after p c ≡ pile u (after l c)

-- the pile p is made of the tiers u and l, each as some calls left it, and is stacked of them; a put of a block that it does not
-- hold sinks the line that leaves the upper
pub record MadeOf (p u l : TierMeaning) : Type 0 where
  pub above : List TierCall
  pub below : List TierCall
  pub made : p ≡ pile (reach u above) (reach l below)
  pub stacked : Stacked p (reach u above) (reach l below)
  pub sinks : (n : ℕ) (k : Mark) (s : ℕ) → held_of p n ≡ None → Sinks p (reach u above) (reach l below) n k s
  pub changes : (n : ℕ) (k : Mark) (s : ℕ) → ToOnePart p (reach u above) (reach l below) n (change n k s)
  pub touches : (n : ℕ) → ToOnePart p (reach u above) (reach l below) n (touch n)

-- so it is after any list of calls
abbrev pub StaysStacked : TierMeaning → TierMeaning → TierMeaning → Type 0
StaysStacked p u l = (cs : List TierCall) → MadeOf (reach p cs) u l
