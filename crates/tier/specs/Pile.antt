-- A pile: two tiers as one, the upper on the lower, next to the core. A line that leaves the upper sinks into the lower.
use Rattle.std.specs.Prelude.{ℕ, ◌+◌, min, Some, None, Option}
use Rattle.device.specs.Device.{after, device}
use Rattle.parts.specs.declared.mark.Mark.{Mark}
use Rattle.parts.specs.declared.line.Line.{Line}
use Rattle.tier.specs.Meaning.{TierMeaning, TierView, TierCall, put, take, change, touch, clear, Holding, depth_of, look_of, held_of, out_of, if_held}

pub record Parts : Type 0 where
  pub upper : TierMeaning
  pub lower : TierMeaning

abbrev pub parts : TierMeaning → TierMeaning → Parts
parts u l = record { upper = u; lower = l }

-- a holding of the lower tier, seen from above d levels
abbrev pub deeper : ℕ → Holding → Holding
deeper d h = (h.0, h.1, min 4 (d + h.2))

abbrev pub first : ℕ → Option Holding → Option Holding → Option Holding
first d None None = None
first d None (Some h) = Some (deeper d h)
first d (Some h) o = Some h

-- what the upper shows, else what the lower shows
abbrev pub pile_look : Parts → ℕ → Option Holding
pile_look p n = first (depth_of p.upper) (look_of p.upper n) (look_of p.lower n)

-- what the upper holds, else what the lower holds
abbrev pub pile_held : Parts → ℕ → Option Holding
pile_held p n = first (depth_of p.upper) (held_of p.upper n) (held_of p.lower n)

-- a block is taken out, if it is held
abbrev pub freed : TierMeaning → ℕ → TierMeaning
freed l n = if_held (held_of l n) (after l (take n)) l

-- a line that the upper gives out sinks: its block is taken out of the lower, if it is there too, and the line is put into the lower
abbrev pub sink : TierMeaning → Option Line → TierMeaning
sink l None = l
sink l (Some g) = after (freed l g.block) (put g.block g.mark g.stamp)

-- what the lower then gives out
abbrev pub sunk : TierMeaning → Option Line → Option Line
sunk l None = None
sunk l (Some g) = out_of (freed l g.block) g.block g.mark g.stamp

-- a line leaves the pile, unless the upper holds its block
abbrev pub unless_held : TierMeaning → Option Line → Option Line
unless_held u None = None
unless_held u (Some g) = if_held (held_of u g.block) None (Some g)

abbrev pub pile_out : Parts → ℕ → Mark → ℕ → Option Line
pile_out p n k s = unless_held (after p.upper (put n k s)) (sunk p.lower (out_of p.upper n k s))

abbrev pub pile_view : Parts → TierView
pile_view p = record { look = pile_look p; out = pile_out p }

-- change and touch go to the part that shows the block
abbrev pub to_shown : Parts → ℕ → TierCall → Parts
to_shown p n c = if_held (look_of p.upper n) (parts (after p.upper c) p.lower) (parts p.upper (after p.lower c))

abbrev pub to_both : Parts → TierCall → Parts
to_both p c = parts (after p.upper c) (after p.lower c)

-- a put is refused, and goes to neither part, if either holds the block
abbrev pub pile_step : Parts → TierCall → Parts
pile_step p (put n k s) = if_held (pile_held p n) p (parts (after p.upper (put n k s)) (sink p.lower (out_of p.upper n k s)))
pile_step p (take n) = to_both p (take n)
pile_step p (change n k s) = to_shown p n (change n k s)
pile_step p (touch n) = to_shown p n (touch n)
pile_step p clear = to_both p clear

abbrev pub pile_depth : Parts → ℕ
pile_depth p = min 4 (depth_of p.upper + depth_of p.lower)

abbrev pub pile : TierMeaning → TierMeaning → TierMeaning
pile u l = device pile_depth pile_view pile_step (parts u l)
