-- A tier of two lines, any block in either, whose choice of what leaves runs freely: the turn to leave passes from one line to the
-- other with every call, also with one that is refused or finds nothing.
use Rattle.std.specs.Prelude.{◌≡◌, ◌≢◌, ℕ, Bool, true, false, not, cond, Some, None, Option, ◌==◌}
use Rattle.std.specs.Option.{option_or}
use Rattle.device.specs.Device.{device}
use Rattle.parts.specs.declared.line.Line.{Line}
use Rattle.parts.specs.Lines.{shown_of}
use Rattle.tier.specs.Meaning.{TierMeaning, TierView, TierCall, put, take, change, touch, clear, Holding, line, if_held}

-- two lines, and whether it is the second's turn to leave
pub record TwoLines : Type 0 where
  pub first : Option Line
  pub second : Option Line
  pub second_leaves : Bool

abbrev pub two_lines : Option Line → Option Line → Bool → TwoLines
two_lines a b t = record { first = a; second = b; second_leaves = t }

-- what a line shows of block n
abbrev pub shows : Option Line → ℕ → Option Holding
shows None n = None
shows (Some g) n = cond (g.block == n) (Some (shown_of g)) None

abbrev pub look : TwoLines → ℕ → Option Holding
look l n = option_or (shows l.first n) (shows l.second n)

-- the line that a put takes: a free one, and where none is free the one whose turn it is
abbrev pub second_of : Option Line → Option Line → Bool → Bool
second_of None b t = false
second_of (Some g) None t = true
second_of (Some g) (Some h) t = t

abbrev pub takes_second : TwoLines → Bool
takes_second l = second_of l.first l.second l.second_leaves

-- what stood there is given out
abbrev pub leaver : TwoLines → Option Line
leaver l = cond (takes_second l) l.second l.first

abbrev pub placed : TwoLines → Option Line → TwoLines
placed l x = cond (takes_second l) (two_lines l.first x l.second_leaves) (two_lines x l.second l.second_leaves)

-- x in the place of a line that has block n
abbrev pub instead : Option Line → ℕ → Option Line → Option Line
instead o n x = if_held (shows o n) x o

abbrev pub both_instead : TwoLines → ℕ → Option Line → TwoLines
both_instead l n x = two_lines (instead l.first n x) (instead l.second n x) l.second_leaves

-- what a call does to the lines
abbrev pub lines_after : TwoLines → TierCall → TwoLines
lines_after l (put n k s) = if_held (look l n) l (placed l (Some (line n k s)))
lines_after l (take n) = both_instead l n None
lines_after l (change n k s) = both_instead l n (Some (line n k s))
lines_after l (touch n) = l
lines_after l clear = two_lines None None l.second_leaves

-- and then, whatever it did, the turn passes on
abbrev pub moved_on : TwoLines → TwoLines
moved_on l = two_lines l.first l.second (not l.second_leaves)

abbrev pub free_view : TwoLines → TierView
free_view l = record { look = look l; out = λ n k s. leaver l }

abbrev pub free_step : TwoLines → TierCall → TwoLines
free_step l c = moved_on (lines_after l c)

abbrev pub free_running : TwoLines → TierMeaning
free_running l = device (λ _. 1) free_view free_step l

abbrev pub cleared : TwoLines
cleared = two_lines None None false

-- no block stands in both lines
abbrev pub Apart : Option Line → Option Line → Type 0
Apart a b = (g h : Line) → a ≡ Some g → b ≡ Some h → g.block ≢ h.block
