-- A direct-mapped tier: each block has one line where it may stand.
use Rattle.std.specs.Prelude.{◌≡◌, ℕ, ◌%◌, cond, List, length, replicate, Some, None, Option, ◌==◌, slice_index_or, slice_set}
use Rattle.std.specs.Option.{option_map}
use Rattle.device.specs.Device.{device}
use Rattle.parts.specs.declared.line.Line.{Line}
use Rattle.parts.specs.Lines.{shown_of}
use Rattle.tier.specs.Meaning.{TierMeaning, TierView, TierCall, put, take, change, touch, clear, Holding, line, if_held}
use Rattle.tier.specs.Building.{within, Asked}

abbrev pub Lines : Type 0
Lines = List (Option Line)

-- block n belongs to line n mod lines
abbrev pub slot : Lines → ℕ → ℕ
slot ls n = n % length ls

abbrev pub at : Lines → ℕ → Option Line
at ls n = slice_index_or ls (slot ls n) None

-- the line, if it has block n
abbrev pub having : Option Line → ℕ → Option Line
having None n = None
having (Some g) n = cond (g.block == n) (Some g) None

-- what a line shows of block n
abbrev pub shows : Option Line → ℕ → Option Holding
shows o n = option_map shown_of (having o n)

-- a put gives out the block found in its line
abbrev pub direct_view : Lines → TierView
direct_view ls = record { look = λ n. shows (at ls n) n; out = λ n k s. at ls n }

-- touch is ignored
abbrev pub direct_step : Lines → TierCall → Lines
direct_step ls (put n k s) = if_held (shows (at ls n) n) ls (slice_set ls (slot ls n) (Some (line n k s)))
direct_step ls (take n) = if_held (shows (at ls n) n) (slice_set ls (slot ls n) None) ls
direct_step ls (change n k s) = if_held (shows (at ls n) n) (slice_set ls (slot ls n) (Some (line n k s))) ls
direct_step ls (touch n) = ls
direct_step ls clear = replicate (length ls) None

abbrev pub direct : Lines → TierMeaning
direct ls = device (λ _. 1) direct_view direct_step ls

abbrev pub empty : ℕ → Lines
empty lines = replicate lines None

-- what the constructor is asked for: 1 to 64 lines
abbrev pub asked : ℕ → Asked
asked lines = record { fits = within 1 64 lines; tier = direct (empty lines); least = direct (empty 1) }

-- every block stands in its own line
abbrev pub Placed : Lines → Type 0
Placed ls = (i : ℕ) (g : Line) → slice_index_or ls i None ≡ Some g → g.block % length ls ≡ i
