-- A tier of a few lines, any block in any line: its lines by age, the oldest first.
use Rattle.std.specs.Prelude.{ℕ, Bool, true, false, cond, List, [], ◌∷◌, ◌++◌, length, is_some, Some, None, Option, ◌==◌, nat_lt}
use Rattle.std.specs.Option.{option_map}
use Rattle.device.specs.Device.{device}
use Rattle.parts.specs.declared.line.Line.{Line}
use Rattle.tier.specs.Building.{within, Asked}
use Rattle.parts.specs.Lines.{shown_of}
use Rattle.tier.specs.Meaning.{TierMeaning, TierView, TierCall, put, take, change, touch, clear, line, if_held}

-- the lines that hold a block, the oldest first
abbrev pub Ranks : Type 0
Ranks = List Line

-- the line of block n, and the lines without it
abbrev pub find : Ranks → ℕ → Option Line
find [] n = None
find (g ∷ gs) n = cond (g.block == n) (Some g) (find gs n)

abbrev pub without : Ranks → ℕ → Ranks
without [] n = []
without (g ∷ gs) n = cond (g.block == n) gs (g ∷ without gs n)

-- x in the place of the line that has its block
abbrev pub renewed : Ranks → Line → Ranks
renewed [] x = []
renewed (g ∷ gs) x = cond (g.block == x.block) (x ∷ gs) (g ∷ renewed gs x)

abbrev pub oldest : Ranks → Option Line
oldest [] = None
oldest (g ∷ gs) = Some g

abbrev pub younger : Ranks → Ranks
younger [] = []
younger (g ∷ gs) = gs

-- where all ways are taken, a put gives out the oldest line, and the younger ones stay
abbrev pub ousted : ℕ → Ranks → Option Line
ousted ways ls = cond (nat_lt (length ls) ways) None (oldest ls)

abbrev pub spared : ℕ → Ranks → Ranks
spared ways ls = cond (nat_lt (length ls) ways) ls (younger ls)

-- what is shown of the lines
abbrev pub ranked_view : ℕ → Ranks → TierView
ranked_view ways ls = record { look = λ n. option_map shown_of (find ls n); out = λ n k s. ousted ways ls }

-- a touch makes a block the youngest, where touches count
abbrev pub touched : Bool → Ranks → ℕ → Option Line → Ranks
touched false ls n o = ls
touched true ls n None = ls
touched true ls n (Some g) = without ls n ++ g ∷ []

abbrev pub ranked_step : Bool → ℕ → Ranks → TierCall → Ranks
ranked_step renews ways ls (put n k s) = if_held (find ls n) ls (spared ways ls ++ line n k s ∷ [])
ranked_step renews ways ls (take n) = without ls n
ranked_step renews ways ls (change n k s) = renewed ls (line n k s)
ranked_step renews ways ls (touch n) = touched renews ls n (find ls n)
ranked_step renews ways ls clear = []

-- the tier of so many ways whose lines are ls; `renews` says whether touches count
abbrev pub ranked : Bool → ℕ → Ranks → TierMeaning
ranked renews ways ls = device (λ _. 1) (ranked_view ways) (ranked_step renews ways) ls

-- what the constructor is asked for: 1 to 16 ways
abbrev pub asked : Bool → ℕ → Asked
asked renews ways = record { fits = within 1 16 ways; tier = ranked renews ways []; least = ranked renews 1 [] }

-- no block stands twice
abbrev pub apart : Ranks → Bool
apart [] = true
apart (g ∷ gs) = cond (is_some (find gs g.block)) false (apart gs)
