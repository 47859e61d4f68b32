-- Cores in a row, and what the calls of a row do.
use Rattle.std.specs.Prelude.{ℕ, suc, ◌+◌, min, Bool, true, false, cond, ◌&&◌, ◌||◌, List, [], ◌∷◌, length, Some, None, Option, ◌==◌, nat_lt, slice_index_or, slice_set}
use Rattle.device.specs.Device.{after}
use Rattle.parts.specs.declared.line.Line.{Line}
use Rattle.tier.specs.Meaning.{TierMeaning, put, take, change, clear, look_of, put_answer, Lawful}
use Rattle.moves.specs.Moves.{given, raised, raised_out, modified_stamp}
use Rattle.protocol.specs.declared.access.CoreState.{CoreState}
use Rattle.protocol.specs.declared.access.CoreState.TheVariants.{Ready, Waiting, Due}
use Rattle.protocol.specs.Accesses.{block_of}
use Rattle.row.specs.declared.operation.Operation.{Operation}
use Rattle.row.specs.declared.operation.Operation.TheVariants.{BringUp, Put, Change}

-- a row is the list of its cores, numbered from 0. A core: what its tier holds, and where it stands with its access; the stamp of
-- a copy tells which write the copy shows
pub record CoreMeaning : Type 0 where
  pub tier : TierMeaning
  pub state : CoreState

abbrev pub core : TierMeaning → CoreState → CoreMeaning
core t s = record { tier = t; state = s }

-- a core that is not there: it holds nothing, and is ready
abbrev pub no_tier : TierMeaning
no_tier = record { fixed = 1; shows = λ cs. record { look = λ n. None; out = λ n k s. None } }

unfoldable pub absent : CoreMeaning
absent = core no_tier Ready

-- the most cores that are addressed
abbrev pub most_cores : ℕ
most_cores = 8

-- how many cores there are; more than eight count as nine
abbrev pub count_of : List CoreMeaning → ℕ
count_of cs = min (most_cores + 1) (length cs)

-- core c, and the row with another core in its place; cores after the eighth are never addressed
unfoldable pub core_at : List CoreMeaning → ℕ → CoreMeaning
core_at cs c = cond (nat_lt c most_cores) (slice_index_or cs c absent) absent

unfoldable pub place : List CoreMeaning → ℕ → CoreMeaning → List CoreMeaning
place cs c x = cond (nat_lt c most_cores) (slice_set cs c x) cs

abbrev pub tier_at : List CoreMeaning → ℕ → TierMeaning
tier_at cs c = (core_at cs c).tier

abbrev pub state_at : List CoreMeaning → ℕ → CoreState
state_at cs c = (core_at cs c).state

-- core c in another state
abbrev pub turned : List CoreMeaning → ℕ → CoreState → List CoreMeaning
turned cs c s = place cs c (core (tier_at cs c) s)

-- a tier after an operation, and the line that leaves it
abbrev pub operated : TierMeaning → Operation → TierMeaning
operated t (BringUp n h) = raised t n h
operated t (Put g) = after t (put g.block g.mark g.stamp)
operated t (Change g) = after t (change g.block g.mark g.stamp)

abbrev pub operated_out : TierMeaning → Operation → Option Line
operated_out t (BringUp n h) = raised_out t n h
operated_out t (Put g) = given (put_answer t g.block g.mark g.stamp)
operated_out t (Change g) = None

-- core c after an operation of its tier
abbrev pub done : List CoreMeaning → ℕ → Operation → List CoreMeaning
done cs c o = place cs c (core (operated (tier_at cs c) o) (state_at cs c))

-- a message reaches core i unless i sent it or comes after the eighth
abbrev pub reaches : ℕ → ℕ → Bool
reaches sender i = cond (i == sender) false (nat_lt i most_cores)

-- the core drops block n
abbrev pub dropped : Bool → ℕ → CoreMeaning → CoreMeaning
dropped false n x = x
dropped true n x = core (after x.tier (take n)) x.state

-- every core that the message reaches drops block n; the cores are numbered from i
unfoldable pub invalidated : ℕ → ℕ → ℕ → List CoreMeaning → List CoreMeaning
invalidated i sender n [] = []
invalidated i sender n (x ∷ xs) = dropped (reaches sender i) n x ∷ invalidated (suc i) sender n xs

-- of the copies met in two stretches of a row, the stamp of the last
abbrev pub later : Option ℕ → Option ℕ → Option ℕ
later a None = a
later a (Some s) = Some s

abbrev pub met_by : Bool → ℕ → CoreMeaning → Option ℕ
met_by false n x = None
met_by true n x = modified_stamp (look_of x.tier n)

-- the stamp of the last modified copy that they had
unfoldable pub met : ℕ → ℕ → ℕ → List CoreMeaning → Option ℕ
met i sender n [] = None
met i sender n (x ∷ xs) = later (met_by (reaches sender i) n x) (met (suc i) sender n xs)

abbrev pub awaits : ℕ → CoreState → Bool
awaits n Ready = false
awaits n (Waiting a) = block_of a == n
awaits n (Due a) = false

-- some core that the message reaches waits for block n
unfoldable pub awaited : ℕ → ℕ → ℕ → List CoreMeaning → Bool
awaited i sender n [] = false
awaited i sender n (x ∷ xs) = (reaches sender i && awaits n x.state) || awaited (suc i) sender n xs

-- every tier cleared, every core ready
unfoldable pub renewed : List CoreMeaning → List CoreMeaning
renewed [] = []
renewed (x ∷ xs) = core (after x.tier clear) Ready ∷ renewed xs

-- every core's tier keeps the laws
abbrev pub AllLawful : List CoreMeaning → Type 0
AllLawful [] = Unit {0}
AllLawful (x ∷ xs) = Lawful x.tier × AllLawful xs
