-- A device is what it shows after any list of calls. Tiers and main memories are devices.
use Rattle.std.specs.Prelude.{List, [], ◌∷◌}

-- K is what no call alters, C the calls that may alter something, V what is seen at one moment
pub record Device (K C V : Type 0) : Type 0 where
  pub fixed : K
  pub shows : List C → V

-- the device after one call, and after a list of calls
abbrev pub after : {K C V : Type 0} → Device K C V → C → Device K C V
after d c = record { fixed = d.fixed; shows = λ cs. d.shows (c ∷ cs) }

abbrev pub reach : {K C V : Type 0} → Device K C V → List C → Device K C V
reach d [] = d
reach d (c ∷ cs) = reach (after d c) cs

-- what is seen now
abbrev pub seen : {K C V : Type 0} → Device K C V → V
seen d = d.shows []

-- P holds now, and after any list of calls
abbrev pub Always : {K C V : Type 0} → (Device K C V → Type 0) → Device K C V → Type 0
Always {C = C} P d = (cs : List C) → P (reach d cs)

-- the state after a list of calls
abbrev pub run : {S C : Type 0} → (S → C → S) → S → List C → S
run step s [] = s
run step s (c ∷ cs) = run step (step s c) cs

-- the device that a state is, by what the state shows and how a call alters it
abbrev pub device : {S K C V : Type 0} → (S → K) → (S → V) → (S → C → S) → S → Device K C V
device fixed view step s = record { fixed = fixed s; shows = λ cs. view (run step s cs) }
