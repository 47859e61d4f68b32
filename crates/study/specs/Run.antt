-- A run, which takes steps: its cores, its memory, its weights, and what it has counted.
use Rattle.std.specs.Prelude.{ℕ, ◌+◌, ◌*◌, ◌≤◌, List, Result}
use Rattle.memory.specs.Meaning.{MemoryMeaning}
use Rattle.protocol.specs.declared.answer.Answer.{Answer}
use Rattle.protocol.specs.declared.refusal.Refusal.{Refusal}
use Rattle.protocol.specs.declared.weights.Prices.{Prices}
use Rattle.row.specs.Cores.{CoreMeaning}
use Rattle.study.specs.declared.effect.Performed.{Performed}
use Rattle.study.specs.declared.effect.Performed.TheVariants.{Nothing, Read, Write}

-- accepted steps, writes performed, accesses performed, and the total of all charges
pub record Tally : Type 0 where
  pub steps : ℕ
  pub writes : ℕ
  pub accesses : ℕ
  pub total : ℕ

abbrev pub tally : ℕ → ℕ → ℕ → ℕ → Tally
tally s w a t = record { steps = s; writes = w; accesses = a; total = t }

-- the most steps that a run accepts, and the most that one is charged
abbrev pub most_steps : ℕ
most_steps = 1000000

abbrev pub most_charge : ℕ
most_charge = 2000

-- counts that fit: each step is at most one write, one access and the most that a step is charged
pub record Bounded (k : Tally) : Type 0 where
  pub steps : k.steps ≤ most_steps
  pub writes : k.writes ≤ k.steps
  pub accesses : k.accesses ≤ k.steps
  pub total : k.total ≤ most_charge * k.steps

abbrev pub writes_of : Performed → ℕ
writes_of Nothing = 0
writes_of Read = 0
writes_of Write = 1

abbrev pub accesses_of : Performed → ℕ
accesses_of Nothing = 0
accesses_of Read = 1
accesses_of Write = 1

-- one more accepted step
abbrev pub tallied : Tally → Performed → ℕ → Tally
tallied k p charge = tally (k.steps + 1) (k.writes + writes_of p) (k.accesses + accesses_of p) (k.total + charge)

pub record RunMeaning : Type 0 where
  pub cores : List CoreMeaning
  pub memory : MemoryMeaning
  pub prices : Prices
  pub tally : Tally

abbrev pub a_run : List CoreMeaning → MemoryMeaning → Prices → Tally → RunMeaning
a_run cs m w k = record { cores = cs; memory = m; prices = w; tally = k }

-- what became of a call: the run after it, the answer, and what it was charged
pub record Outcome : Type 0 where
  pub run : RunMeaning
  pub answer : Result Answer Refusal
  pub charge : ℕ

abbrev pub outcome : RunMeaning → Result Answer Refusal → ℕ → Outcome
outcome r a e = record { run = r; answer = a; charge = e }
