-- What is told of a call leaves no choice.
use Rattle.std.specs.Prelude.{◌≡◌, ℕ, Result}
use Rattle.protocol.specs.declared.answer.Answer.{Answer}
use Rattle.protocol.specs.declared.call.Call.{Call}
use Rattle.protocol.specs.declared.refusal.Refusal.{Refusal}
use Rattle.row.specs.Cores.{core_at}
use Rattle.study.specs.Run.{RunMeaning}
use Rattle.study.specs.Step.{step}
use Rattle.study.specs.Told.{Told}

-- two ways in which a run may go on that nobody can tell apart: the answers, the charges, each core with its tier, and the memory
pub record Same (r r' : RunMeaning) (x x' : Result Answer Refusal) (e e' : ℕ) : Type 0 where
  pub answer : x ≡ x'
  pub charge : e ≡ e'
  pub cores : (c : ℕ) → core_at r.cores c ≡ core_at r'.cores c
  pub memory : r.memory ≡ r'.memory

-- whatever the call k may be told of is what the step does
abbrev pub Decided : RunMeaning → Call → Type 0
Decided r k = (r' : RunMeaning) (x : Result Answer Refusal) (e : ℕ) → Told k r r' x e → Same r' (step r k).run x (step r k).answer e (step r k).charge
