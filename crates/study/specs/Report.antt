-- What a reader of the report can check, over whole schedules.
use Rattle.std.specs.Prelude.{◌≡◌, ℕ, ◌+◌, ◌≤◌, Bool, false, cond, List, [], ◌∷◌, Some, None, Ok, Err, Option, Result}
use Rattle.protocol.specs.declared.answer.Answer.{Answer}
use Rattle.protocol.specs.declared.answer.Answer.TheVariants.{Waits, Brought, Read, Wrote, Flushed, Committed}
use Rattle.protocol.specs.declared.call.Call.{Call}
use Rattle.protocol.specs.declared.refusal.Refusal.{Refusal}
use Rattle.protocol.specs.declared.weights.Prices.{Prices}
use Rattle.protocol.specs.Prices.{level_price}
use Rattle.study.specs.declared.turn.Played.{Played}
use Rattle.study.specs.declared.turn.Turn.{Turn}
use Rattle.study.specs.Run.{RunMeaning, most_charge, Bounded}
use Rattle.study.specs.Step.{step}
use Rattle.study.specs.Play.{played, history}
use Rattle.study.specs.Words.{is_accepted, is_wrote, is_access, counted}

-- the sum of what the calls were charged, from the run r on
unfoldable pub charged_for : RunMeaning → List Call → ℕ
charged_for r [] = 0
charged_for r (k ∷ ks) = (step r k).charge + charged_for (step r k).run ks

-- what it costs more, at the weights w, where a modified line leaves the caches for the block
abbrev pub if_left : Prices → Bool → ℕ
if_left w b = cond b w.wm 0

-- an access of a block that was held at level l (4 stands for all that is deeper); at level 1 no line leaves for it
pub record ServedFrom (w : Prices) (c l : ℕ) : Type 0 where
  pub low : 1 ≤ l
  pub high : l ≤ 4
  pub left : Bool
  pub first : l ≡ 1 → left ≡ false
  pub cost : c ≡ level_price w l + if_left w left

-- what a call that is answered so is charged
abbrev pub Costs : Prices → Result Answer Refusal → ℕ → Type 0
Costs w (Ok (Waits n)) c = c ≡ 0
Costs w (Ok (Brought n)) c = (b : Bool) × (c ≡ w.wm + if_left w b)
Costs w (Ok (Read s)) c = (l : ℕ) × ServedFrom w c l
Costs w (Ok (Wrote s)) c = (l : ℕ) × ServedFrom w c l
Costs w (Ok (Flushed n)) c = c ≡ w.wm
Costs w (Ok (Committed b)) c = c ≡ cond b w.wm 0
Costs w (Err e) c = c ≡ 0

-- the total noted is the one before it and what the answer costs, and so is the rest
abbrev pub TotalTurn : Prices → ℕ → Option Played → (ℕ → Type 0) → Type 0
TotalTurn w before None rest = ⊥
TotalTurn w before (Some p) rest = (c : ℕ) × Costs w p.answer c × (p.total ≡ before + c) × rest p.total

-- every total noted in a history adds what its answer costs, and the last is the total at the end
unfoldable pub TotalsFrom : Prices → ℕ → List Turn → ℕ → Type 0
TotalsFrom w before [] end = before ≡ end
TotalsFrom w before (t ∷ ts) end = TotalTurn w before t.played (λ total. TotalsFrom w total ts end)

-- of a run r that has counted nothing yet
pub record Reported (r : RunMeaning) (ks : List Call) : Type 0 where
  -- accepted steps, writes and accesses are the numbers of accepted, of wrote, and of read or wrote answers
  pub steps : (played r ks).tally.steps ≡ counted is_accepted (history r ks)
  pub writes : (played r ks).tally.writes ≡ counted is_wrote (history r ks)
  pub accesses : (played r ks).tally.accesses ≡ counted is_access (history r ks)
  -- the total is the sum of what the steps charged
  pub total : (played r ks).tally.total ≡ charged_for r ks
  pub totals : TotalsFrom r.prices 0 (history r ks) (played r ks).tally.total
  pub charges : (k : Call) → (step (played r ks) k).charge ≤ most_charge
  pub bounded : Bounded (played r ks).tally
