-- A study that came to an end leaves the lent table as its memory is.
use Rattle.std.proofs.Common.{◌≡◌, ℕ, Bool, true, false, cond, eqb, ltb, List, [], ◌∷◌, map, Ok, Err, Result, sym, refl, ap, ◌∙◌, arith}
use Rattle.memory.specs.declared.cell.Cell.{Cell}
use Rattle.memory.specs.Meaning.{MemoryMeaning, Lent, size_of, lent_of}
use Rattle.memory.specs.Flat.{flat}
use Rattle.memory.specs.FlatLaws.{flat-lawful}
use Rattle.protocol.specs.declared.call.Call.{Call}
use Rattle.protocol.specs.declared.refusal.Refusal.{Refusal}
use Rattle.protocol.specs.declared.refusal.Refusal.TheVariants.{TooManyCores, NoBlocks, WeightTooHigh}
use Rattle.protocol.specs.declared.weights.Prices.{Prices}
use Rattle.protocol.specs.Prices.{is_dear, weighing}
use Rattle.row.specs.Cores.{CoreMeaning, count_of}
use Rattle.study.specs.declared.quote.Quote.{Quote}
use Rattle.study.specs.Run.{RunMeaning}
use Rattle.study.specs.Opening.{opened, opening, started}
use Rattle.study.specs.Play.{played}
use Rattle.study.specs.Settling.{Ending, simulated, quoted, memory_after}
use Rattle.study.specs.Stages.{weighed_as, answer_of}
use Rattle.study.proofs.Loans.{loans-kept}
use Rattle.lent_study.specs.Lent.{lent}

no_end : (x : Ending) (e : Refusal) → ◌≡◌ {A = Result Ending Refusal} (Ok x) (Err e) → ⊥
no_end x e p = let z : ◌≡◌ {A = ℕ} 0 1 = cc in omega arith

-- the quote of a study that was played and settled
abbrev pub quote_in : Result Ending Refusal → Result Quote Refusal
quote_in (Ok x) = Ok x.quote
quote_in (Err e) = Err e

pub quotes : (o : Result RunMeaning Refusal) (ks : List Call) → quote_in (simulated o ks) ≡ quoted o ks
quotes (Ok r) ks = refl
quotes (Err e) ks = refl

-- a weighing that was not refused: the draft opens at the new weights
pub weighed-started : (W : Result Prices Refusal) (w w' : Prices) (cs : List CoreMeaning) (m : MemoryMeaning) → Ok tt ≡ answer_of W → w ≡ weighed_as W w' → started W cs m ≡ opening cs m w
weighed-started (Ok v) w w' cs m e p = ap (opening cs m) (sym p)
weighed-started (Err x) w w' cs m e p = let z : ◌≡◌ {A = ℕ} 0 1 = cc in absurd (omega arith)

-- its weights are those that were asked for
pub weighed-at : (w v v' : Prices) → Ok tt ≡ answer_of (weighing w) → v ≡ weighed_as (weighing w) v' → v ≡ w
weighed-at w v v' = go (is_dear w)
  where
    high : Bool → Result Prices Refusal
    high b = cond b (Err WeightTooHigh) (Ok w)

    go : (b : Bool) → Ok tt ≡ answer_of (high b) → v ≡ weighed_as (high b) v' → v ≡ w
    go true e p = let z : ◌≡◌ {A = ℕ} 0 1 = cc in absurd (omega arith)
    go false e p = p

names : MemoryMeaning → List ℕ
names m = map (λ (t : Lent). t.name) (lent_of m)

head : List ℕ → ℕ
head [] = 0
head (x ∷ xs) = x

-- the table t was lent under the name a; the memory that comes back is over t', under the name b
module _ (cs : List CoreMeaning) (w : Prices) (ks : List Call) (a b : ℕ) (t t' : List Cell) (x : Ending) (memory : x.memory ≡ flat b t') where
  pub record Returned (o : Result RunMeaning Refusal) : Type 0 where
    pub named : b ≡ a
    pub table : lent_of (memory_after o (flat a t) ks) ≡ lent a t' ∷ []

  from_run : flat b t' ≡ (played (opened cs (flat a t) w) ks).memory → Returned (Ok (opened cs (flat a t) w))
  unfolding names head
  from_run e =
      let same : b ≡ a = ap (λ m. head (names m)) e ∙ ap head (loans-kept cs (flat a t) w ks (flat-lawful a t)) in
      record { named = same; table = sym (ap (λ (m : MemoryMeaning). lent_of m) e) ∙ ap (λ n. lent n t' ∷ []) same }

  pub returned : Ok x ≡ simulated (opening cs (flat a t) w) ks → Returned (opening cs (flat a t) w)
  returned = go (ltb 8 (count_of cs)) (eqb (size_of (flat a t)) 0)
    where
      go : (p q : Bool) → Ok x ≡ simulated (cond p (Err TooManyCores) (cond q (Err NoBlocks) (Ok (opened cs (flat a t) w)))) ks
          → Returned (cond p (Err TooManyCores) (cond q (Err NoBlocks) (Ok (opened cs (flat a t) w))))
      go true q e = absurd (no_end x TooManyCores e)
      go false true e = absurd (no_end x NoBlocks e)
      go false false e = from_run (let f : x.memory ≡ (played (opened cs (flat a t) w) ks).memory = cc in sym memory ∙ f)
