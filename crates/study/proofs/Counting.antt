-- The counts of a run are those of its answers.
use Rattle.std.proofs.Common.{◌≡◌, ℕ, ◌+◌, ◌<◌, ◌≤◌, Bool, true, false, cond, eqb, List, [], ◌∷◌, Some, Ok, sym, refl, ap, ◌∙◌, subst, add-zero, arith}
use Rattle.std.proofs.lemmas.Bool.{eqb-true}
use Rattle.memory.specs.Meaning.{MemoryMeaning}
use Rattle.protocol.specs.declared.answer.Answer.{Answer}
use Rattle.protocol.specs.declared.answer.Answer.TheVariants.{Waits, Brought, Read, Wrote, Flushed, Committed}
use Rattle.protocol.specs.declared.answer.Word.{Word}
use Rattle.protocol.specs.declared.call.Call.{Call}
use Rattle.protocol.specs.declared.refusal.Refusal.{Refusal}
use Rattle.protocol.specs.declared.weights.Movement.{Movement}
use Rattle.protocol.specs.declared.weights.Movement.TheVariants.{Still, FromLevel, Memory}
use Rattle.protocol.specs.Answers.{word_of}
use Rattle.protocol.specs.declared.weights.Prices.{Prices}
use Rattle.protocol.specs.Prices.{level_price, price}
use Rattle.row.specs.Cores.{CoreMeaning}
use Rattle.study.specs.Run.{RunMeaning, Outcome, most_steps, most_charge, Bounded, writes_of, accesses_of}
use Rattle.study.specs.Step.{charged, accepted, refused, step}
use Rattle.study.specs.Opening.{opened}
use Rattle.study.specs.Play.{played, history}
use Rattle.study.specs.Words.{is_accepted, is_wrote, is_access, one_if, counted}
use Rattle.study.specs.Report.{charged_for, if_left, ServedFrom, Costs, TotalsFrom, Reported}
use Rattle.protocol.specs.Prices.{Affordable}
use Rattle.protocol.proofs.Affording.{priced}
use Rattle.study.proofs.Outcomes.{Served, Moved, performed_by, of_step}

-- ---- one step

-- whether its answer has such a word
abbrev says : (Word → Bool) → Outcome → ℕ
says p o = one_if p (Some o.answer)

-- what a step adds to the counts is what its answer and its charge say
record Fair (r : RunMeaning) (o : Outcome) : Type 0 where
  prices : o.run.prices ≡ r.prices
  steps : o.run.tally.steps ≡ r.tally.steps + says is_accepted o
  writes : o.run.tally.writes ≡ r.tally.writes + says is_wrote o
  accesses : o.run.tally.accesses ≡ r.tally.accesses + says is_access o
  total : o.run.tally.total ≡ r.tally.total + o.charge
  cost : Costs r.prices o.answer o.charge
  cheap : Affordable r.prices → o.charge ≤ most_charge
  bounded : Affordable r.prices → Bounded r.tally → Bounded o.run.tally

-- what a call is charged for its two movements is what its answer costs
leaver_cost : (w : Prices) (x : Bool) → price w (cond x Memory Still) ≡ if_left w x
leaver_cost w true = refl
leaver_cost w false = refl

sum_of : (w : Prices) (a b a' b' : Movement) {k : ℕ} → a ≡ a' → b ≡ b' → price w b' ≡ k → charged w a b ≡ price w a' + k
sum_of w a b a' b' p q r = let p' = ap (price w) p in let q' = ap (price w) q in omega (arith, p', q', r)

-- what is deeper than level 3 costs what level 4 costs
served_cost : (w : Prices) (a b : Movement) → Served a b → (l : ℕ) × ServedFrom w (charged w a b) l
served_cost w a b (l, x, first, p, q) = go (eqb l 1) (eqb l 2) (eqb l 3) refl refl refl
  where
    sum : charged w a b ≡ level_price w l + if_left w x
    sum = sum_of w a b (FromLevel l) (cond x Memory Still) p q (leaver_cost w x)

    go : (i j k : Bool) → eqb l 1 ≡ i → eqb l 2 ≡ j → eqb l 3 ≡ k → (l : ℕ) × ServedFrom w (charged w a b) l
    go true j k e f g = (1, record { low = omega arith; high = omega arith; left = x; first = λ z. first (eqb-true l 1 e); cost = sum ∙ (rw e refl) })
    go false true k e f g = (2, record { low = omega arith; high = omega arith; left = x; first = λ z. absurd (omega arith); cost = sum ∙ (rw (e, f) refl) })
    go false false true e f g = (3, record { low = omega arith; high = omega arith; left = x; first = λ z. absurd (omega arith); cost = sum ∙ (rw (e, f, g) refl) })
    go false false false e f g = (4, record { low = omega arith; high = omega arith; left = x; first = λ z. absurd (omega arith); cost = sum ∙ (rw (e, f, g) refl) })

moved_cost : (w : Prices) (a b : Movement) (x : Answer) → Moved x a b → Costs w (Ok x) (charged w a b)
moved_cost w a b (Waits n) (p, q) = sum_of w a b Still Still p q refl
moved_cost w a b (Brought n) (p, (x, q)) = (x, sum_of w a b Memory (cond x Memory Still) p q (leaver_cost w x))
moved_cost w a b (Read s) h = served_cost w a b h
moved_cost w a b (Wrote s) h = served_cost w a b h
moved_cost w a b (Flushed n) (p, q) = sum_of w a b Memory Still p q refl ∙ add-zero w.wm
moved_cost w a b (Committed x) (p, q) = sum_of w a b (cond x Memory Still) Still p q refl ∙ add-zero _ ∙ leaver_cost w x

-- an answer's word says what was performed
word_says : (x : Answer) → (is_accepted (word_of (Ok x)) ≡ true) × (writes_of (performed_by x) ≡ one_if is_wrote (Some (Ok x))) × (accesses_of (performed_by x) ≡ one_if is_access (Some (Ok x)))
word_says (Waits n) = (refl, refl, refl)
word_says (Brought n) = (refl, refl, refl)
word_says (Read s) = (refl, refl, refl)
word_says (Wrote s) = (refl, refl, refl)
word_says (Flushed n) = (refl, refl, refl)
word_says (Committed b) = (refl, refl, refl)

-- at most one
one-most : (b : Bool) → cond b 1 0 ≤ 1
one-most true = omega arith
one-most false = omega arith

module _ (r : RunMeaning) where
  fair-refused : (e : Refusal) → Fair r (refused r e)
  fair-refused e = record {
    prices = refl;
    steps = omega arith;
    writes = omega arith;
    accesses = omega arith;
    total = omega arith;
    cost = refl;
    cheap = λ h. omega arith;
    bounded = λ h k. k;
  }

  fair-accepted : r.tally.steps < most_steps → (cs : List CoreMeaning) (m : MemoryMeaning) → Unit {0}
      → (a b : Movement) (x : Answer) → Moved x a b → Fair r (accepted r cs m (performed_by x) a b x)
  fair-accepted room cs m _ a b x moved =
      let word = word_says x in
      let one : one_if is_accepted (Some (Ok x)) ≡ 1 = ap (λ t. cond t 1 0) word.0 in
      record {
        prices = refl;
        steps = ap (λ i. r.tally.steps + i) (sym one);
        writes = ap (λ i. r.tally.writes + i) word.1;
        accesses = ap (λ i. r.tally.accesses + i) word.2;
        total = refl;
        cost = moved_cost r.prices a b x moved;
        cheap = λ h. omega (arith, priced r.prices h a, priced r.prices h b);
        bounded = λ h k. record {
          steps = omega (arith, room);
          writes = omega (arith, k.writes, one-most (is_wrote (word_of (Ok x))), word.1);
          accesses = omega (arith, k.accesses, one-most (is_access (word_of (Ok x))), word.2);
          total = omega (arith, k.total, priced r.prices h a, priced r.prices h b);
        };
      }

  fair-step : (k : Call) → Fair r (step r k)
  fair-step = of_step (λ _. Unit {0}) (λ m c h. tt) r tt (Fair r) fair-refused fair-accepted

-- ---- every list of calls

record Counts (r : RunMeaning) (ks : List Call) : Type 0 where
  prices : (played r ks).prices ≡ r.prices
  steps : (played r ks).tally.steps ≡ r.tally.steps + counted is_accepted (history r ks)
  writes : (played r ks).tally.writes ≡ r.tally.writes + counted is_wrote (history r ks)
  accesses : (played r ks).tally.accesses ≡ r.tally.accesses + counted is_access (history r ks)
  total : (played r ks).tally.total ≡ r.tally.total + charged_for r ks
  bounded : Affordable r.prices → Bounded r.tally → Bounded (played r ks).tally

counts : (ks : List Call) (r : RunMeaning) → Counts r ks
unfolding played history counted charged_for
counts [] r = record {
  prices = refl;
  steps = omega arith;
  writes = omega arith;
  accesses = omega arith;
  total = omega arith;
  bounded = λ h k. k;
}
counts (k ∷ ks) r =
    let here = fair-step r k in
    let rest = counts ks (step r k).run in
    record {
      prices = rest.prices ∙ here.prices;
      steps = omega (arith, here.steps, rest.steps);
      writes = omega (arith, here.writes, rest.writes);
      accesses = omega (arith, here.accesses, rest.accesses);
      total = omega (arith, here.total, rest.total);
      bounded = λ h b. rest.bounded (subst Affordable (sym here.prices) h) (here.bounded h b);
    }

pub prices-kept : (ks : List Call) (r : RunMeaning) → (played r ks).prices ≡ r.prices
prices-kept ks r = (counts ks r).prices

-- the totals that are noted add up
totals_from : (ks : List Call) (r : RunMeaning) → TotalsFrom r.prices r.tally.total (history r ks) (played r ks).tally.total
unfolding history played TotalsFrom
totals_from [] r = refl
totals_from (k ∷ ks) r =
    let here = fair-step r k in
    let next = (step r k).run in
    ((step r k).charge, here.cost, here.total, subst (λ w. TotalsFrom w next.tally.total (history next ks) (played next ks).tally.total) here.prices (totals_from ks next))

pub reported : (cs : List CoreMeaning) (m : MemoryMeaning) (w : Prices) → Affordable w → (ks : List Call) → Reported (opened cs m w) ks
reported cs m w ok ks =
    let r = opened cs m w in
    let end = played r ks in
    let all = counts ks r in
    record {
      steps = omega (arith, all.steps);
      writes = omega (arith, all.writes);
      accesses = omega (arith, all.accesses);
      total = omega (arith, all.total);
      totals = totals_from ks r;
      charges = λ k. (fair-step end k).cheap (subst Affordable (sym all.prices) ok);
      bounded = all.bounded ok (record { steps = omega arith; writes = omega arith; accesses = omega arith; total = omega arith });
    }
