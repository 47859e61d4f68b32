-- After any calls, cores and memory are coherent and every read was honest.
use Rattle.std.proofs.Common.{◌≡◌, ℕ, zero, suc, ◌+◌, ◌<◌, ◌≤◌, min, false, eqb, ◌≢◌, ⊎_elim, List, [], ◌∷◌, length, get_or, Some, None, Option, sym, refl, ap, ◌∙◌, subst, le_of_suc-le-suc, not-suc-le-zero, arith}
use mathlib.Core.Bool.{false≢true}
use native.Mathlib.Decide.{ℕ_discrete}
use Rattle.std.proofs.lemmas.Bool.{cases_lt}
use Rattle.device.specs.Device.{after}
use Rattle.tier.specs.Meaning.{clear, Holding, look_of, bare, Lawful as LawfulTier}
use Rattle.tier.specs.Options.{never, none-some}
use Rattle.memory.specs.Meaning.{MemoryMeaning, store, size_of, Lawful as LawfulMemory}
use Rattle.protocol.specs.declared.access.CoreState.TheVariants.{Ready}
use Rattle.protocol.specs.declared.call.Call.{Call}
use Rattle.protocol.specs.Answers.{word_of}
use Rattle.protocol.specs.declared.weights.Prices.{Prices}
use Rattle.moves.specs.Moves.{is_modified, raised}
use Rattle.row.specs.declared.operation.Operation.TheVariants.{BringUp}
use Rattle.row.specs.Cores.{CoreMeaning, core, absent, count_of, core_at, tier_at, met, renewed, AllLawful}
use Rattle.study.specs.Run.{RunMeaning}
use Rattle.study.specs.Step.{valid, brought_up, step}
use Rattle.study.specs.Opening.{zeroed, opened}
use Rattle.study.specs.Play.{played, history}
use Rattle.study.specs.Book.{Book, new_book, noted, HonestFrom}
use Rattle.study.specs.Coherence.{copy_of, Coherent, Unmet}
use Rattle.study.specs.Told.{Tells}
use Rattle.study.specs.Decided.{Decided}
use Rattle.study.specs.Warrant.{Becomes, SameMachine}
use Rattle.study.proofs.Block.{Copy, shared, modified, AtMostShared, Consistent, clean, owned, owner, sharer, stamped}
use Rattle.study.proofs.Tiers.{held, lawful-after}
use Rattle.study.proofs.Memories.{valid-named, valid-others}
use Rattle.study.proofs.Rows.{at_place, past, absent-holds, absent_shows, Replaced, turned-done, met-none}
use Rattle.study.proofs.Sound.{Sound, inside, at_most}
use Rattle.study.proofs.Accesses.{Inv}
use Rattle.study.proofs.Steps.{step-good}
use Rattle.study.proofs.Choices.{alike}
use Rattle.study.proofs.Calling.{still, then_becomes, turns}
use Rattle.study.proofs.Loans.{opened-keeps}
use Rattle.study.proofs.Counting.{prices-kept}

-- a block that no core owns is clean
unowned : (k : ℕ) (h : ℕ → Option Copy) (v : Option ℕ) → Consistent k h v → ((c s : ℕ) → h c ≡ Some (modified s) → ⊥)
    → (i : ℕ) × (v ≡ Some i) × ((c s : ℕ) → (j : ℕ) × (h c ≡ Some (j, s)) → s ≡ i)
unowned k h v (clean p q) f = (k, p, λ c s e. stamped k h v c (e.0, s) e.1 (clean p q))
unowned k h v (owned o p q z) f = absurd (f o k p)

-- sound cores and memory are coherent
coherent : (cs : List CoreMeaning) (m : MemoryMeaning) (num : ℕ → ℕ) → Sound cs m num → Coherent cs m
coherent cs m num S = record {
  alone = λ n c d s e ne. (owner (num n) _ _ c s e (S.blocks n (inside cs m num S c n _ e))).alone d ne;
  behind = λ n c s e. (owner (num n) _ _ c s e (S.blocks n (inside cs m num S c n _ e))).behind;
  agreed = λ n h f. unowned (num n) _ _ (S.blocks n h) f;
  inside = λ n c s e. inside cs m num S c n _ e.1;
}

-- a memory whose blocks below k have the stamp 0
record Zeroed (k : ℕ) (m m' : MemoryMeaning) : Type 0 where
  lawful : LawfulMemory m'
  size : size_of m' ≡ size_of m
  zeros : (n : ℕ) → n < k → valid m' n ≡ Some 0

zeroes : (k : ℕ) (m : MemoryMeaning) → LawfulMemory m → k ≤ size_of m → Zeroed k m (zeroed k m)
unfolding zeroed
zeroes zero m ok h = record { lawful = ok; size = refl; zeros = λ n q. absurd (not-suc-le-zero q) }
zeroes (suc k) m ok h = more (zeroes k m ok (omega arith))
  where
    more : Zeroed k m (zeroed k m) → Zeroed (suc k) m (zeroed (suc k) m)
    more Z =
        let ok' = Z.lawful in
        record {
          lawful = λ cs. ok' (store k 0 ∷ cs);
          size = Z.size;
          zeros = λ n q. elim (ℕ_discrete n k) [
            | yes e ↦ rw e (valid-named (zeroed k m) ok' (store k 0) (rw Z.size h))
            | no ne ↦ valid-others (zeroed k m) ok' (store k 0) n ne ∙ Z.zeros n (omega arith)
          ];
        }

-- renewed cores are lawful, empty and ready
renewed-size : (cs : List CoreMeaning) → length (renewed cs) ≡ length cs
unfolding renewed
renewed-size [] = refl
renewed-size (x ∷ xs) = ap suc (renewed-size xs)

renewed-lawful : (cs : List CoreMeaning) → AllLawful cs → (d : ℕ) → d < length cs → LawfulTier (get_or (renewed cs) d absent).tier
unfolding renewed
renewed-lawful [] ok d h = absurd (not-suc-le-zero h)
renewed-lawful (x ∷ xs) ok zero h = lawful-after x.tier clear ok.0
renewed-lawful (x ∷ xs) ok (suc d) h = renewed-lawful xs ok.1 d (le_of_suc-le-suc h)

renewed-empty : (cs : List CoreMeaning) → AllLawful cs → (d n : ℕ) → held (get_or (renewed cs) d absent).tier n ≡ None
unfolding renewed
renewed-empty [] ok d n = absent-holds n
renewed-empty (x ∷ xs) ok zero n = ap bare ((ok.0 []).clear_gone n)
renewed-empty (x ∷ xs) ok (suc d) n = renewed-empty xs ok.1 d n

renewed-at : (cs : List CoreMeaning) (d : ℕ) → get_or (renewed cs) d absent ≡ core (after (get_or cs d absent).tier clear) Ready
unfolding renewed absent
renewed-at [] d = refl
renewed-at (x ∷ xs) zero = refl
renewed-at (x ∷ xs) (suc d) = renewed-at xs d

-- a study that opens
module _ (cs : List CoreMeaning) (m : MemoryMeaning) (w : Prices) (few : count_of cs ≤ 8) (ok : AllLawful cs) (okm : LawfulMemory m) where
  short : length (renewed cs) ≤ 8
  short = rw (renewed-size cs) (omega arith)

  at : (d : ℕ) → core_at (renewed cs) d ≡ get_or (renewed cs) d absent
  at d = at_place (renewed cs) d short

  pub fresh : (d : ℕ) → core_at (renewed cs) d ≡ core (after (tier_at cs d) clear) Ready
  fresh d = at d ∙ renewed-at cs d ∙ ap (λ (x : CoreMeaning). core (after x.tier clear) Ready) (sym (at_place cs d (omega arith)))

  pub vacant : (d n : ℕ) → copy_of (renewed cs) d n ≡ None
  vacant d n = ap (λ (x : CoreMeaning). held x.tier n) (at d) ∙ renewed-empty cs ok d n

  opened-inv : Inv (opened cs m w) new_book
  opened-inv =
      let Z : Zeroed (size_of m) m (zeroed (size_of m) m) = zeroes (size_of m) m okm (omega arith) in
      record {
        sound = record {
          short = short;
          tiers = λ d h. subst (λ (x : CoreMeaning). LawfulTier x.tier) (sym (at d)) (renewed-lawful cs ok d (rw (renewed-size cs) at h));
          memory = Z.lawful;
          blocks = λ n h. clean (Z.zeros n (rw Z.size at h)) (λ c x e. none-some (copy_of (renewed cs) c n) x (vacant c n) e);
          outside = λ n h d. vacant d n;
        };
        states = λ d. rw (fresh d) tt;
        count = refl;
      }

-- what is known of a run is known after any calls
played-inv : (ks : List Call) (r : RunMeaning) (b : Book) → Inv r b → (b' : Book) × Inv (played r ks) b'
unfolding played
played-inv [] r b I = (b, I)
played-inv (k ∷ ks) r b I = played-inv ks (step r k).run (noted b k (word_of (step r k).answer)) (step-good r b I k).inv

-- no call alters how many cores and blocks there are
played-cores : (ks : List Call) (r : RunMeaning) (b : Book) → Inv r b → length (played r ks).cores ≡ length r.cores
unfolding played
played-cores [] r b I = refl
played-cores (k ∷ ks) r b I =
    let G = step-good r b I k in
    played-cores ks (step r k).run (noted b k (word_of (step r k).answer)) G.inv ∙ G.cores

played-blocks : (ks : List Call) (r : RunMeaning) (b : Book) → Inv r b → size_of (played r ks).memory ≡ size_of r.memory
unfolding played
played-blocks [] r b I = refl
played-blocks (k ∷ ks) r b I =
    let G = step-good r b I k in
    played-blocks ks (step r k).run (noted b k (word_of (step r k).answer)) G.inv ∙ G.blocks

played-honest : (ks : List Call) (r : RunMeaning) (b : Book) → Inv r b → HonestFrom b (history r ks)
unfolding history HonestFrom
played-honest [] r b I = tt
played-honest (k ∷ ks) r b I = ((step-good r b I k).honest, played-honest ks (step r k).run (noted b k (word_of (step r k).answer)) (step-good r b I k).inv)

played-tiers : (ks : List Call) (r : RunMeaning) (b : Book) → Inv r b → (c : ℕ) → Becomes (tier_at r.cores c) (tier_at (played r ks).cores c)
unfolding played
played-tiers [] r b I c = still (tier_at r.cores c)
played-tiers (k ∷ ks) r b I c =
    let G = step-good r b I k in
    then_becomes _ (tier_at (step r k).run.cores c) _ (turns r (step r k).run c k (step r k).answer (step r k).charge G.told)
    (played-tiers ks (step r k).run (noted b k (word_of (step r k).answer)) G.inv c)

unmodified : (i : ℕ) → i ≤ 1 → eqb i 1 ≡ false → i ≡ 0
unmodified zero h e = refl
unmodified (suc zero) h e = absurd (false≢true (sym e))
unmodified (suc (suc i)) h e = absurd (omega arith)

module _ (r : RunMeaning) (b : Book) (I : Inv r b) (c n : ℕ) (h : Holding) (e : look_of (tier_at r.cores c) n ≡ Some h) where
  abbrev S : Sound r.cores r.memory b.number
  S = I.sound

  abbrev cs₁ : List CoreMeaning
  cs₁ = brought_up r c n h

  there : c < length r.cores
  there = ⊎_elim (λ l. l) (λ l. never h (sym (ap (λ (x : CoreMeaning). look_of x.tier n) (past r.cores c S.short l) ∙ absent_shows n) ∙ e)) (cases_lt c (length r.cores))

  replaced : Replaced r.cores cs₁ c (core (raised (tier_at r.cores c) n h) Ready)
  replaced = turned-done r.cores c (BringUp n h) Ready S.short there

  unmet-here : is_modified h ≡ false → met 0 c n cs₁ ≡ None
  unmet-here f = met-none 0 c n cs₁ (λ d j q ne lt. at_most (b.number n) _ (other d j q ne lt))
    where
      shared-here : copy_of r.cores c n ≡ Some (shared h.1)
      shared-here = ap bare e ∙ ap (λ i. Some (i, h.1)) (unmodified h.0 ((S.tiers c there []).marks n h e) f)

      all : (d : ℕ) → AtMostShared (b.number n) (copy_of r.cores d n)
      all = (sharer (b.number n) _ _ c h.1 shared-here (S.blocks n (inside r.cores r.memory b.number S c n _ shared-here))).1

      other : (d j : ℕ) → j ≡ 0 + d → j ≢ c → d < length cs₁ → AtMostShared (b.number n) (held (get_or cs₁ d absent).tier n)
      other d j q ne lt = subst (λ (x : CoreMeaning). AtMostShared (b.number n) (held x.tier n))
          (sym (replaced.there d (λ z. ne (omega (arith, q, z)))) ∙ at_place cs₁ d (rw replaced.size S.short)) (all d)

-- of any lawful tiers of at most eight cores, any lawful memory and any calls
module _ (cs : List CoreMeaning) (m : MemoryMeaning) (w : Prices) (few : count_of cs ≤ 8) (ok : AllLawful cs) (okm : LawfulMemory m) where
  start : Inv (opened cs m w) new_book
  start = opened-inv cs m w few ok okm

  at_end : (ks : List Call) → (b : Book) × Inv (played (opened cs m w) ks) b
  at_end ks = played-inv ks (opened cs m w) new_book start

  pub zeros : (n : ℕ) → n < size_of m → valid (opened cs m w).memory n ≡ Some 0
  zeros = (zeroes (size_of m) m okm (omega arith)).zeros

  pub machine : (ks : List Call) → SameMachine cs m w (played (opened cs m w) ks)
  machine ks = record {
    cores = ap (min 9) (played-cores ks (opened cs m w) new_book start ∙ renewed-size cs);
    blocks = played-blocks ks (opened cs m w) new_book start ∙ (zeroes (size_of m) m okm (omega arith)).size;
    prices = prices-kept ks (opened cs m w);
  }

  pub told : (ks : List Call) (k : Call) → Tells (played (opened cs m w) ks) k
  told ks k = (step-good _ (at_end ks).0 (at_end ks).1 k).told

  pub decided : (ks : List Call) (k : Call) → Decided (played (opened cs m w) ks) k
  decided ks k r' x e T = alike k (played (opened cs m w) ks) r' _ e _ x _ T (told ks k)

  pub tiers-called : (ks : List Call) (c : ℕ) → Becomes (tier_at (opened cs m w).cores c) (tier_at (played (opened cs m w) ks).cores c)
  tiers-called ks c = played-tiers ks (opened cs m w) new_book start c

  pub memory-called : (ks : List Call) → Becomes m (played (opened cs m w) ks).memory
  memory-called ks = opened-keeps (Becomes m) (λ n c h. then_becomes m n _ h (c ∷ [], refl)) cs m w ks (still m)

  pub coherence : (ks : List Call) → Coherent (played (opened cs m w) ks).cores (played (opened cs m w) ks).memory
  coherence ks = coherent _ _ _ (at_end ks).1.sound

  pub unmet : (ks : List Call) → Unmet (played (opened cs m w) ks)
  unmet ks c n h = unmet-here _ (at_end ks).0 (at_end ks).1 c n h

  pub honest : (ks : List Call) → HonestFrom new_book (history (opened cs m w) ks)
  honest ks = played-honest ks (opened cs m w) new_book start
