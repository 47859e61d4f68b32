-- What is told of a call leaves no choice: two outcomes that are told alike are the same.
use Rattle.std.proofs.Common.{◌≡◌, ℕ, zero, suc, ◌+◌, ◌≢◌, true, false, Some, None, Ok, Err, Option, Result, sym, refl, ap, ◌∙◌, subst, ⊎_elim, arith}
use native.Mathlib.Decide.{ℕ_discrete}
use Rattle.std.proofs.lemmas.Bool.{cases_lt}
use Rattle.std.proofs.lemmas.Option.{same_Some}
use Rattle.device.specs.Device.{after}
use Rattle.parts.specs.declared.mark.Mark.{Mark}
use Rattle.parts.specs.declared.mark.Mark.TheVariants.{Shared, Modified}
use Rattle.parts.specs.declared.line.Line.{Line}
use Rattle.parts.specs.Marks.{mark_number}
use Rattle.tier.specs.Meaning.{TierMeaning, put, change, Holding, held_of, line, bare}
use Rattle.tier.specs.Options.{never, none-some}
use Rattle.memory.specs.Meaning.{store}
use Rattle.protocol.specs.declared.access.Access.{Access}
use Rattle.protocol.specs.declared.access.Access.TheVariants.{Read as ToRead, Write as ToWrite}
use Rattle.protocol.specs.declared.access.CoreState.{CoreState}
use Rattle.protocol.specs.declared.access.CoreState.TheVariants.{Ready, Waiting, Due}
use Rattle.protocol.specs.declared.answer.Answer.{Answer}
use Rattle.protocol.specs.declared.answer.Answer.TheVariants.{Waits, Brought, Read as WasRead, Wrote, Flushed, Committed}
use Rattle.protocol.specs.declared.call.Call.{Call}
use Rattle.protocol.specs.declared.call.Call.TheVariants.{Read, Write, Fetch, Resume, Flush, Commit}
use Rattle.protocol.specs.declared.refusal.Refusal.{Refusal}
use Rattle.protocol.specs.declared.refusal.Refusal.TheVariants.{TooManyCores, NoBlocks, WeightTooHigh, TooManySteps, NoSuchCore, NoSuchBlock, WrongState, StaleBlock, NotOwed}
use Rattle.protocol.specs.declared.weights.Prices.{Prices}
use Rattle.protocol.specs.Accesses.{block_of}
use Rattle.protocol.specs.Calls.{core_of}
use Rattle.protocol.specs.Refusals.{refusal_number}
use Rattle.row.specs.Cores.{CoreMeaning, core, core_at, tier_at}
use Rattle.study.specs.Run.{RunMeaning}
use Rattle.study.specs.Step.{valid}
use Rattle.study.specs.Coherence.{copy_of}
use Rattle.study.specs.Questions.{Because}
use Rattle.study.specs.Told.{Asks, HoldsAt, OthersStay, served, given_up, taking, outdated, LevelWeight, leaving_price, Leaves, Rest, NowWaits, NowDue, NowRead, NowWrote, NowClean, Answered, Told}
use Rattle.study.specs.Decided.{Same}
use Rattle.study.proofs.Block.{Copy}

-- ---- what is told is told of one thing

-- a mark is told by its number
abbrev mark_in : ℕ → Mark
mark_in zero = Shared
mark_in (suc i) = Modified

marked : (k : Mark) → mark_in (mark_number k) ≡ k
marked Shared = refl
marked Modified = refl

same_mark : (k k' : Mark) → mark_number k ≡ mark_number k' → k ≡ k'
same_mark k k' e = sym (marked k) ∙ ap mark_in e ∙ marked k'

-- a refusal is told by its number
refusal_in : ℕ → Refusal
refusal_in (suc zero) = TooManyCores
refusal_in (suc (suc zero)) = NoBlocks
refusal_in (suc (suc (suc zero))) = WeightTooHigh
refusal_in (suc (suc (suc (suc zero)))) = TooManySteps
refusal_in (suc (suc (suc (suc (suc zero))))) = NoSuchCore
refusal_in (suc (suc (suc (suc (suc (suc zero)))))) = NoSuchBlock
refusal_in (suc (suc (suc (suc (suc (suc (suc zero))))))) = WrongState
refusal_in (suc (suc (suc (suc (suc (suc (suc (suc zero)))))))) = StaleBlock
refusal_in _ = NotOwed

numbered : (e : Refusal) → refusal_in (refusal_number e) ≡ e
unfolding refusal_in
numbered TooManyCores = refl
numbered NoBlocks = refl
numbered WeightTooHigh = refl
numbered TooManySteps = refl
numbered NoSuchCore = refl
numbered NoSuchBlock = refl
numbered WrongState = refl
numbered StaleBlock = refl
numbered NotOwed = refl

-- the accesses are apart, and so are the states
abbrev is_write : Access → ℕ
is_write (ToRead n) = 0
is_write (ToWrite n) = 1

read-write : {P : Type 0} (n n' : ℕ) → ToRead n ≡ ToWrite n' → P
read-write n n' e = let z : ◌≡◌ {A = ℕ} 0 1 = ap is_write e in absurd (omega arith)

abbrev access_in : Access → CoreState → Access
access_in d Ready = d
access_in d (Waiting a) = a
access_in d (Due a) = a

same_waiting : (a a' : Access) → ◌≡◌ {A = CoreState} (Waiting a) (Waiting a') → a ≡ a'
same_waiting a a' e = ap (access_in a) e

same_due : (a a' : Access) → ◌≡◌ {A = CoreState} (Due a) (Due a') → a ≡ a'
same_due a a' e = ap (access_in a) e

-- a call asks for one access
same_asked : (k : Call) (d : ℕ) (s : CoreState) (a a' : Access) → Asks k d s a → Asks k d s a' → a ≡ a'
same_asked (Read c n) d s a a' p q = p.2 ∙ sym q.2
same_asked (Write c n) d s a a' p q = p.2 ∙ sym q.2
same_asked (Fetch c) d s a a' p q = absurd p
same_asked (Resume c) d s a a' p q = same_due a a' (sym p.1 ∙ q.1)
same_asked (Flush c n) d s a a' p q = absurd p
same_asked (Commit c n) d s a a' p q = absurd p

-- a level has one weight
one_weight : (w : Prices) (l p q : ℕ) → LevelWeight w l p → LevelWeight w l q → p ≡ q
one_weight w zero p q V W = let z = V.low in absurd (omega (arith, z))
one_weight w (suc zero) p q V W = V.first refl ∙ sym (W.first refl)
one_weight w (suc (suc zero)) p q V W = V.second refl ∙ sym (W.second refl)
one_weight w (suc (suc (suc zero))) p q V W = V.third refl ∙ sym (W.third refl)
one_weight w (suc (suc (suc (suc zero)))) p q V W = V.fourth refl ∙ sym (W.fourth refl)
one_weight w (suc (suc (suc (suc (suc l))))) p q V W = let z = V.high in absurd (omega (arith, z))

-- the kind of a call, and of an answer: to an access, a fetch, a flush or a commit
abbrev kind_of : Call → ℕ
kind_of (Fetch c) = 1
kind_of (Flush c n) = 2
kind_of (Commit c n) = 3
kind_of _ = 0

abbrev answer_kind : Answer → ℕ
answer_kind (Brought n) = 1
answer_kind (Flushed n) = 2
answer_kind (Committed b) = 3
answer_kind _ = 0

asking_kind : (k : Call) (d : ℕ) (s : CoreState) (a : Access) → Asks k d s a → 0 ≡ kind_of k
asking_kind (Read c n) d s a p = refl
asking_kind (Write c n) d s a p = refl
asking_kind (Fetch c) d s a p = absurd p
asking_kind (Resume c) d s a p = refl
asking_kind (Flush c n) d s a p = absurd p
asking_kind (Commit c n) d s a p = absurd p

abbrev block_in : Call → ℕ
block_in (Flush c n) = n
block_in (Commit c n) = n
block_in _ = 0

-- a core by its tier and its state
same_core : (x y : CoreMeaning) → x.tier ≡ y.tier → x.state ≡ y.state → x ≡ y
same_core x y p q = λ i. core (p i) (q i)

module _ (r r₁ r₂ : RunMeaning) (c : ℕ) where
  all_cores : core_at r₁.cores c ≡ core_at r₂.cores c → ((d : ℕ) → d ≢ c → core_at r₁.cores d ≡ core_at r₂.cores d) → (d : ℕ) → core_at r₁.cores d ≡ core_at r₂.cores d
  all_cores here there d = elim (ℕ_discrete d c) [ yes q ↦ rw q here | no ne ↦ there d ne ]

  others_same : OthersStay c r r₁ → OthersStay c r r₂ → (d : ℕ) → d ≢ c → core_at r₁.cores d ≡ core_at r₂.cores d
  others_same f g d ne = f d ne ∙ sym (g d ne)

  -- one line has left, or none
  module _ (n n' : ℕ) (nn : n ≡ n') (R : Rest c n r r₁) (R' : Rest c n' r r₂) (tiers : tier_at r₁.cores c ≡ tier_at r₂.cores c) where
    copies : (b : ℕ) → copy_of r₁.cores c b ≡ copy_of r₂.cores c b
    copies b = ap (λ (t : TierMeaning). bare (held_of t b)) tiers

    same_line : (g g' : Line) → Leaves c n g r r₁ → Leaves c n' g' r r₂ → g.block ≡ g'.block → g ≡ g'
    same_line g g' L L' e =
        let x : ◌≡◌ {A = Copy} (mark_number g.mark, g.stamp) (mark_number g'.mark, g'.stamp) =
        same_Some _ _ (sym L.held ∙ ap (copy_of r.cores c) e ∙ L'.held) in
        let k : g.mark ≡ g'.mark = same_mark g.mark g'.mark (ap (λ (y : Copy). y.0) x) in
        let s : g.stamp ≡ g'.stamp = ap (λ (y : Copy). y.1) x in
        (λ i. line (e i) (k i) (s i))

    same_leaver : (o o' : Option Line) → R.leaver ≡ o → R'.leaver ≡ o' → o ≡ o'
    same_leaver None None p q = refl
    same_leaver (Some g) None p q =
        let L = R.left g p in
        none-some _ _ (sym (copies g.block) ∙ L.gone) ((R'.kept g.block (λ z. L.other (z ∙ sym nn)) (λ h z. never h (sym q ∙ z))).0 ∙ L.held)
    same_leaver None (Some g) p q =
        let L = R'.left g q in
        none-some _ _ (copies g.block ∙ L.gone) ((R.kept g.block (λ z. L.other (z ∙ nn)) (λ h z. never h (sym p ∙ z))).0 ∙ L.held)
    same_leaver (Some g) (Some g') p q =
        let L = R.left g p in
        let L' = R'.left g' q in
        elim (ℕ_discrete g.block g'.block) [
          | yes e ↦ ap Some (same_line g g' L L' e)
          | no ne ↦ none-some _ _ (sym (copies g.block) ∙ L.gone)
              ((R'.kept g.block (λ z. L.other (z ∙ sym nn)) (λ h z e. ne (e ∙ ap (λ (y : Line). y.block) (same_Some h g' (sym z ∙ q))))).0 ∙ L.held)
        ]

    pub leavers : R.leaver ≡ R'.leaver
    leavers = same_leaver R.leaver R'.leaver refl refl

-- ---- two runs that the run r became by the call k, answered and charged as is told

module _ (k : Call) (r r₁ r₂ : RunMeaning) (e₁ e₂ : ℕ) where
  abbrev c : ℕ
  c = core_of k

  abbrev t : TierMeaning
  t = tier_at r.cores c

  abbrev Alike : Answer → Answer → Type 0
  Alike x y = Same r₁ r₂ (Ok x) (Ok y) e₁ e₂

  waits : (n n' : ℕ) → NowWaits k c n r r₁ e₁ → NowWaits k c n' r r₂ e₂ → Alike (Waits n) (Waits n')
  waits n n' T U =
      let a : T.wanted ≡ U.wanted = same_asked k _ _ T.wanted U.wanted T.asked U.asked in
      record {
        answer = ap (λ i. Ok (Waits i)) (sym T.block ∙ ap block_of a ∙ U.block);
        charge = T.charged ∙ sym U.charged;
        cores = all_cores r r₁ r₂ c (same_core _ _ (T.tiers c ∙ sym (U.tiers c)) (T.waits ∙ ap Waiting a ∙ sym U.waits)) (others_same r r₁ r₂ c T.others U.others);
        memory = T.memory ∙ sym U.memory;
      }

  brought : (n n' : ℕ) → NowDue c n r r₁ e₁ → NowDue c n' r r₂ e₂ → Alike (Brought n) (Brought n')
  brought n n' T U =
      let a : T.wanted ≡ U.wanted = same_waiting T.wanted U.wanted (sym T.waited ∙ U.waited) in
      let nn : n ≡ n' = sym T.block ∙ ap block_of a ∙ U.block in
      let ss : T.stamp ≡ U.stamp = same_Some _ _ (sym T.stored ∙ ap (valid r.memory) nn ∙ U.stored) in
      let tiers : tier_at r₁.cores c ≡ tier_at r₂.cores c = T.tier ∙ (λ i. after t (put (nn i) Shared (ss i))) ∙ sym U.tier in
      let out = leavers r r₁ r₂ c n n' nn T.rest U.rest tiers in
      record {
        answer = ap (λ i. Ok (Brought i)) nn;
        charge = T.charged ∙ ap (λ o. r.prices.wm + leaving_price r.prices o) out ∙ sym U.charged;
        cores = all_cores r r₁ r₂ c (same_core _ _ tiers (T.due ∙ ap Due a ∙ sym U.due)) (others_same r r₁ r₂ c T.others U.others);
        memory = T.memory ∙ ap (λ o. taking o r.memory) out ∙ sym U.memory;
      }

  -- a block that was held so is held in one way
  module _ (n n' : ℕ) (nn : n ≡ n') (j j' : Mark) (s s' l l' : ℕ) (p : HoldsAt r.cores c n j s l) (q : HoldsAt r.cores c n' j' s' l') where
    same_held : ◌≡◌ {A = Holding} (mark_number j, s, l) (mark_number j', s', l')
    same_held = same_Some _ _ (sym p ∙ ap (held_of t) nn ∙ q)

    marks : j ≡ j'
    marks = same_mark j j' (ap (λ (y : Holding). y.0) same_held)

    stamps : s ≡ s'
    stamps = ap (λ (y : Holding). y.1) same_held

    levels : l ≡ l'
    levels = ap (λ (y : Holding). y.2) same_held

  weighs : (l l' w w' : ℕ) (o o' : Option Line) → l ≡ l' → LevelWeight r.prices l w → LevelWeight r.prices l' w' → o ≡ o'
      → e₁ ≡ w + leaving_price r.prices o → e₂ ≡ w' + leaving_price r.prices o' → e₁ ≡ e₂
  weighs l l' w w' o o' ll V W out p q =
      let ww : w ≡ w' = one_weight r.prices l w w' V (subst (λ i. LevelWeight r.prices i w') (sym ll) W) in
      p ∙ (λ i. ww i + leaving_price r.prices (out i)) ∙ sym q

  reads : (s s' : ℕ) → NowRead k c s r r₁ e₁ → NowRead k c s' r r₂ e₂ → Alike (WasRead s) (WasRead s')
  reads s s' T U =
      let nn : T.block ≡ U.block = ap block_of (same_asked k _ _ (ToRead T.block) (ToRead U.block) T.asked U.asked) in
      let kk = marks _ _ nn T.mark U.mark s s' T.level U.level T.access.held U.access.held in
      let ss = stamps _ _ nn T.mark U.mark s s' T.level U.level T.access.held U.access.held in
      let ll = levels _ _ nn T.mark U.mark s s' T.level U.level T.access.held U.access.held in
      let tiers : tier_at r₁.cores c ≡ tier_at r₂.cores c = T.tier ∙ (λ i. served t (nn i) (kk i) (ss i) (ll i)) ∙ sym U.tier in
      let out = leavers r r₁ r₂ c T.block U.block nn T.access.rest U.access.rest tiers in
      record {
        answer = ap (λ i. Ok (WasRead i)) ss;
        charge = weighs T.level U.level T.access.weight U.access.weight _ _ ll T.access.level U.access.level out T.access.charged U.access.charged;
        cores = all_cores r r₁ r₂ c (same_core _ _ tiers (T.access.ready ∙ sym U.access.ready)) (others_same r r₁ r₂ c T.others U.others);
        memory = T.memory ∙ ap (λ o. taking o r.memory) out ∙ sym U.memory;
      }

  writes : (s s' : ℕ) → NowWrote k c s r r₁ e₁ → NowWrote k c s' r r₂ e₂ → Alike (Wrote s) (Wrote s')
  writes s s' T U =
      let nn : T.block ≡ U.block = ap block_of (same_asked k _ _ (ToWrite T.block) (ToWrite U.block) T.asked U.asked) in
      let kk = marks _ _ nn T.mark U.mark T.before U.before T.level U.level T.access.held U.access.held in
      let bb = stamps _ _ nn T.mark U.mark T.before U.before T.level U.level T.access.held U.access.held in
      let ll = levels _ _ nn T.mark U.mark T.before U.before T.level U.level T.access.held U.access.held in
      let ss : s ≡ s' = T.newest ∙ sym U.newest in
      let tiers : tier_at r₁.cores c ≡ tier_at r₂.cores c =
      T.tier ∙ (λ i. after (served t (nn i) (kk i) (bb i) (ll i)) (change (nn i) Modified (ss i))) ∙ sym U.tier in
      let out = leavers r r₁ r₂ c T.block U.block nn T.access.rest U.access.rest tiers in
      record {
        answer = ap (λ i. Ok (Wrote i)) ss;
        charge = weighs T.level U.level T.access.weight U.access.weight _ _ ll T.access.level U.access.level out T.access.charged U.access.charged;
        cores = all_cores r r₁ r₂ c (same_core _ _ tiers (T.access.ready ∙ sym U.access.ready))
            (λ d ne. same_core _ _ (T.tiers d ne ∙ (λ i. given_up (kk i) (nn i) (tier_at r.cores d)) ∙ sym (U.tiers d ne)) (T.states d ne ∙ sym (U.states d ne)));
        memory = T.memory ∙ (λ i. outdated (kk i) (nn i) (taking (out i) r.memory)) ∙ sym U.memory;
      }

  cleans : (n n' : ℕ) (x y : Answer) → n ≡ n' → x ≡ y → NowClean c n r r₁ e₁ → NowClean c n' r r₂ e₂ → Alike x y
  cleans n n' x y nn xy T U =
      let ss : T.stamp ≡ U.stamp = stamps n n' nn Modified Modified T.stamp U.stamp T.level U.level T.held U.held in
      record {
        answer = ap Ok xy;
        charge = T.charged ∙ sym U.charged;
        cores = all_cores r r₁ r₂ c (same_core _ _ (T.tier ∙ (λ i. after t (change (nn i) Shared (ss i))) ∙ sym U.tier) (T.state ∙ sym U.state)) (others_same r r₁ r₂ c T.others U.others);
        memory = T.memory ∙ (λ i. after r.memory (store (nn i) (ss i))) ∙ sym U.memory;
      }

  -- a block that is lacked is not held
  lacking : {P : Type 0} (n n' : ℕ) (j : Mark) (s l : ℕ) → n ≡ n' → copy_of r.cores c n ≡ None → HoldsAt r.cores c n' j s l → P
  lacking n n' j s l nn f h = none-some _ _ f (ap (copy_of r.cores c) nn ∙ ap bare h)

  -- and one that is held modified is
  not_held : {P : Type 0} (n n' s l : ℕ) → n ≡ n' → ((i : ℕ) → copy_of r.cores c n ≡ Some (1, i) → ⊥) → HoldsAt r.cores c n' Modified s l → P
  not_held n n' s l nn f h = absurd (f s (ap (copy_of r.cores c) nn ∙ ap bare h))

  answered_kind : (r' : RunMeaning) (e : ℕ) (x : Answer) → Answered k r r' x e → answer_kind x ≡ kind_of k
  answered_kind r' e (Waits n) T = asking_kind k _ _ T.wanted T.asked
  answered_kind r' e (Brought n) T = sym (ap kind_of T.0)
  answered_kind r' e (WasRead s) T = asking_kind k _ _ (ToRead T.block) T.asked
  answered_kind r' e (Wrote s) T = asking_kind k _ _ (ToWrite T.block) T.asked
  answered_kind r' e (Flushed n) T = sym (ap kind_of T.0)
  answered_kind r' e (Committed b) T = sym (ap kind_of T.1)

  answered_alike : (x y : Answer) → answer_kind x ≡ answer_kind y → Answered k r r₁ x e₁ → Answered k r r₂ y e₂ → Alike x y
  answered_alike (Waits n) (Waits n') z T U = waits n n' T U
  answered_alike (Waits n) (WasRead s) z T U =
      lacking n U.block U.mark s U.level (sym T.block ∙ ap block_of (same_asked k _ _ T.wanted (ToRead U.block) T.asked U.asked)) T.lacked U.access.held
  answered_alike (Waits n) (Wrote s) z T U =
      lacking n U.block U.mark U.before U.level (sym T.block ∙ ap block_of (same_asked k _ _ T.wanted (ToWrite U.block) T.asked U.asked)) T.lacked U.access.held
  answered_alike (WasRead s) (Waits n) z T U =
      lacking n T.block T.mark s T.level (sym U.block ∙ ap block_of (same_asked k _ _ U.wanted (ToRead T.block) U.asked T.asked)) U.lacked T.access.held
  answered_alike (WasRead s) (WasRead s') z T U = reads s s' T U
  answered_alike (WasRead s) (Wrote s') z T U = read-write T.block U.block (same_asked k _ _ (ToRead T.block) (ToWrite U.block) T.asked U.asked)
  answered_alike (Wrote s) (Waits n) z T U =
      lacking n T.block T.mark T.before T.level (sym U.block ∙ ap block_of (same_asked k _ _ U.wanted (ToWrite T.block) U.asked T.asked)) U.lacked T.access.held
  answered_alike (Wrote s) (WasRead s') z T U = read-write U.block T.block (same_asked k _ _ (ToRead U.block) (ToWrite T.block) U.asked T.asked)
  answered_alike (Wrote s) (Wrote s') z T U = writes s s' T U
  answered_alike (Brought n) (Brought n') z T U = brought n n' T.1 U.1
  answered_alike (Flushed n) (Flushed n') z T U =
      let nn : n ≡ n' = ap block_in (sym T.0 ∙ U.0) in
      cleans n n' (Flushed n) (Flushed n') nn (ap Flushed nn) T.2 U.2
  answered_alike (Committed true) (Committed true) z T U = cleans T.0 U.0 (Committed true) (Committed true) (ap block_in (sym T.1 ∙ U.1)) refl T.2 U.2
  answered_alike (Committed true) (Committed false) z T U = not_held U.0 T.0 T.2.stamp T.2.level (ap block_in (sym U.1 ∙ T.1)) U.2.0 T.2.held
  answered_alike (Committed false) (Committed true) z T U = not_held T.0 U.0 U.2.stamp U.2.level (ap block_in (sym T.1 ∙ U.1)) T.2.0 U.2.held
  answered_alike (Committed false) (Committed false) z T U = record {
    answer = refl;
    charge = T.2.3 ∙ sym U.2.3;
    cores = λ d. ap (λ cs. core_at cs d) (T.2.1 ∙ sym U.2.1);
    memory = T.2.2 ∙ sym U.2.2;
  }
  answered_alike x y z T U = absurd (omega (arith, z))

  -- the first question that is answered by no is one
  first_no : (e d : Refusal) → Because k r e → Because k r d → e ≡ d
  first_no e d B C = elim (ℕ_discrete (refusal_number e) (refusal_number d)) [
    | yes q ↦ sym (numbered e) ∙ ap refusal_in q ∙ numbered d
    | no ne ↦ ⊎_elim (λ lt. absurd (B.no (C.before e lt))) (λ le. absurd (C.no (B.before d (omega (arith, le, ne))))) (cases_lt (refusal_number e) (refusal_number d))
  ]

  pub alike : (x y : Result Answer Refusal) → Told k r r₁ x e₁ → Told k r r₂ y e₂ → Same r₁ r₂ x y e₁ e₂
  alike (Ok x) (Ok y) T U = answered_alike x y (answered_kind r₁ e₁ x T.1 ∙ sym (answered_kind r₂ e₂ y U.1)) T.1 U.1
  alike (Ok x) (Err d) T U = absurd (U.0.no (T.0 d))
  alike (Err e) (Ok y) T U = absurd (T.0.no (U.0 e))
  alike (Err e) (Err d) T U = record {
    answer = ap Err (first_no e d T.0 U.0);
    charge = T.2 ∙ sym U.2;
    cores = λ i. ap (λ (x : RunMeaning). core_at x.cores i) (T.1 ∙ sym U.1);
    memory = ap (λ (x : RunMeaning). x.memory) (T.1 ∙ sym U.1);
  }
