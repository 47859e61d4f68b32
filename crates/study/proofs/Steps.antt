-- Every step keeps what is known of a run, and its answer is honest.
use Rattle.std.proofs.Common.{◌≡◌, ℕ, ◌+◌, ◌<◌, ◌≤◌, Bool, true, false, cond, eqb, ltb, List, [], length, Some, None, Option, sym, refl, ap, ◌∙◌, add-zero, arith}
use native.Mathlib.Decide.{ℕ_discrete}
use Rattle.std.proofs.lemmas.Bool.{ltb-true, ltb-false, eqb-true}
use Rattle.std.proofs.lemmas.Option.{same_Some}
use Rattle.device.specs.Device.{after}
use Rattle.parts.specs.declared.mark.Mark.TheVariants.{Shared}
use Rattle.parts.specs.declared.line.Line.{Line}
use Rattle.tier.specs.Meaning.{TierMeaning, put, change, Holding, look_of, line, put_answer, bare, Lawful}
use Rattle.tier.specs.Options.{never, none-some}
use Rattle.tier.specs.Holdings.{bare-none}
use Rattle.memory.specs.Meaning.{MemoryMeaning, store, size_of}
use Rattle.protocol.specs.declared.access.Access.{Access}
use Rattle.protocol.specs.declared.access.Access.TheVariants.{Read as ToRead, Write as ToWrite}
use Rattle.protocol.specs.declared.access.CoreState.{CoreState}
use Rattle.protocol.specs.declared.access.CoreState.TheVariants.{Ready, Waiting, Due}
use Rattle.protocol.specs.declared.answer.Answer.{Answer}
use Rattle.protocol.specs.declared.answer.Answer.TheVariants.{Flushed, Committed}
use Rattle.protocol.specs.declared.call.Call.{Call}
use Rattle.protocol.specs.declared.call.Call.TheVariants.{Read, Write, Fetch, Resume, Flush, Commit}
use Rattle.protocol.specs.declared.refusal.Refusal.{Refusal}
use Rattle.protocol.specs.declared.refusal.Refusal.TheVariants.{TooManySteps, NoSuchCore, NoSuchBlock, WrongState, StaleBlock, NotOwed}
use Rattle.protocol.specs.Accesses.{block_of}
use Rattle.protocol.specs.Calls.{core_of, fits_in}
use Rattle.moves.specs.Moves.{given, modified_stamp}
use Rattle.row.specs.declared.operation.Operation.TheVariants.{Put, Change as ToChange}
use Rattle.row.specs.Cores.{CoreMeaning, core, count_of, core_at, tier_at, state_at, done, awaited}
use Rattle.study.specs.Run.{RunMeaning, Outcome, most_steps}
use Rattle.study.specs.Step.{valid, memory_taking, refused, provided, access, fetching, fetch_by, fetch, cleaning, modified_at, owed_of, flush_by, flush, commit_by, commit, act, step}
use Rattle.study.specs.Book.{Book, but, asking}
use Rattle.study.specs.Coherence.{copy_of}
use Rattle.study.specs.Questions.{CanFetch, Owes, Allowed, Because}
use Rattle.study.specs.Told.{Asks, NowClean}
use Rattle.study.proofs.Block.{Copy, shared, modified, Change, kept, joined, stored}
use Rattle.study.proofs.Tiers.{held, lawful-after, put_holds, put-stays, put-passes, change-holds, change-others}
use Rattle.study.proofs.Memories.{Kept, kept-after, valid-named, left-lawful, left-size, left-others, left-change}
use Rattle.study.proofs.Rows.{Replaced, copy_here, operated_on, turned-done, wanted, unwanted}
use Rattle.study.proofs.Sound.{Sound, but_same, but-other, inside, change-sound}
use Rattle.study.proofs.Rests.{leaving_cost, takes, rest-of}
use Rattle.study.proofs.Questioning.{in_memory, not_in_memory, Named, no_room, no_core, no_block, wrong_state, stale_block, not_owed, allowed}
use Rattle.study.proofs.Accesses.{Stands, Inv, Good, silent, stands-less, stands_replaced, Credits, resume_credits, access-good}

-- a stamp that is owed is that of a modified copy
owed_held : (o : Option Holding) (s : ℕ) → modified_stamp o ≡ Some s → bare o ≡ Some (modified s)
owed_held None s e = never s e
owed_held (Some h) s e = go (eqb h.0 1) refl e
  where
    go : (b : Bool) → eqb h.0 1 ≡ b → cond b (Some h.1) None ≡ Some s → ◌≡◌ {A = Option Copy} (Some (h.0, h.1)) (Some (modified s))
    go true q z = let p = eqb-true h.0 1 q in let p' : h.1 ≡ s = same_Some h.1 s z in rw (p, p')
    go false q z = never s z

-- a copy stands at some level
level_of : (o : Option Holding) (x : Copy) → bare o ≡ Some x → (l : ℕ) × (o ≡ Some (x.0, x.1, l))
level_of None x e = never x e
level_of (Some h) x e = (h.2, ap (λ (y : Copy). Some (y.0, y.1, h.2)) (same_Some (h.0, h.1) x e))

-- a copy that shows no modified stamp is not modified
unmodified : (o : Option Holding) (s : ℕ) → modified_stamp o ≡ None → bare o ≡ Some (modified s) → ⊥
unmodified None s e x = never (modified s) x
unmodified (Some h) s e x =
    let p = same_Some (h.0, h.1) (modified s) x in
    let z : h.0 ≡ 1 = ap (λ (y : Copy). y.0) p in
    never h.1 (sym e ∙ ap (λ i. cond (eqb i 1) (Some h.1) None) z)

-- what is not below a limit
full : {i j : ℕ} → j ≤ i → i < j → ⊥
full le lt = omega (arith, le, lt)

-- of at most eight cores, each is counted
not_there : (c : ℕ) (cs : List CoreMeaning) → length cs ≤ 8 → count_of cs ≤ c → c < length cs → ⊥
not_there c cs short le lt = omega (arith, short, le, lt)

-- the three states are apart
ready-waiting : (a : Access) → ◌≡◌ {A = CoreState} Ready (Waiting a) → ⊥
ready-waiting a e = let z : ◌≡◌ {A = ℕ} 0 1 = cc in omega arith

ready-due : (a : Access) → ◌≡◌ {A = CoreState} Ready (Due a) → ⊥
ready-due a e = let z : ◌≡◌ {A = ℕ} 0 1 = cc in omega arith

waiting-due : (a a' : Access) → ◌≡◌ {A = CoreState} (Waiting a) (Due a') → ⊥
waiting-due a a' e = let z : ◌≡◌ {A = ℕ} 0 1 = cc in omega arith

-- a core waits for one access
wanted_in : CoreState → Access → Access
wanted_in (Waiting a) d = a
wanted_in Ready d = d
wanted_in (Due a) d = d

same_wait : (a a' : Access) → ◌≡◌ {A = CoreState} (Waiting a) (Waiting a') → a ≡ a'
unfolding wanted_in
same_wait a a' e = ap (λ s. wanted_in s a) e

module _ (r : RunMeaning) (b : Book) (I : Inv r b) where
  abbrev cs : List CoreMeaning
  cs = r.cores

  abbrev m : MemoryMeaning
  m = r.memory

  S : Sound cs m b.number
  S = I.sound

  refused-good : (k : Call) (e : Refusal) → Because k r e → Good r b k (refused r e)
  refused-good k e why = record { inv = I; told = (why, refl, refl); cores = refl; blocks = refl; honest = silent }

  provided-good : (k : Call) (x : Bool) (e : Refusal) (o : Outcome) → (x ≡ false → Because k r e) → (x ≡ true → Good r b k o) → Good r b k (provided x e r o)
  provided-good k true e o why f = f refl
  provided-good k false e o why f = refused-good k e (why refl)

  -- an access that the call names, and one that was due
  named-good : (k : Call) (a : Access) → Allowed k r → Asks k (core_of k) (state_at cs (core_of k)) a → Credits k a → asking k b.asked ≡ but b.asked (core_of k) (block_of a) → core_of k < length cs → block_of a < size_of m
      → Good r b k (access r (core_of k) a)
  named-good k a may asks w q lt h =
      access-good r b k S lt (λ d ne. rw (q, but-other b.asked (core_of k) (block_of a) d ne) (I.states d)) I.count may a asks w h (rw (q, but_same b.asked (core_of k) (block_of a)))

  resume_good : (c : ℕ) (a : Access) → Allowed (Resume c) r → c < length cs → state_at cs c ≡ Due a → Good r b (Resume c) (access r c a)
  resume_good c a may lt e =
      let W : Stands (size_of m) (b.asked c) (core (tier_at cs c) (Due a)) = rw e at (I.states c) in
      access-good r b (Resume c) S lt (λ d ne. I.states d) I.count may a (refl, e) (resume_credits c a) W.0 W.1

  -- core c
  module _ (c : ℕ) (lt : c < length cs) where
    abbrev t : TierMeaning
    t = tier_at cs c

    ok : Lawful t
    ok = S.tiers c lt

    -- the block that it waits for comes from memory
    module _ (a : Access) (s : ℕ) (e : state_at cs c ≡ Waiting a) (v : valid m (block_of a) ≡ Some s) where
      abbrev n : ℕ
      n = block_of a

      abbrev out : Option Line
      out = given (put_answer t n Shared s)

      stands : Stands (size_of m) (b.asked c) (core t (Waiting a))
      stands = rw e at (I.states c)

      free : look_of t n ≡ None
      free = bare-none (look_of t n) stands.2

      joins : (j : ℕ) → Change (copy_of cs c j) (held (after t (put n Shared s)) j) (valid m j) (valid (memory_taking out m) j)
      joins j = elim (ℕ_discrete j n) [
        | yes q ↦ rw q (joined s v (put_holds t ok n Shared s free) (left-others m S.memory out n (put-stays t ok n Shared s free)))
        | no ne ↦ left-change m S.memory t _ out j (inside cs m b.number S c) (put-passes t ok n Shared s free j ne)
      ]

      fetching-good : Named (Fetch c) r → Good r b (Fetch c) (fetching r c a s)
      fetching-good N =
          let R = turned-done cs c (Put (line n Shared s)) (Due a) S.short lt in
          record {
            inv = record {
              sound = change-sound cs m b.number S _ _ c _ R (lawful-after t (put n Shared s) ok) (left-lawful m S.memory out) (left-size m S.memory out) joins;
              states = stands_replaced _ _ b.asked cs _ c _ R (left-size m S.memory out) (λ d ne. I.states d) (stands.0, stands.1);
              count = add-zero _ ∙ I.count;
            };
            told = (
              allowed (Fetch c) r N (a, e) (record { wanted = a; waits = e; stamp = s; stored = v }) tt,
              (
                refl,
                record {
                  wanted = a;
                  waited = e;
                  block = refl;
                  lacked = stands.2;
                  stamp = s;
                  stored = v;
                  stays = left-others m S.memory out n (put-stays t ok n Shared s free) ∙ v;
                  holds = ap (λ (x : CoreMeaning). look_of x.tier n) R.here ∙ (ok []).put_in n Shared s free;
                  due = ap (λ (x : CoreMeaning). x.state) R.here;
                  tier = ap (λ (x : CoreMeaning). x.tier) R.here;
                  others = R.there;
                  rest = rest-of r _ c n (after t (put n Shared s)) out S.memory (inside cs m b.number S c) (λ j ne. copy_here cs _ c _ R j) (λ j ne. refl)
                      (λ j ne. put-passes t ok n Shared s free j ne) (put-stays t ok n Shared s free);
                  memory = takes out m;
                  charged = ap (λ i. r.prices.wm + i) (leaving_cost r.prices out);
                },
              ),
            );
            cores = R.size;
            blocks = left-size m S.memory out;
            honest = silent;
          }

    fetch-good : Named (Fetch c) r → (a : Access) → state_at cs c ≡ Waiting a → Good r b (Fetch c) (fetch r c a)
    fetch-good N a e = go (valid m (block_of a)) refl
      where
        go : (o : Option ℕ) → valid m (block_of a) ≡ o → Good r b (Fetch c) (fetch_by r c a o)
        go None v = refused-good (Fetch c) StaleBlock (stale_block (Fetch c) r N (a, e) (unfetchable v))
          where
            unfetchable : valid m (block_of a) ≡ None → CanFetch c r → ⊥
            unfetchable v F =
                let same : F.wanted ≡ a = same_wait F.wanted a (sym F.waits ∙ e) in
                never F.stamp (sym v ∙ ap (λ x. valid m (block_of x)) (sym same) ∙ F.stored)
        go (Some s) v = fetching-good a s e v N

    -- memory takes its modified copy of block n
    module _ (n s : ℕ) (e : copy_of cs c n ≡ Some (modified s)) where
      abbrev t' : TierMeaning
      t' = after t (change n Shared s)

      K : Kept n m (after m (store n s))
      K = kept-after m S.memory (store n s)

      cleans : (j : ℕ) → Change (copy_of cs c j) (held t' j) (valid m j) (valid (after m (store n s)) j)
      cleans j = elim (ℕ_discrete j n) [
        | yes q ↦ rw q (stored s e (λ x z. same_Some x (shared s) (sym z ∙ change-holds t ok n (modified s) e Shared s))
            (valid-named m S.memory (store n s) (inside cs m b.number S c n (modified s) e)))
        | no ne ↦ kept (change-others t ok n Shared s j ne) (K.others j ne)
      ]

      abbrev cs' : List CoreMeaning
      cs' = done cs c (ToChange (line n Shared s))

      R : Replaced cs cs' c (core t' (state_at cs c))
      R = operated_on cs c (ToChange (line n Shared s)) (core_at cs c) refl S.short lt

      cleaned : (x : Answer) → NowClean c n r (cleaning r c n s x).run (cleaning r c n s x).charge
      cleaned x =
          let held = level_of (look_of t n) (modified s) e in
          record {
            stamp = s;
            level = held.0;
            held = held.1;
            holds = ap (λ (x : CoreMeaning). look_of x.tier n) R.here ∙ (ok []).change_in n Shared s _ held.1;
            stored = valid-named m S.memory (store n s) (inside cs m b.number S c n (modified s) e);
            state = ap (λ (x : CoreMeaning). x.state) R.here;
            tier = ap (λ (x : CoreMeaning). x.tier) R.here;
            others = R.there;
            rest = λ j ne. (copy_here cs cs' c _ R j ∙ change-others t ok n Shared s j ne, K.others j ne);
            memory = refl;
            charged = add-zero _;
          }

      cleaning-keeps : (x : Answer) → Inv (cleaning r c n s x).run b
      cleaning-keeps x =
          record {
            sound = change-sound cs m b.number S _ _ c _ R (lawful-after t (change n Shared s) ok) K.lawful refl cleans;
            states = stands_replaced _ _ b.asked cs _ c _ R refl (λ d ne. I.states d) (stands-less _ _ t t' (state_at cs c) less (I.states c));
            count = add-zero _ ∙ I.count;
          }
        where
          less : (j : ℕ) → held t j ≡ None → held t' j ≡ None
          less j z = change-others t ok n Shared s j (λ q. none-some (held t n) (modified s) (sym (ap (held t) q) ∙ z) e) ∙ z

    flush-good : (n : ℕ) → Named (Flush c n) r → Good r b (Flush c n) (flush r c n)
    flush-good n N = go (modified_at r c n) refl
      where
        refused-by : (Owes c n cs → ⊥) → Good r b (Flush c n) (refused r NotOwed)
        refused-by denied = refused-good (Flush c n) NotOwed (not_owed (Flush c n) r N tt tt denied)

        flushed : (s : ℕ) → modified_at r c n ≡ Some s → (x : Bool) → awaited 0 c n cs ≡ x → Good r b (Flush c n) (flush_by r c n (cond x (Some s) None))
        flushed s e false x = refused-by (λ W. unwanted cs c n S.short x W.wanted)
        flushed s e true x =
            let held = owed_held _ s e in
            let W = wanted cs c n S.short x in
            record {
              inv = cleaning-keeps n s held (Flushed n);
              told = (allowed (Flush c n) r N tt tt (record { stamp = s; held = held; wanted = W }), (refl, W, cleaned n s held (Flushed n)));
              cores = (R n s held).size;
              blocks = refl;
              honest = silent;
            }

        go : (o : Option ℕ) → modified_at r c n ≡ o → Good r b (Flush c n) (flush_by r c n (owed_of r c n o))
        go None e = refused-by (λ W. unmodified (look_of t n) W.stamp e W.held)
        go (Some s) e = flushed s e (awaited 0 c n cs) refl

    commit-good : (n : ℕ) → Allowed (Commit c n) r → Good r b (Commit c n) (commit r c n)
    commit-good n may = go (modified_at r c n) refl
      where
        go : (o : Option ℕ) → modified_at r c n ≡ o → Good r b (Commit c n) (commit_by r c n o)
        go None e = record {
          inv = record { sound = S; states = I.states; count = add-zero _ ∙ I.count };
          told = (may, (n, refl, ((λ s x. unmodified (look_of t n) s e x), refl, refl, refl)));
          cores = refl;
          blocks = refl;
          honest = silent;
        }
        go (Some s) e = record {
          inv = cleaning-keeps n s (owed_held _ s e) (Committed true);
          told = (may, (n, refl, cleaned n s (owed_held _ s e) (Committed true)));
          cores = (R n s (owed_held _ s e)).size;
          blocks = refl;
          honest = silent;
        }

  act-good : (k : Call) → Named k r → core_of k < length cs → (s : CoreState) → state_at cs (core_of k) ≡ s → Good r b k (act r k s)
  act-good (Read c n) N lt Ready e = named-good (Read c n) (ToRead n) (allowed (Read c n) r N e tt tt) (refl, e, refl) tt refl lt N.block
  act-good (Read c n) N lt (Waiting a) e = refused-good (Read c n) WrongState (wrong_state (Read c n) r N λ w. ready-waiting a (sym w ∙ e))
  act-good (Read c n) N lt (Due a) e = refused-good (Read c n) WrongState (wrong_state (Read c n) r N λ w. ready-due a (sym w ∙ e))
  act-good (Write c n) N lt Ready e = named-good (Write c n) (ToWrite n) (allowed (Write c n) r N e tt tt) (refl, e, refl) refl refl lt N.block
  act-good (Write c n) N lt (Waiting a) e = refused-good (Write c n) WrongState (wrong_state (Write c n) r N λ w. ready-waiting a (sym w ∙ e))
  act-good (Write c n) N lt (Due a) e = refused-good (Write c n) WrongState (wrong_state (Write c n) r N λ w. ready-due a (sym w ∙ e))
  act-good (Fetch c) N lt Ready e = refused-good (Fetch c) WrongState (wrong_state (Fetch c) r N λ w. ready-waiting w.0 (sym e ∙ w.1))
  act-good (Fetch c) N lt (Waiting a) e = fetch-good c lt N a e
  act-good (Fetch c) N lt (Due a) e = refused-good (Fetch c) WrongState (wrong_state (Fetch c) r N λ w. waiting-due w.0 a (sym w.1 ∙ e))
  act-good (Resume c) N lt Ready e = refused-good (Resume c) WrongState (wrong_state (Resume c) r N λ w. ready-due w.0 (sym e ∙ w.1))
  act-good (Resume c) N lt (Waiting a) e = refused-good (Resume c) WrongState (wrong_state (Resume c) r N λ w. waiting-due a w.0 (sym e ∙ w.1))
  act-good (Resume c) N lt (Due a) e = resume_good c a (allowed (Resume c) r N (a, e) tt tt) lt e
  act-good (Flush c n) N lt Ready e = flush-good c lt n N
  act-good (Flush c n) N lt (Waiting a) e = flush-good c lt n N
  act-good (Flush c n) N lt (Due a) e = flush-good c lt n N
  act-good (Commit c n) N lt Ready e = commit-good c lt n (allowed (Commit c n) r N e tt tt)
  act-good (Commit c n) N lt (Waiting a) e = refused-good (Commit c n) WrongState (wrong_state (Commit c n) r N λ w. ready-waiting a (sym w ∙ e))
  act-good (Commit c n) N lt (Due a) e = refused-good (Commit c n) WrongState (wrong_state (Commit c n) r N λ w. ready-due a (sym w ∙ e))

  pub step-good : (k : Call) → Good r b k (step r k)
  unfolding step
  step-good k =
      provided-good k (ltb r.tally.steps most_steps) TooManySteps _ (λ x. no_room k r (λ h. full (ltb-false _ _ x) h)) λ x.
      provided-good k (ltb (core_of k) (count_of cs)) NoSuchCore _ (λ y. no_core k r (ltb-true _ _ x) (not_there (core_of k) cs S.short (ltb-false _ _ y))) λ y.
      let lt : core_of k < length cs = omega (arith, ltb-true _ _ y) in
      provided-good k (fits_in (size_of m) k) NoSuchBlock _ (λ z. no_block k r (ltb-true _ _ x) lt (not_in_memory k m z)) λ z.
      act-good k (record { room = ltb-true _ _ x; core = lt; block = in_memory k m z }) lt (state_at cs (core_of k)) refl
