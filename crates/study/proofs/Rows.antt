-- A row of at most eight cores, by what stands at each place: one core replaced, and one block dropped by all cores but one.
use Rattle.std.proofs.Common.{◌≡◌, ℕ, zero, suc, ◌+◌, ◌<◌, ◌≤◌, Bool, true, false, cond, eqb, ltb, ◌&&◌, ◌||◌, ◌≢◌, List, [], ◌∷◌, length, get_or, set, None, sym, refl, ap, ◌∙◌, ⊎_elim, le_of_suc-le-suc, not-suc-le-zero, arith, length-set, get_or-set_other, get_or-set_same}
use mathlib.Core.Bool.{false≢true}
use native.Mathlib.Decide.{ℕ_discrete}
use lib.ListN.{get_or-eq_default}
use Rattle.std.proofs.lemmas.Bool.{cases_lt, lt-ltb, le-ltb, eq-eqb, eqb-true, ne_eqb, or_cases}
use Rattle.device.specs.Device.{after}
use Rattle.parts.specs.declared.mark.Mark.{Mark}
use Rattle.parts.specs.declared.mark.Mark.TheVariants.{Shared, Modified}
use Rattle.parts.specs.Marks.{mark_number}
use Rattle.tier.specs.Meaning.{TierCall, take, look_of, bare, Lawful}
use Rattle.protocol.specs.declared.access.Access.{Access}
use Rattle.protocol.specs.declared.access.CoreState.{CoreState}
use Rattle.protocol.specs.declared.access.CoreState.TheVariants.{Ready, Waiting, Due}
use Rattle.protocol.specs.Accesses.{block_of}
use Rattle.moves.specs.Moves.{modified_stamp}
use Rattle.row.specs.declared.operation.Operation.{Operation}
use Rattle.row.specs.Cores.{CoreMeaning, core, absent, core_at, place, tier_at, state_at, turned, operated, done, reaches, dropped, invalidated, later, met_by, met, awaits, awaited}
use Rattle.study.specs.Step.{alone_cores}
use Rattle.study.specs.Coherence.{copy_of}
use Rattle.study.specs.Questions.{Wanted}
use Rattle.study.specs.Told.{given_up}
use Rattle.study.proofs.Tiers.{held, lawful-after}

-- in a row of at most eight, every core is at its place
pub at_place : (cs : List CoreMeaning) (d : ℕ) → length cs ≤ 8 → core_at cs d ≡ get_or cs d absent
unfolding core_at
at_place cs d h = ⊎_elim
    (λ lt. ap (λ b. cond b (get_or cs d absent) absent) (lt-ltb d 8 lt))
    (λ le. ap (λ b. cond b (get_or cs d absent) absent) (le-ltb d 8 le) ∙ sym (get_or-eq_default cs absent (omega arith))) (cases_lt d 8)

pub past : (cs : List CoreMeaning) (d : ℕ) → length cs ≤ 8 → length cs ≤ d → core_at cs d ≡ absent
past cs d h le = at_place cs d h ∙ get_or-eq_default cs absent le

pub absent-holds : (n : ℕ) → held absent.tier n ≡ None
unfolding absent
absent-holds n = refl

-- no call alters a core that is not there
pub absent-stays : (c : TierCall) → absent.tier ≡ after absent.tier c
unfolding absent
absent-stays c = refl

pub absent_shows : (n : ℕ) → look_of absent.tier n ≡ None
unfolding absent
absent_shows n = refl

-- a row with x as core c, and else as it was
pub record Replaced (cs cs' : List CoreMeaning) (c : ℕ) (x : CoreMeaning) : Type 0 where
  pub size : length cs' ≡ length cs
  pub here : core_at cs' c ≡ x
  pub there : (d : ℕ) → d ≢ c → core_at cs' d ≡ core_at cs d

module _ (cs cs' : List CoreMeaning) (c : ℕ) (x : CoreMeaning) (R : Replaced cs cs' c x) where
  pub copy_here : (n : ℕ) → copy_of cs' c n ≡ held x.tier n
  copy_here n = ap (λ (y : CoreMeaning). held y.tier n) R.here

  pub copy_there : (n d : ℕ) → d ≢ c → copy_of cs' d n ≡ copy_of cs d n
  copy_there n d ne = ap (λ (y : CoreMeaning). held y.tier n) (R.there d ne)

  pub tiers-lawful : Lawful x.tier → ((d : ℕ) → d ≢ c → d < length cs → Lawful (tier_at cs d)) → (d : ℕ) → d < length cs' → Lawful (tier_at cs' d)
  tiers-lawful ok f d h = elim (ℕ_discrete d c) [
    | yes q ↦ rw q (rw (R.here, tier_at) ok)
    | no ne ↦ rw (R.there d ne, tier_at) (f d ne (rw R.size at h))
  ]

pub placed : (cs : List CoreMeaning) (c : ℕ) (x : CoreMeaning) → length cs ≤ 8 → c < length cs → Replaced cs (place cs c x) c x
unfolding place
placed cs c x h lt = rw (lt-ltb c 8 (omega arith)) (record {
  size = length-set cs c x;
  here = at_place (set cs c x) c (rw length-set h) ∙ get_or-set_same cs c x absent lt;
  there = λ d ne. at_place (set cs c x) d (rw length-set h) ∙ get_or-set_other cs c d x absent ne ∙ sym (at_place cs d h);
})

-- an operation of core c, which is y; and then another state
pub operated_on : (cs : List CoreMeaning) (c : ℕ) (o : Operation) (y : CoreMeaning) → core_at cs c ≡ y → length cs ≤ 8 → c < length cs
    → Replaced cs (done cs c o) c (core (operated y.tier o) y.state)
operated_on cs c o y e h lt =
    let p = placed cs c (core (operated (tier_at cs c) o) (state_at cs c)) h lt in
    record { size = p.size; here = p.here ∙ ap (λ (x : CoreMeaning). core (operated x.tier o) x.state) e; there = p.there }

pub turned-done : (cs : List CoreMeaning) (c : ℕ) (o : Operation) (s : CoreState) → length cs ≤ 8 → c < length cs
    → Replaced cs (turned (done cs c o) c s) c (core (operated (tier_at cs c) o) s)
turned-done cs c o s h lt =
    let p = operated_on cs c o (core_at cs c) refl h lt in
    let q = placed (done cs c o) c (core (tier_at (done cs c o) c) s) (rw p.size h) (rw p.size lt) in
    record {
      size = q.size ∙ p.size;
      here = q.here ∙ ap (λ (x : CoreMeaning). core x.tier s) p.here;
      there = λ d ne. q.there d ne ∙ p.there d ne;
    }

-- a core that has dropped block n at most
pub record Drops (n : ℕ) (x x' : CoreMeaning) : Type 0 where
  pub state : x'.state ≡ x.state
  pub lawful : Lawful x.tier → Lawful x'.tier
  pub empty : held x'.tier n ≡ None
  pub others : (j : ℕ) → j ≢ n → held x'.tier j ≡ held x.tier j

pub drops_none : (n : ℕ) (x : CoreMeaning) → held x.tier n ≡ None → Drops n x x
drops_none n x e = record { state = refl; lawful = λ ok. ok; empty = e; others = λ j ne. refl }

drops_take : (n : ℕ) (x : CoreMeaning) → Lawful x.tier → Drops n x (dropped true n x)
drops_take n x ok = record
    { state = refl; lawful = lawful-after x.tier (take n); empty = ap bare ((ok []).take_gone n); others = λ j ne. ap bare ((ok []).take_rest n j ne) }

-- core c alone may have block n
pub record Alone (cs cs' : List CoreMeaning) (c n : ℕ) : Type 0 where
  pub size : length cs' ≡ length cs
  pub here : core_at cs' c ≡ core_at cs c
  pub there : (d : ℕ) → d ≢ c → Drops n (core_at cs d) (core_at cs' d)

invalidated-size : (i c n : ℕ) (cs : List CoreMeaning) → length (invalidated i c n cs) ≡ length cs
unfolding invalidated
invalidated-size i c n [] = refl
invalidated-size i c n (x ∷ xs) = ap suc (invalidated-size (suc i) c n xs)

-- core d of the row is numbered j
invalidated-at : (i c n : ℕ) (cs : List CoreMeaning) (d j : ℕ) → j ≡ i + d → d < length cs
    → get_or (invalidated i c n cs) d absent ≡ dropped (reaches c j) n (get_or cs d absent)
unfolding invalidated
invalidated-at i c n [] d j e h = absurd (not-suc-le-zero h)
invalidated-at i c n (x ∷ xs) zero j e h = let q : i ≡ j = omega arith in ap (λ k. dropped (reaches c k) n x) q
invalidated-at i c n (x ∷ xs) (suc d) j e h = invalidated-at (suc i) c n xs d j (omega arith) (le_of_suc-le-suc h)

module _ (cs : List CoreMeaning) (short : length cs ≤ 8) (c n : ℕ) where
  abbrev cs' : List CoreMeaning
  cs' = invalidated 0 c n cs

  short' : length cs' ≤ 8
  short' = rw invalidated-size short

  after_message : (d : ℕ) → d < length cs → core_at cs' d ≡ dropped (reaches c d) n (core_at cs d)
  after_message d h = at_place cs' d short' ∙ invalidated-at 0 c n cs d d (omega arith) h ∙ ap (dropped (reaches c d) n) (sym (at_place cs d short))

  sender_same : core_at cs' c ≡ core_at cs c
  sender_same = ⊎_elim
      (λ h. after_message c h ∙ ap (λ b. dropped (cond b false (ltb c 8)) n (core_at cs c)) (eq-eqb c c refl))
      (λ h. past cs' c short' (rw invalidated-size h) ∙ sym (past cs c short h)) (cases_lt c (length cs))

  -- the message reaches every other core
  others_drop : ((d : ℕ) → d < length cs → Lawful (tier_at cs d)) → (d : ℕ) → d ≢ c → Drops n (core_at cs d) (core_at cs' d)
  others_drop ok d ne = ⊎_elim
      (λ h.
      let r : reaches c d ≡ true = rw (ne_eqb d c ne) (lt-ltb d 8 (omega arith)) in
      rw (after_message d h, r) (drops_take n (core_at cs d) (ok d h)))
      (λ h. rw (past cs' d short' (rw invalidated-size h), past cs d short h) (drops_none n absent (absent-holds n))) (cases_lt d (length cs))

  -- its tier has then given up the block
  others-give_up : (d : ℕ) → d ≢ c → tier_at cs' d ≡ after (tier_at cs d) (take n)
  others-give_up d ne = ⊎_elim
      (λ h.
      let r : reaches c d ≡ true = rw (ne_eqb d c ne) (lt-ltb d 8 (omega arith)) in
      ap (λ (x : CoreMeaning). x.tier) (after_message d h ∙ ap (λ b. dropped b n (core_at cs d)) r))
      (λ h. ap (λ (x : CoreMeaning). x.tier) (past cs' d short' (rw invalidated-size h)) ∙ absent-stays (take n)
      ∙ ap (λ (x : CoreMeaning). after x.tier (take n)) (sym (past cs d short h))) (cases_lt d (length cs))

-- what each other core's tier becomes when block n is written, which its writer held with the mark k
pub giving_up : (k : Mark) (cs : List CoreMeaning) (c n : ℕ) → length cs ≤ 8 → (d : ℕ) → d ≢ c
    → tier_at (alone_cores (eqb (mark_number k) 1) c n cs) d ≡ given_up k n (tier_at cs d)
giving_up Shared cs c n short d ne = others-give_up cs short c n d ne
giving_up Modified cs c n short d ne = refl

-- core c becomes the only holder; it was already where b is true
pub alone : (b : Bool) (cs : List CoreMeaning) (c n : ℕ) → length cs ≤ 8 → ((d : ℕ) → d < length cs → Lawful (tier_at cs d))
    → (b ≡ true → (d : ℕ) → d ≢ c → held (tier_at cs d) n ≡ None) → Alone cs (alone_cores b c n cs) c n
alone true cs c n short ok own = record { size = refl; here = refl; there = λ d ne. drops_none n (core_at cs d) (own refl d ne) }
alone false cs c n short ok own = record { size = invalidated-size 0 c n cs; here = sender_same cs short c n; there = others_drop cs short c n ok }

-- a message reaches no core that sent it
apart : (i c : ℕ) → reaches c i ≡ true → i ≢ c
apart i c q e = false≢true (sym (ap (λ b. cond b false (ltb i 8)) (eq-eqb i c e)) ∙ q)

-- no core but the sender has a modified copy: a message meets none
pub met-none : (i c n : ℕ) (cs : List CoreMeaning) → ((d j : ℕ) → j ≡ i + d → j ≢ c → d < length cs → modified_stamp (look_of (get_or cs d absent).tier n) ≡ None) → met i c n cs ≡ None
unfolding met
met-none i c n [] f = refl
met-none i c n (x ∷ xs) f =
    let rest : met (suc i) c n xs ≡ None = met-none (suc i) c n xs (λ d j e ne h. f (suc d) j (omega arith) ne (omega arith)) in
    let here : met_by (reaches c i) n x ≡ None = go (reaches c i) refl in
    (λ k. later (here k) (rest k))
  where
    go : (b : Bool) → reaches c i ≡ b → met_by b n x ≡ None
    go false q = refl
    go true q = f 0 i (omega arith) (apart i c q) (omega arith)

-- a core that waits for block n, in a row whose cores are numbered from i
record WaitsAt (i c n : ℕ) (cs : List CoreMeaning) : Type 0 where
  d : ℕ
  below : d < length cs
  other : i + d ≢ c
  access : Access
  state : (get_or cs d absent).state ≡ Waiting access
  block : block_of access ≡ n

awaiting : (i c n : ℕ) (cs : List CoreMeaning) → awaited i c n cs ≡ true → WaitsAt i c n cs
unfolding awaited
awaiting i c n [] e = absurd (false≢true e)
awaiting i c n (x ∷ xs) e = ⊎_elim (here (reaches c i) refl x.state refl) (λ q. next (awaiting (suc i) c n xs q)) (or_cases (reaches c i && awaits n x.state) (awaited (suc i) c n xs) e)
  where
    here : (b : Bool) → reaches c i ≡ b → (s : CoreState) → x.state ≡ s → (b && awaits n s) ≡ true → WaitsAt i c n (x ∷ xs)
    here false q s p z = absurd (false≢true z)
    here true q Ready p z = absurd (false≢true z)
    here true q (Due a) p z = absurd (false≢true z)
    here true q (Waiting a) p z =
        let ne = apart i c q in
        record { d = 0; below = omega arith; other = λ y. ne (omega (arith, y)); access = a; state = p; block = eqb-true (block_of a) n z }

    next : WaitsAt (suc i) c n xs → WaitsAt i c n (x ∷ xs)
    next W = record { d = suc W.d; below = omega (arith, W.below); other = λ q. W.other (omega (arith, q)); access = W.access; state = W.state; block = W.block }

pub wanted : (cs : List CoreMeaning) (c n : ℕ) → length cs ≤ 8 → awaited 0 c n cs ≡ true → Wanted c n cs
wanted cs c n short e =
    let W : WaitsAt 0 c n cs = awaiting 0 c n cs e in
    record {
      core = W.d;
      other = λ q. W.other (omega (arith, q));
      wanted = W.access;
      waits = ap (λ (x : CoreMeaning). x.state) (at_place cs W.d short) ∙ W.state;
      block = W.block;
    }

-- where nobody is awaited, no other core waits
neither : (p q : Bool) → (p || q) ≡ false → (p ≡ false) × (q ≡ false)
neither false q e = (refl, e)
neither true q e = absurd (false≢true (sym e))

unawaiting : (i c n : ℕ) (cs : List CoreMeaning) → awaited i c n cs ≡ false → (d j : ℕ) → j ≡ i + d → j < 8 → j ≢ c → d < length cs
    → (a : Access) → (get_or cs d absent).state ≡ Waiting a → block_of a ≡ n → ⊥
unfolding awaited
unawaiting i c n [] e d j q lt ne h a w z = absurd (not-suc-le-zero h)
unawaiting i c n (x ∷ xs) e zero j q lt ne h a w z =
    let is : i ≡ j = omega (arith, q) in
    let r : reaches c i ≡ true = rw (is, ne_eqb j c ne) (lt-ltb j 8 lt) in
    let t : awaits n x.state ≡ true = ap (awaits n) w ∙ eq-eqb (block_of a) n z in
    let both : (reaches c i && awaits n x.state) ≡ true = rw (r, t) refl in
    false≢true (sym (neither (reaches c i && awaits n x.state) (awaited (suc i) c n xs) e).0 ∙ both)
unawaiting i c n (x ∷ xs) e (suc d) j q lt ne h a w z =
    unawaiting (suc i) c n xs (neither (reaches c i && awaits n x.state) (awaited (suc i) c n xs) e).1 d j (omega (arith, q)) lt ne (le_of_suc-le-suc h) a w z

-- a core that is not there does not wait
idle : (a : Access) → ◌≡◌ {A = CoreState} Ready (Waiting a) → ⊥
idle a e = let z : ◌≡◌ {A = ℕ} 0 1 = cc in omega arith

absent-ready : absent.state ≡ Ready
unfolding absent
absent-ready = refl

pub unwanted : (cs : List CoreMeaning) (c n : ℕ) → length cs ≤ 8 → awaited 0 c n cs ≡ false → Wanted c n cs → ⊥
unwanted cs c n short e W = ⊎_elim
    (λ h. unawaiting 0 c n cs e W.core W.core (omega arith) (omega (arith, h, short)) W.other h W.wanted (ap (λ (x : CoreMeaning). x.state) (sym (at_place cs W.core short)) ∙ W.waits) W.block)
    (λ h. idle W.wanted (sym absent-ready ∙ ap (λ (x : CoreMeaning). x.state) (sym (past cs W.core short h)) ∙ W.waits)) (cases_lt W.core (length cs))
