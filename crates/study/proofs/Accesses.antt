-- What every call keeps, and that accesses keep it: waiting, reading and writing.
use Rattle.std.proofs.Common.{◌≡◌, ℕ, ◌+◌, ◌<◌, ◌≤◌, Bool, true, false, cond, eqb, ◌≢◌, List, [], length, Some, None, Option, sym, refl, ap, ◌∙◌, subst, add-zero}
use mathlib.Core.Bool.{false≢true}
use native.Mathlib.Decide.{ℕ_discrete}
use Rattle.std.proofs.lemmas.Bool.{eqb-true}
use Rattle.parts.specs.declared.mark.Mark.{Mark}
use Rattle.parts.specs.declared.mark.Mark.TheVariants.{Shared, Modified}
use Rattle.parts.specs.declared.line.Line.{Line}
use Rattle.parts.specs.Marks.{mark_number, mark_of}
use Rattle.device.specs.Device.{after}
use Rattle.tier.specs.Meaning.{TierMeaning, change, touch, Holding, look_of, line, bare, Lawful}
use Rattle.tier.specs.Options.{none-some}
use Rattle.memory.specs.Meaning.{MemoryMeaning, stale, size_of}
use Rattle.protocol.specs.declared.access.Access.{Access}
use Rattle.protocol.specs.declared.access.Access.TheVariants.{Read as ToRead, Write as ToWrite}
use Rattle.protocol.specs.declared.access.CoreState.{CoreState}
use Rattle.protocol.specs.declared.access.CoreState.TheVariants.{Ready, Waiting, Due}
use Rattle.protocol.specs.declared.answer.Word.TheVariants.{Wrote}
use Rattle.protocol.specs.declared.call.Call.{Call}
use Rattle.protocol.specs.declared.call.Call.TheVariants.{Resume}
use Rattle.protocol.specs.Accesses.{block_of}
use Rattle.protocol.specs.Answers.{word_of}
use Rattle.protocol.specs.Calls.{core_of}
use Rattle.protocol.specs.declared.weights.Movement.TheVariants.{FromLevel}
use Rattle.protocol.specs.Prices.{level_price}
use Rattle.moves.specs.Moves.{is_modified, put_back, raised, raised_out}
use Rattle.moves.proofs.Raising.{mark_of_number, raised_look}
use Rattle.row.specs.declared.operation.Operation.TheVariants.{BringUp, Change as ToChange}
use Rattle.row.specs.Cores.{CoreMeaning, core, core_at, tier_at, state_at, done, met}
use Rattle.study.specs.Run.{RunMeaning, Outcome}
use Rattle.study.specs.Step.{valid, memory_taking, movement_of, charged, waiting, brought_up, reading, alone_cores, recalled, alone_memory, writing, access_by, access}
use Rattle.study.specs.Book.{Book, asking, heard, entered, may_write, noted, Honest}
use Rattle.study.specs.Coherence.{copy_of}
use Rattle.study.specs.Questions.{Allowed}
use Rattle.study.specs.Told.{Asks, Told, served, given_up, taking, outdated, LevelWeight, leaving_price}
use Rattle.study.proofs.Block.{Owner, owner, stamped, kept}
use Rattle.study.proofs.Tiers.{held, Passed, stayed, gone, lawful-after, Raised, raises, change-holds, change-others}
use Rattle.study.proofs.Memories.{Kept, alone-kept, alone-stale, left-lawful, left-size, left-others, left-change}
use Rattle.study.proofs.Rows.{Replaced, copy_here, copy_there, placed, operated_on, turned-done, Drops, Alone, giving_up, alone}
use Rattle.study.proofs.Sound.{Sound, inside, meets-none, change-sound, own-sound}
use Rattle.study.proofs.Rests.{leaving_cost, takes, level_weight, rest-of}

-- a core with the tier t in the state s, where memory has z blocks and a is the block that the core last asked for
abbrev StandsIn : ℕ → ℕ → TierMeaning → CoreState → Type 0
StandsIn z a t Ready = Unit {0}
StandsIn z a t (Waiting x) = (block_of x < z) × (a ≡ block_of x) × (held t (block_of x) ≡ None)
StandsIn z a t (Due x) = (block_of x < z) × (a ≡ block_of x)

abbrev pub Stands : ℕ → ℕ → CoreMeaning → Type 0
Stands z a x = StandsIn z a x.tier x.state

-- what is known of a run and the book of its calls
pub record Inv (r : RunMeaning) (b : Book) : Type 0 where
  pub sound : Sound r.cores r.memory b.number
  pub states : (d : ℕ) → Stands (size_of r.memory) (b.asked d) (core_at r.cores d)
  pub count : r.tally.writes ≡ b.count

-- a call of the run r so answered keeps it, its cores and its blocks; its answer is honest, and tells what is so
pub record Good (r : RunMeaning) (b : Book) (k : Call) (o : Outcome) : Type 0 where
  pub inv : Inv o.run (noted b k (word_of o.answer))
  pub told : Told k r o.run o.answer o.charge
  pub cores : length o.run.cores ≡ length r.cores
  pub blocks : size_of o.run.memory ≡ size_of r.memory
  pub honest : Honest (noted b k (word_of o.answer)) (core_of k) o.answer

-- an answer that does not say read claims nothing
pub silent : {P : Type 0} → false ≡ true → P
silent e = absurd (false≢true e)

-- a core that holds no more than it did
pub stands-less : (z a : ℕ) (t t' : TierMeaning) (s : CoreState) → ((j : ℕ) → held t j ≡ None → held t' j ≡ None) → Stands z a (core t s) → Stands z a (core t' s)
stands-less z a t t' Ready f w = tt
stands-less z a t t' (Waiting x) f w = (w.0, w.1, f (block_of x) w.2)
stands-less z a t t' (Due x) f w = w

stands-dropped : (z a n : ℕ) (x x' : CoreMeaning) → Drops n x x' → Stands z a x → Stands z a x'
stands-dropped z a n x x' D w = rw D.state (stands-less z a x.tier x'.tier x.state
    (λ j e. elim (ℕ_discrete j n) [ yes q ↦ rw q D.empty | no ne ↦ D.others j ne ∙ e ]) w)

pub stands_replaced : (z z' : ℕ) (asked : ℕ → ℕ) (cs cs' : List CoreMeaning) (c : ℕ) (x : CoreMeaning) → Replaced cs cs' c x → z' ≡ z
    → ((d : ℕ) → d ≢ c → Stands z (asked d) (core_at cs d)) → Stands z (asked c) x → (d : ℕ) → Stands z' (asked d) (core_at cs' d)
stands_replaced z z' asked cs cs' c x R e f w d = rw e (elim (ℕ_discrete d c) [
  | yes q ↦ subst (λ i. Stands z (asked i) (core_at cs' i)) (sym q) (subst (Stands z (asked c)) (sym R.here) w)
  | no ne ↦ subst (Stands z (asked d)) (sym (R.there d ne)) (f d ne)
])

-- if the access is a write, the book credits the call k
abbrev pub Credits : Call → Access → Type 0
Credits k (ToRead n) = Unit {0}
Credits k (ToWrite n) = may_write k ≡ true

pub resume_credits : (c : ℕ) (a : Access) → Credits (Resume c) a
resume_credits c (ToRead n) = tt
resume_credits c (ToWrite n) = refl

-- an access by the core of the call k
module _ (r : RunMeaning) (b : Book) (k : Call) (S : Sound r.cores r.memory b.number) (lt : core_of k < length r.cores)
    (states : (d : ℕ) → d ≢ core_of k → Stands (size_of r.memory) (asking k b.asked d) (core_at r.cores d))
    (count : r.tally.writes ≡ b.count) (may : Allowed k r) where
  abbrev c : ℕ
  c = core_of k

  abbrev cs : List CoreMeaning
  cs = r.cores

  abbrev m : MemoryMeaning
  m = r.memory

  abbrev t : TierMeaning
  t = tier_at cs c

  ok : Lawful t
  ok = S.tiers c lt

  waiting-good : (a : Access) → Asks k c (state_at cs c) a → block_of a < size_of m → asking k b.asked c ≡ block_of a → look_of t (block_of a) ≡ None
      → Good r b k (waiting r c a)
  waiting-good a asks h q e =
      let R = placed cs c (core t (Waiting a)) S.short lt in
      record {
        inv = record {
          sound = change-sound cs m b.number S _ m c _ R ok S.memory refl (λ n. kept refl refl);
          states = stands_replaced _ _ (asking k b.asked) cs _ c _ R refl states (h, q, ap bare e);
          count = add-zero _ ∙ count;
        };
        told = (
          may,
          record {
            wanted = a;
            asked = asks;
            block = refl;
            lacked = ap bare e;
            waits = ap (λ (x : CoreMeaning). x.state) R.here;
            others = R.there;
            tiers = λ d. elim (ℕ_discrete d c) [
              | yes q ↦ rw q (ap (λ (x : CoreMeaning). x.tier) R.here)
              | no ne ↦ ap (λ (x : CoreMeaning). x.tier) (R.there d ne)
            ];
            memory = refl;
            charged = refl;
          },
        );
        cores = R.size;
        blocks = refl;
        honest = silent;
      }

  -- of block n, which the core asked for and holds
  module _ (n : ℕ) (h : Holding) (q : asking k b.asked c ≡ n) (e : look_of t n ≡ Some h) where
    -- the cores and the memory when the block is brought up
    abbrev t₁ : TierMeaning
    t₁ = raised t n h

    abbrev out : Option Line
    out = raised_out t n h

    abbrev cs₁ : List CoreMeaning
    cs₁ = brought_up r c n h

    abbrev m₁ : MemoryMeaning
    m₁ = memory_taking out m

    up : Raised t t₁ out n (h.0, h.1)
    up = raises t ok n h e

    replaced₁ : Replaced cs cs₁ c (core t₁ Ready)
    replaced₁ = turned-done cs c (BringUp n h) Ready S.short lt

    size₁ : size_of m₁ ≡ size_of m
    size₁ = left-size m S.memory out

    sound₁ : Sound cs₁ m₁ b.number
    sound₁ = change-sound cs m b.number S cs₁ m₁ c _ replaced₁ up.lawful (left-lawful m S.memory out) size₁
        (λ j. left-change m S.memory t t₁ out j (inside cs m b.number S c) (up.passed j))

    within : n < size_of m
    within = inside cs m b.number S c n (h.0, h.1) (ap bare e)

    -- it is not given out itself
    stays₁ : (g : Line) → out ≡ Some g → n ≢ g.block
    stays₁ = go (up.passed n)
      where
        go : Passed t t₁ out n → (g : Line) → out ≡ Some g → n ≢ g.block
        go (stayed x f) = f
        go (gone g' x q y z) = none-some (held t₁ n) (h.0, h.1) (ap (held t₁) q ∙ z) up.holds

    first₁ : look_of t₁ n ≡ Some (h.0, h.1, 1)
    first₁ = raised_look t ok n h e

    mark : (x : Mark) × (mark_of h.0 ≡ Some x) × (mark_number x ≡ h.0)
    mark = mark_of_number h.0 ((ok []).marks n h e)

    -- it was held so, and served so
    held₁ : look_of t n ≡ Some (mark_number mark.0, h.1, h.2)
    held₁ = e ∙ ap (λ i. Some (i, h.1, h.2)) (sym mark.2)

    served₁ : t₁ ≡ served t n mark.0 h.1 h.2
    served₁ = ap (λ o. cond (eqb h.2 1) (after t (touch n)) (put_back t n o h.1)) mark.1

    -- what it costs: the weight of its level, and more where a modified line leaves
    levels₁ : (1 ≤ h.2) × (h.2 ≤ 4)
    levels₁ = (ok []).levels n h e

    weight₁ : LevelWeight r.prices h.2 (level_price r.prices h.2)
    weight₁ = level_weight r.prices h.2 levels₁.0 levels₁.1

    cost₁ : charged r.prices (FromLevel h.2) (movement_of out) ≡ level_price r.prices h.2 + leaving_price r.prices out
    cost₁ = ap (λ i. level_price r.prices h.2 + i) (leaving_cost r.prices out)

    reading-good : Asks k c (state_at cs c) (ToRead n) → Good r b k (reading r c n h)
    reading-good asks = record {
      inv = record {
        sound = sound₁;
        states = stands_replaced _ _ (asking k b.asked) cs cs₁ c _ replaced₁ size₁ states tt;
        count = add-zero _ ∙ count;
      };
      told = (
        may,
        record {
          block = n;
          asked = asks;
          mark = mark.0;
          level = h.2;
          access = record {
            held = held₁;
            ready = ap (λ (x : CoreMeaning). x.state) replaced₁.here;
            rest = rest-of r _ c n t₁ out S.memory (inside cs m b.number S c) (λ j ne. copy_here cs cs₁ c _ replaced₁ j) (λ j ne. refl) (λ j ne. up.passed j) stays₁;
            weight = level_price r.prices h.2;
            level = weight₁;
            charged = cost₁;
          };
          holds = ap (λ (x : CoreMeaning). look_of x.tier n) replaced₁.here ∙ first₁ ∙ ap (λ i. Some (i, h.1, 1)) (sym mark.2);
          stays = left-others m S.memory out n stays₁;
          tier = ap (λ (x : CoreMeaning). x.tier) replaced₁.here ∙ served₁;
          others = replaced₁.there;
          memory = takes out m;
        },
      );
      cores = replaced₁.size;
      blocks = size₁;
      honest = λ _. rw q (stamped (b.number n) _ _ c (h.0, h.1) (ap bare e) (S.blocks n within));
    }

    within₁ : n < size_of m₁
    within₁ = rw size₁ within

    -- a modified copy has no other
    owning : is_modified h ≡ true → Owner (b.number n) (λ d. copy_of cs₁ d n) (valid m₁ n) c h.1
    owning z = owner (b.number n) _ _ c h.1
        (copy_here cs cs₁ c _ replaced₁ n ∙ up.holds ∙ ap (λ i. Some (i, h.1)) (eqb-true h.0 1 z)) (sound₁.blocks n within₁)

    lt₁ : c < length cs₁
    lt₁ = rw replaced₁.size lt

    abbrev cs₂ : List CoreMeaning
    cs₂ = alone_cores (is_modified h) c n cs₁

    alone₂ : Alone cs₁ cs₂ c n
    alone₂ = alone (is_modified h) cs₁ c n sound₁.short sound₁.tiers (λ z. (owning z).alone)

    kept₂ : Kept n m₁ (alone_memory (is_modified h) c n cs₁ m₁)
    kept₂ = alone-kept m₁ sound₁.memory (is_modified h) c n cs₁

    given_up₂ : (d : ℕ) → d ≢ c → tier_at cs₂ d ≡ given_up mark.0 n (tier_at cs₁ d)
    given_up₂ d ne = subst (λ i. tier_at (alone_cores (eqb i 1) c n cs₁) d ≡ given_up mark.0 n (tier_at cs₁ d)) mark.2 (giving_up mark.0 cs₁ c n sound₁.short d ne)

    -- memory's block is stale then, which it is already where the copy is modified
    outdated₂ : alone_memory (is_modified h) c n cs₁ m₁ ≡ outdated mark.0 n (taking out m)
    outdated₂ = go (mark.0) mark.2
      where
        go : (x : Mark) → mark_number x ≡ h.0 → alone_memory (is_modified h) c n cs₁ m₁ ≡ outdated x n (taking out m)
        go Shared is =
            let unmet : met 0 c n cs₁ ≡ None = meets-none cs₁ m₁ b.number sound₁ c n h.1 (copy_here cs cs₁ c _ replaced₁ n ∙ up.holds ∙ ap (λ i. Some (i, h.1)) (sym is)) in
            subst (λ i. alone_memory (eqb i 1) c n cs₁ m₁ ≡ after (taking out m) (stale n)) is
            (ap (λ o. after (recalled n o m₁) (stale n)) unmet ∙ ap (λ x. after x (stale n)) (takes out m))
        go Modified is = subst (λ i. alone_memory (eqb i 1) c n cs₁ m₁ ≡ taking out m) is (takes out m)

    abbrev w : ℕ
    w = r.tally.writes + 1

    -- the book that credits the write
    abbrev credited : Book
    credited = entered c (heard b k Wrote)

    replaced₂ : Replaced cs₂ (done cs₂ c (ToChange (line n Modified w))) c (core (after t₁ (change n Modified w)) Ready)
    replaced₂ = operated_on cs₂ c (ToChange (line n Modified w)) (core t₁ Ready) (alone₂.here ∙ replaced₁.here) (rw alone₂.size sound₁.short) (rw alone₂.size lt₁)

    stale₂ : valid (alone_memory (is_modified h) c n cs₁ m₁) n ≡ None
    stale₂ = alone-stale m₁ sound₁.memory (is_modified h) c n cs₁ within₁ (λ z. (owning z).behind)

    written : Inv (writing r c n h).run credited
    written = record {
      sound = rw (q, ← count) (own-sound cs₁ m₁ b.number sound₁ cs₂ _ _ c n w _ alone₂ replaced₂
          (lawful-after t₁ (change n Modified w) up.lawful) kept₂ within₁ stale₂
          (change-holds t₁ up.lawful n (h.0, h.1) up.holds Modified w)
          (λ j ne. change-others t₁ up.lawful n Modified w j ne ∙ sym (copy_here cs cs₁ c _ replaced₁ j)));
      states = stands_replaced (size_of m) _ (asking k b.asked) cs₂ _ c _ replaced₂ (kept₂.size ∙ size₁)
          (λ d ne. stands-dropped _ _ n _ _ (alone₂.there d ne) (subst (Stands (size_of m) (asking k b.asked d)) (sym (replaced₁.there d ne)) (states d ne))) tt;
      count = ap (λ i. i + 1) count;
    }

    writing-good : Asks k c (state_at cs c) (ToWrite n) → may_write k ≡ true → Good r b k (writing r c n h)
    writing-good asks credit =
        let Kept-by : Bool → Type 0 = λ x. Inv (writing r c n h).run (cond x credited (heard b k Wrote)) in
        record {
          inv = subst Kept-by (sym credit) written;
          told = (
            may,
            record {
              block = n;
              asked = asks;
              mark = mark.0;
              before = h.1;
              level = h.2;
              access = record {
                held = held₁;
                ready = ap (λ (x : CoreMeaning). x.state) replaced₂.here;
                rest = rest-of r _ c n t₁ out S.memory (inside cs m b.number S c)
                    (λ j ne. copy_here cs₂ _ c _ replaced₂ j ∙ change-others t₁ up.lawful n Modified w j ne) kept₂.others (λ j ne. up.passed j) stays₁;
                weight = level_price r.prices h.2;
                level = weight₁;
                charged = cost₁;
              };
              holds = ap (λ (x : CoreMeaning). look_of x.tier n) replaced₂.here ∙ (up.lawful []).change_in n Modified w (h.0, h.1, 1) first₁;
              tier = ap (λ (x : CoreMeaning). x.tier) replaced₂.here ∙ ap (λ i. after i (change n Modified w)) served₁;
              alone = λ d ne. copy_there cs₂ _ c _ replaced₂ n d ne ∙ (alone₂.there d ne).empty;
              stale = stale₂;
              newest = refl;
              states = λ d ne. ap (λ (x : CoreMeaning). x.state) (replaced₂.there d ne) ∙ (alone₂.there d ne).state ∙ ap (λ (x : CoreMeaning). x.state) (replaced₁.there d ne);
              others = λ d j ne nj. copy_there cs₂ _ c _ replaced₂ j d ne ∙ (alone₂.there d ne).others j nj ∙ copy_there cs cs₁ c _ replaced₁ j d ne;
              tiers = λ d ne. ap (λ (x : CoreMeaning). x.tier) (replaced₂.there d ne) ∙ given_up₂ d ne
                  ∙ ap (λ (x : CoreMeaning). given_up mark.0 n x.tier) (replaced₁.there d ne);
              memory = outdated₂;
            },
          );
          cores = replaced₂.size ∙ alone₂.size ∙ replaced₁.size;
          blocks = kept₂.size ∙ size₁;
          honest = silent;
        }

  pub access-good : (a : Access) → Asks k c (state_at cs c) a → Credits k a → block_of a < size_of m → asking k b.asked c ≡ block_of a → Good r b k (access r c a)
  access-good a asks w h q = go a asks w h q (look_of t (block_of a)) refl
    where
      go : (a : Access) → Asks k c (state_at cs c) a → Credits k a → block_of a < size_of m → asking k b.asked c ≡ block_of a
          → (o : Option Holding) → look_of t (block_of a) ≡ o → Good r b k (access_by r c a o)
      go a asks w h q None e = waiting-good a asks h q e
      go (ToRead n) asks w h q (Some x) e = reading-good n x q e asks
      go (ToWrite n) asks w h q (Some x) e = writing-good n x q e asks w
