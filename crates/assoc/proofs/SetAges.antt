-- In each set the block that was put or touched longest ago leaves.
use Rattle.std.proofs.Common.{◌≡◌, ℕ, suc, ◌%◌, ◌<◌, ◌≤◌, Bool, true, false, cond, ◌&&◌, eqb, ◌==◌, ltb, List, [], ◌∷◌, length, is_some, Some, None, Option, sym, refl, ap, ◌∙◌, subst, arith, ltb-false, ltb-true, ne_eqb, eqb-true}
use Rattle.std.proofs.lemmas.Bool.{eqb-false}
use Rattle.std.specs.Option.{option_map}
use native.Mathlib.Decide.{ℕ_discrete}
use lib.ListN.{length-replicate, get_or-replicate}
use Rattle.device.specs.Device.{after, reach}
use Rattle.parts.specs.declared.mark.Mark.{Mark}
use Rattle.parts.specs.declared.line.Line.{Line}
use Rattle.parts.specs.Lines.{shown_of}
use Rattle.tier.specs.Meaning.{TierMeaning, TierCall, put, take, change, touch, clear, Holding, if_held, look_of, out_of, Lawful}
use Rattle.tier.specs.OneLevel.{OneLevel}
use Rattle.ranks.specs.Ranks.{Ranks, find, ranked_step, ranked}
use Rattle.ranked.specs.Ages.{uses, last_use, LeavesWhenFull, OldestLeaves}
use Rattle.ranked.specs.RankedLaws.{Sound, keeps as ranked-keeps, ranked-lawful, look_none}
use Rattle.ranked.proofs.Full.{full_set}
use Rattle.ranked.proofs.Ages.{Rises, rises-later, rises-other, rises-step, oldest-first, ousted-oldest, found_held, at_one}
use Rattle.tier.specs.Options.{never, some_of}
use Rattle.tier.proofs.Options.{not_some}
use Rattle.assoc.specs.Sets.{Sets, lru, nth, called, index, sets_step, set_associative, empty, Placed}
use Rattle.assoc.specs.SetsLaws.{nth_past, Good, keeps, within, nth-own, nth-other, same_count, count-clear, nth-clear, out-mate}

-- the lines of a set, ranked by their last use
record Row (ways : ℕ) (m : TierMeaning) (f : ℕ → ℕ) (t : ℕ) : Type 0 where
  lines : Ranks
  is : m ≡ ranked true ways lines
  sound : Sound lines
  rises : Rises f 0 lines t

record Aged (sets ways : ℕ) (ms : Sets) (f : ℕ → ℕ) (t : ℕ) : Type 0 where
  good : Good ms
  count : length ms ≡ sets
  rows : (i : ℕ) → i < length ms → Row ways (nth ms i) f t

row_of : (ways : ℕ) (m m' : TierMeaning) (f : ℕ → ℕ) (t : ℕ) → m' ≡ m → Row ways m f t → Row ways m' f t
row_of ways m m' f t e r = record { lines = r.lines; is = e ∙ r.is; sound = r.sound; rises = r.rises }

-- the times of last use after a call
abbrev told : TierMeaning → TierCall → ℕ → (ℕ → ℕ) → ℕ → ℕ
told m c t f b = cond (uses true m c b) t (f b)

-- a call that names block n is a use of no other
abbrev Names : ℕ → TierCall → Type 0
Names n c = (m : TierMeaning) (b : ℕ) → (b ≡ n → ⊥) → uses true m c b ≡ false

put-names : (n : ℕ) (k : Mark) (s : ℕ) → Names n (put n k s)
put-names n k s m b ne = go (look_of m n)
  where
    go : (o : Option Holding) → if_held o false (eqb n b) ≡ false
    go None = ne_eqb n b (λ q. ne (sym q))
    go (Some h) = refl

touch-names : (n : ℕ) → Names n (touch n)
touch-names n m b ne = ne_eqb n b (λ q. ne (sym q))

some_shown : (o : Option Line) → is_some (option_map shown_of o) ≡ is_some o
some_shown None = refl
some_shown (Some g) = refl

and-true : (x : Bool) → (x && true) ≡ x
and-true true = refl
and-true false = refl

and-false : (x : Bool) → (x && false) ≡ false
and-false true = refl
and-false false = refl

-- in the set of block n a call is judged as in the tier
abbrev Local : ℕ → TierCall → Type 0
Local n c = (m m' : TierMeaning) → look_of m n ≡ look_of m' n → uses true m c ≡ uses true m' c

module _ (sets ways : ℕ) (ms : Sets) (f : ℕ → ℕ) (t : ℕ) (h : Aged sets ways ms f t) where
  abbrev whole : TierMeaning
  whole = set_associative ms

  -- a set that the call does not name
  row_other : (n : ℕ) (c : TierCall) → Names n c → (i : ℕ) → (i ≡ index ms n → ⊥) → Row ways (nth ms i) f t → Row ways (nth ms i) (told whole c t f) (suc t)
  row_other n c names i ne r =
      let none : look_of (nth ms i) n ≡ None = not_some (look_of (nth ms i) n) (absent (is_some (look_of (nth ms i) n)) refl) in
      let gone : find r.lines n ≡ None = look_none r.lines n (sym (ap (λ m. look_of m n) r.is) ∙ none) in
      record {
        lines = r.lines;
        is = r.is;
        sound = r.sound;
        rises = rises-later (told whole c t f) 0 r.lines t (suc t) (omega arith) (rises-other f (told whole c t f) 0 r.lines t n gone (λ b q. ap (λ x. cond x t (f b)) (names whole b q)) r.rises);
      }
    where
      absent : (b : Bool) → is_some (look_of (nth ms i) n) ≡ b → is_some (look_of (nth ms i) n) ≡ false
      absent true e = absurd (ne (sym (h.good.placed i n e)))
      absent false e = e

  -- the set that it names
  row_own : (n : ℕ) (c : TierCall) → Local n c → Row ways (after (nth ms (index ms n)) c) (told whole c t f) (suc t)
  row_own n c alike =
      let r = h.rows (index ms n) (within ms h.good n) in
      let same : uses true whole c ≡ uses true (ranked true ways r.lines) c = alike whole (ranked true ways r.lines) (ap (λ m. look_of m n) r.is) in
      record {
        lines = ranked_step true ways r.lines c;
        is = ap (λ m. after m c) r.is;
        sound = ranked-keeps true ways r.lines r.sound c;
        rises = subst (λ (u : ℕ → Bool). Rises (λ b. cond (u b) t (f b)) 0 (ranked_step true ways r.lines c) (suc t)) (sym same) (rises-step true ways r.lines f t r.sound r.rises c);
      }

  aged_call : (n : ℕ) (c : TierCall) → Names n c → Local n c → Good (called ms (index ms n) c) → Aged sets ways (called ms (index ms n) c) (told whole c t f) (suc t)
  aged_call n c names alike good = record {
    good = good;
    count = same_count ms h.good n c ∙ h.count;
    rows = λ i lt. elim (ℕ_discrete i (index ms n)) [
      | yes q ↦ row_of ways _ _ _ _ (ap (nth (called ms (index ms n) c)) q ∙ nth-own ms h.good n c) (row_own n c alike)
      | no q ↦ row_of ways _ _ _ _ (nth-other ms h.good n c i q) (row_other n c names i q (h.rows i (subst (λ (j : ℕ). i < j) (same_count ms h.good n c) lt)))
    ];
  }

  aged_clear : Aged sets ways (sets_step ms clear) (told whole clear t f) (suc t)
  aged_clear = record {
    good = keeps ms h.good clear;
    count = count-clear ms h.good ∙ h.count;
    rows = λ i lt.
        let lt' : i < length ms = subst (λ (j : ℕ). i < j) (count-clear ms h.good) lt in
        let r = h.rows i lt' in
        record { lines = []; is = nth-clear ms h.good i lt' ∙ ap (λ m. after m clear) r.is; sound = refl; rises = omega arith };
  }

  aged_step : (c : TierCall) → Aged sets ways (sets_step ms c) (told whole c t f) (suc t)
  aged_step (put n k s) = aged_call n (put n k s) (put-names n k s) (λ m m' e. ap (λ o b. if_held o false (eqb n b)) e) (keeps ms h.good (put n k s))
  aged_step (take n) = aged_call n (take n) (λ m b q. refl) (λ m m' e. refl) (keeps ms h.good (take n))
  aged_step (change n k s) = aged_call n (change n k s) (λ m b q. refl) (λ m m' e. refl) (keeps ms h.good (change n k s))
  aged_step (touch n) = aged_call n (touch n) (touch-names n) (λ m m' e. refl) (keeps ms h.good (touch n))
  aged_step clear = aged_clear

  home_of : (b n : ℕ) → b % sets ≡ n % sets → index ms b ≡ index ms n
  home_of b n e = ap (λ i. b % i) h.count ∙ e ∙ sym (ap (λ i. n % i) h.count)

  now_first : (n : ℕ) (k : Mark) (s : ℕ) (g : Line) → out_of whole n k s ≡ Some g → (b : ℕ) → is_some (look_of whole b) ≡ true → b % sets ≡ n % sets → (b ≡ g.block → ⊥) → f g.block < f b
  now_first n k s g o b held e ne =
      let r = h.rows (index ms n) (within ms h.good n) in
      let there : is_some (look_of (ranked true ways r.lines) b) ≡ true = sym (ap (λ i. is_some (look_of (nth ms i) b)) (home_of b n e) ∙ ap (λ m. is_some (look_of m b)) r.is) ∙ held in
      oldest-first f r.lines t g b r.rises (ousted-oldest ways r.lines g (sym (ap (λ m. out_of m n k s) r.is) ∙ o)) (found_held r.lines b there) ne

  -- what is found among the lines of the set of block n is what the tier holds of that set
  set_held : (n b : ℕ) → is_some (find (h.rows (index ms n) (within ms h.good n)).lines b) ≡ (is_some (look_of whole b) && b % sets == n % sets)
  set_held n b = go (b % sets == n % sets) refl
    where
      r : Row ways (nth ms (index ms n)) f t
      r = h.rows (index ms n) (within ms h.good n)

      shown : is_some (look_of (nth ms (index ms n)) b) ≡ is_some (find r.lines b)
      shown = ap (λ m. is_some (look_of m b)) r.is ∙ some_shown (find r.lines b)

      go : (e : Bool) → (b % sets == n % sets) ≡ e → is_some (find r.lines b) ≡ (is_some (look_of whole b) && e)
      go true e =
          sym shown ∙ ap (λ i. is_some (look_of (nth ms i) b)) (sym (home_of b n (eqb-true _ _ e))) ∙ sym (and-true (is_some (look_of whole b)))
      go false e = away (is_some (find r.lines b)) refl ∙ sym (and-false (is_some (look_of whole b)))
        where
          away : (x : Bool) → is_some (find r.lines b) ≡ x → is_some (find r.lines b) ≡ false
          away true q = absurd (eqb-false _ _ e (ap (λ i. b % i) (sym h.count) ∙ h.good.placed (index ms n) b (shown ∙ q) ∙ ap (λ i. n % i) h.count))
          away false q = q

  full_now : (n : ℕ) → 1 ≤ ways → LeavesWhenFull sets ways whole n
  full_now n some =
      let r = h.rows (index ms n) (within ms h.good n) in
      full_set sets ways whole n r.lines some r.sound (set_held n) (λ k s. ap (λ m. out_of m n k s) r.is)

  one_now : OneLevel whole
  one_now = record {
    depth = refl;
    level = λ n x e. let r = h.rows (index ms n) (within ms h.good n) in (at_one true ways r.lines).level n x (sym (ap (λ m. look_of m n) r.is) ∙ e);
  }

-- what holds of aged sets holds after any list of calls
aged_run : (sets ways : ℕ) (P : TierMeaning → Type 0) → ((ms : Sets) (f : ℕ → ℕ) (t : ℕ) → Aged sets ways ms f t → P (set_associative ms))
    → (cs : List TierCall) (ms : Sets) (f : ℕ → ℕ) (t : ℕ) → Aged sets ways ms f t → P (reach (set_associative ms) cs)
aged_run sets ways P now [] ms f t h = now ms f t h
aged_run sets ways P now (c ∷ cs) ms f t h = aged_run sets ways P now cs (sets_step ms c) _ (suc t) (aged_step sets ways ms f t h c)

last_first : (sets ways : ℕ) (cs : List TierCall) (ms : Sets) (f : ℕ → ℕ) (t : ℕ) → Aged sets ways ms f t → (n : ℕ) (k : Mark) (s : ℕ) (g : Line)
    → out_of (reach (set_associative ms) cs) n k s ≡ Some g → (b : ℕ) → is_some (look_of (reach (set_associative ms) cs) b) ≡ true → b % sets ≡ n % sets → (b ≡ g.block → ⊥)
    → last_use true (set_associative ms) cs t f g.block < last_use true (set_associative ms) cs t f b
last_first sets ways [] ms f t h n k s g o b held e ne = now_first sets ways ms f t h n k s g o b held e ne
last_first sets ways (c ∷ cs) ms f t h n k s g o b held e ne =
    last_first sets ways cs (sets_step ms c) _ (suc t) (aged_step sets ways ms f t h c) n k s g o b held e ne

of_set : (sets ways : ℕ) (cs : List TierCall) (ms : Sets) → Good ms → length ms ≡ sets → (n : ℕ) (k : Mark) (s : ℕ) (g : Line)
    → look_of (reach (set_associative ms) cs) n ≡ None → out_of (reach (set_associative ms) cs) n k s ≡ Some g → g.block % sets ≡ n % sets
of_set sets ways [] ms ok e n k s g free o = sym (ap (λ i. g.block % i) e) ∙ out-mate ms ok n k s g free o ∙ ap (λ i. n % i) e
of_set sets ways (c ∷ cs) ms ok e n k s g free o = of_set sets ways cs (sets_step ms c) (keeps ms ok c) (stays c ∙ e) n k s g free o
  where
    stays : (c : TierCall) → length (sets_step ms c) ≡ length ms
    stays (put n k s) = same_count ms ok n (put n k s)
    stays (take n) = same_count ms ok n (take n)
    stays (change n k s) = same_count ms ok n (change n k s)
    stays (touch n) = same_count ms ok n (touch n)
    stays clear = count-clear ms ok

-- ---- empty sets

empty-nth : (sets ways i : ℕ) → i < sets → nth (empty sets ways) i ≡ lru ways
empty-nth sets ways i lt = get_or-replicate sets i (lru ways) (lru 1) lt

empty-gone : (sets ways i b : ℕ) → look_of (nth (empty sets ways) i) b ≡ None
empty-gone sets ways i b = go (ltb i sets) refl
  where
    go : (t : Bool) → ltb i sets ≡ t → look_of (nth (empty sets ways) i) b ≡ None
    go true e = ap (λ m. look_of m b) (empty-nth sets ways i (ltb-true i sets e))
    go false e = let le = ltb-false i sets e in let len = length-replicate sets (lru ways) in ap (λ m. look_of m b) (nth_past (empty sets ways) i (omega arith))

pub empty-placed : (sets ways : ℕ) (ms : Sets) → ms ≡ empty sets ways → Placed ms
empty-placed sets ways ms e i b h = never _ (sym (ap (λ xs. look_of (nth xs i) b) e ∙ empty-gone sets ways i b) ∙ (some_of _ h).1)

pub empty-good : (sets ways : ℕ) → 1 ≤ sets → Good (empty sets ways)
empty-good sets ways some =
    let len = length-replicate sets (lru ways) in
    record {
      some = omega arith;
      lawful = λ i lt. subst (λ (m : TierMeaning). Lawful m) (sym (empty-nth sets ways i (omega arith))) (ranked-lawful true ways [] refl);
      placed = empty-placed sets ways (empty sets ways) refl;
    }

pub oldest_leaves : (sets ways : ℕ) → 1 ≤ sets → 1 ≤ ways → OldestLeaves true sets ways (set_associative (empty sets ways))
oldest_leaves sets ways some more =
    let len = length-replicate sets (lru ways) in
    let good = empty-good sets ways some in
    let start : Aged sets ways (empty sets ways) (λ _. 0) 1 = record {
      good = good;
      count = len;
      rows = λ i lt. record { lines = []; is = empty-nth sets ways i (subst (λ (j : ℕ). i < j) len lt); sound = refl; rises = omega arith };
    } in
    record {
      one_level = λ cs. aged_run sets ways OneLevel (one_now sets ways) cs (empty sets ways) (λ _. 0) 1 start;
      when_full = λ cs n free. aged_run sets ways (λ m. LeavesWhenFull sets ways m n) (λ ms f t h. full_now sets ways ms f t h n more) cs (empty sets ways) (λ _. 0) 1 start;
      of_set = λ cs n k s g free o. of_set sets ways cs (empty sets ways) good len n k s g free o;
      longest = λ cs n k s g free o b held e ne. last_first sets ways cs (empty sets ways) (λ _. 0) 1 start n k s g o b held e ne;
    }
