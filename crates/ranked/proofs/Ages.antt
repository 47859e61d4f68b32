-- Lines by age are lines by their last use.
use Rattle.std.proofs.Common.{◌≡◌, ℕ, suc, ◌%◌, ◌<◌, ◌≤◌, Bool, true, false, cond, ◌&&◌, eqb, ◌==◌, ltb, List, [], ◌∷◌, ◌++◌, length, is_some, Some, None, Option, sym, refl, ap, ◌∙◌, subst, mod-lt, arith, eq-eqb, ne_eqb}
use native.Mathlib.Decide.{ℕ_discrete}
use Rattle.std.proofs.lemmas.Bool.Decides.{nat_tests}
use Rattle.std.specs.Option.{option_map}
use Rattle.std.proofs.lemmas.Option.{same_Some}
use Rattle.device.specs.Device.{reach, Always}
use Rattle.device.specs.Laws.{device_always}
use Rattle.parts.specs.declared.mark.Mark.{Mark}
use Rattle.parts.specs.declared.line.Line.{Line}
use Rattle.parts.specs.Lines.{shown_of}
use Rattle.tier.specs.Meaning.{TierMeaning, TierCall, put, take, change, touch, clear, Holding, line, if_held, look_of, out_of}
use Rattle.tier.specs.OneLevel.{OneLevel}
use Rattle.tier.specs.Options.{never}
use Rattle.ranks.specs.Ranks.{Ranks, find, without, renewed, oldest, younger, ousted, spared, touched, ranked_view, ranked_step, ranked}
use Rattle.ranked.specs.Ages.{uses, last_use, LeavesWhenFull, OldestLeaves}
use Rattle.ranks.proofs.RanksLemmas.{find-block, find-gone, younger-none}
use Rattle.ranked.specs.RankedLaws.{Sound, keeps, look-some}
use Rattle.ranked.proofs.Full.{full_set}

-- the last uses rise along the lines, from low on, and lie before t
abbrev pub Rises : (ℕ → ℕ) → ℕ → Ranks → ℕ → Type 0
Rises f low [] t = low ≤ t
Rises f low (g ∷ gs) t = (low ≤ f g.block) × Rises f (suc (f g.block)) gs t

rises-low : (f : ℕ → ℕ) (low low' : ℕ) (ls : Ranks) (t : ℕ) → low' ≤ low → Rises f low ls t → Rises f low' ls t
rises-low f low low' [] t le h = omega arith
rises-low f low low' (g ∷ gs) t le h = (let p = h.0 in omega arith, h.1)

pub rises-later : (f : ℕ → ℕ) (low : ℕ) (ls : Ranks) (t t' : ℕ) → t ≤ t' → Rises f low ls t → Rises f low ls t'
rises-later f low [] t t' le h = omega arith
rises-later f low (g ∷ gs) t t' le h = (h.0, rises-later f _ gs t t' le h.1)

rises_found : (f : ℕ → ℕ) (low : ℕ) (ls : Ranks) (t b : ℕ) → Rises f low ls t → is_some (find ls b) ≡ true → low ≤ f b
rises_found f low [] t b h e = let z : ◌≡◌ {A = ℕ} 0 1 = cc in absurd (omega arith)
rises_found f low (g ∷ gs) t b h e = elim (ℕ_discrete g.block b) [
  | yes q ↦ subst (λ (i : ℕ). low ≤ f i) q h.0
  | no q ↦ (let p = rises_found f (suc (f g.block)) gs t b h.1 (sym (ap (λ x. is_some (cond x (Some g) (find gs b))) (ne_eqb g.block b q)) ∙ e) in let r = h.0 in omega arith)
]

rises-without : (f : ℕ → ℕ) (low : ℕ) (ls : Ranks) (t n : ℕ) → Rises f low ls t → Rises f low (without ls n) t
rises-without f low [] t n h = h
rises-without f low (g ∷ gs) t n h = go (rises-without f _ gs t n h.1) (eqb g.block n)
  where
    go : Rises f (suc (f g.block)) (without gs n) t → (b : Bool) → Rises f low (cond b gs (g ∷ without gs n)) t
    go rest true = rises-low f _ low gs t (let p = h.0 in omega arith) h.1
    go rest false = (h.0, rest)

rises-renewed : (f : ℕ → ℕ) (low : ℕ) (ls : Ranks) (t : ℕ) (x : Line) → Rises f low ls t → Rises f low (renewed ls x) t
rises-renewed f low [] t x h = h
rises-renewed f low (g ∷ gs) t x h = go (rises-renewed f _ gs t x h.1) (eqb g.block x.block) refl
  where
    go : Rises f (suc (f g.block)) (renewed gs x) t → (b : Bool) → eqb g.block x.block ≡ b → Rises f low (cond b (x ∷ gs) (g ∷ renewed gs x)) t
    go rest true e =
        let q : g.block ≡ x.block = grind (arith, nat_tests) in
        subst (λ (i : ℕ). (low ≤ f i) × Rises f (suc (f i)) gs t) q h
    go rest false e = (h.0, rest)

rises-younger : (f : ℕ → ℕ) (ls : Ranks) (t : ℕ) → Rises f 0 ls t → Rises f 0 (younger ls) t
rises-younger f [] t h = h
rises-younger f (g ∷ gs) t h = rises-low f _ 0 gs t (omega arith) h.1

rises-spared : (f : ℕ → ℕ) (free : Bool) (ls : Ranks) (t : ℕ) → Rises f 0 ls t → Rises f 0 (cond free ls (younger ls)) t
rises-spared f true ls t h = h
rises-spared f false ls t h = rises-younger f ls t h

pub spared-none : (ways : ℕ) (ls : Ranks) (n : ℕ) → find ls n ≡ None → find (spared ways ls) n ≡ None
spared-none ways ls n e = go (ltb (length ls) ways)
  where
    go : (free : Bool) → find (cond free ls (younger ls)) n ≡ None
    go true = e
    go false = younger-none ls n e

-- a use of a block that is not among the lines
pub rises-other : (f f' : ℕ → ℕ) (low : ℕ) (ls : Ranks) (t n : ℕ) → find ls n ≡ None → ((b : ℕ) → (b ≡ n → ⊥) → f' b ≡ f b) → Rises f low ls t → Rises f' low ls t
rises-other f f' low [] t n e same h = h
rises-other f f' low (g ∷ gs) t n e same h =
    let ne : g.block ≡ n → ⊥ = λ q. never g (sym e ∙ ap (λ b. cond b (Some g) (find gs n)) (eq-eqb g.block n q)) in
    let rest : find gs n ≡ None = sym (ap (λ b. cond b (Some g) (find gs n)) (ne_eqb g.block n ne)) ∙ e in
    let q = same g.block ne in
    (subst (λ (i : ℕ). low ≤ i) (sym q) h.0, subst (λ (i : ℕ). Rises f' (suc i) gs t) (sym q) (rises-other f f' (suc (f g.block)) gs t n rest same h.1))

-- the block that is used stands last
rises-push : (f : ℕ → ℕ) (low : ℕ) (ls : Ranks) (t : ℕ) (x : Line) → Rises f low ls t → f x.block ≡ t → Rises f low (ls ++ x ∷ []) (suc t)
rises-push f low [] t x h e = (omega arith, omega arith)
rises-push f low (g ∷ gs) t x h e = (h.0, rises-push f _ gs t x h.1 e)

abbrev used : (ℕ → ℕ) → ℕ → ℕ → ℕ → ℕ
used f n t b = cond (eqb n b) t (f b)

used-other : (f : ℕ → ℕ) (n t b : ℕ) → (b ≡ n → ⊥) → used f n t b ≡ f b
used-other f n t b ne = ap (λ x. cond x t (f b)) (ne_eqb n b (λ q. ne (sym q)))

used_now : (f : ℕ → ℕ) (n t b : ℕ) → b ≡ n → used f n t b ≡ t
used_now f n t b e = ap (λ x. cond x t (f b)) (eq-eqb n b (sym e))

rises_use : (f : ℕ → ℕ) (ls : Ranks) (t n : ℕ) (x : Line) → x.block ≡ n → find ls n ≡ None → Rises f 0 ls t → Rises (used f n t) 0 (ls ++ x ∷ []) (suc t)
rises_use f ls t n x e gone h = rises-push (used f n t) 0 ls t x (rises-other f (used f n t) 0 ls t n gone (used-other f n t) h) (used_now f n t x.block e)

-- ---- one call

-- what a call of the tier m, of which these lines show block n, does to the times of last use
abbrev told : Bool → TierMeaning → TierCall → ℕ → (ℕ → ℕ) → ℕ → ℕ
told renews m c t f b = cond (uses renews m c b) t (f b)

pub rises-step : (renews : Bool) (ways : ℕ) (ls : Ranks) (f : ℕ → ℕ) (t : ℕ) → Sound ls → Rises f 0 ls t → (c : TierCall)
    → Rises (told renews (ranked renews ways ls) c t f) 0 (ranked_step renews ways ls c) (suc t)
rises-step renews ways ls f t ok h (put n k s) = go (find ls n) refl
  where
    go : (o : Option Line) → find ls n ≡ o → Rises (λ b. cond (if_held (option_map shown_of o) false (eqb n b)) t (f b)) 0 (if_held o ls (spared ways ls ++ line n k s ∷ [])) (suc t)
    go None e = rises_use f (spared ways ls) t n (line n k s) refl (spared-none ways ls n e) (rises-spared f (ltb (length ls) ways) ls t h)
    go (Some g) e = rises-later f 0 ls t (suc t) (omega arith) h
rises-step renews ways ls f t ok h (take n) = rises-without f 0 ls (suc t) n (rises-later f 0 ls t (suc t) (omega arith) h)
rises-step renews ways ls f t ok h (change n k s) = rises-renewed f 0 ls (suc t) (line n k s) (rises-later f 0 ls t (suc t) (omega arith) h)
rises-step renews ways ls f t ok h (touch n) = go renews (find ls n) refl
  where
    go : (r : Bool) (o : Option Line) → find ls n ≡ o → Rises (λ b. cond (cond r (eqb n b) false) t (f b)) 0 (touched r ls n o) (suc t)
    go false o e = rises-later f 0 ls t (suc t) (omega arith) h
    go true None e = rises-later (used f n t) 0 ls t (suc t) (omega arith) (rises-other f (used f n t) 0 ls t n e (used-other f n t) h)
    go true (Some g) e = rises_use f (without ls n) t n g (find-block ls n g e) (find-gone ls n ok) (rises-without f 0 ls t n h)
rises-step renews ways ls f t ok h clear = omega arith

-- what leaves was used before the others
pub oldest-first : (f : ℕ → ℕ) (ls : Ranks) (t : ℕ) (g : Line) (b : ℕ) → Rises f 0 ls t → oldest ls ≡ Some g → is_some (find ls b) ≡ true → (b ≡ g.block → ⊥) → f g.block < f b
oldest-first f [] t g b h o e ne = never g o
oldest-first f (x ∷ xs) t g b h o e ne =
    let q : x ≡ g = same_Some x g o in
    let nb : x.block ≡ b → ⊥ = λ z. ne (sym z ∙ ap (λ (y : Line). y.block) q) in
    let p = rises_found f (suc (f x.block)) xs t b h.1 (sym (ap (λ y. is_some (cond y (Some x) (find xs b))) (ne_eqb x.block b nb)) ∙ e) in
    subst (λ (y : Line). f y.block < f b) q (omega arith)

pub ousted-oldest : (ways : ℕ) (ls : Ranks) (g : Line) → ousted ways ls ≡ Some g → oldest ls ≡ Some g
ousted-oldest ways ls g = go (ltb (length ls) ways)
  where
    go : (free : Bool) → cond free None (oldest ls) ≡ Some g → oldest ls ≡ Some g
    go true e = never g e
    go false e = e

pub found_held : (ls : Ranks) (b : ℕ) → is_some (option_map shown_of (find ls b)) ≡ true → is_some (find ls b) ≡ true
found_held ls b = go (find ls b)
  where
    go : (o : Option Line) → is_some (option_map shown_of o) ≡ true → is_some o ≡ true
    go None e = e
    go (Some g) e = refl

-- ---- a tier of one set

one_set : (a b : ℕ) → a % 1 ≡ b % 1
one_set a b = let p : a % 1 < 1 = mod-lt a (omega arith) in let q : b % 1 < 1 = mod-lt b (omega arith) in omega arith

one_held : (ls : Ranks) (n b : ℕ) → is_some (find ls b) ≡ (is_some (option_map shown_of (find ls b)) && b % 1 == n % 1)
one_held ls n b = go (find ls b)
  where
    go : (o : Option Line) → is_some o ≡ (is_some (option_map shown_of o) && b % 1 == n % 1)
    go None = refl
    go (Some g) = sym (eq-eqb (b % 1) (n % 1) (one_set b n))

module _ (renews : Bool) (ways : ℕ) where
  last_first : (cs : List TierCall) (ls : Ranks) (f : ℕ → ℕ) (t : ℕ) → Sound ls → Rises f 0 ls t → (n : ℕ) (k : Mark) (s : ℕ) (g : Line)
      → out_of (reach (ranked renews ways ls) cs) n k s ≡ Some g → (b : ℕ) → is_some (look_of (reach (ranked renews ways ls) cs) b) ≡ true → (b ≡ g.block → ⊥)
      → last_use renews (ranked renews ways ls) cs t f g.block < last_use renews (ranked renews ways ls) cs t f b
  last_first [] ls f t ok h n k s g o b held ne = oldest-first f ls t g b h (ousted-oldest ways ls g o) (found_held ls b held) ne
  last_first (c ∷ cs) ls f t ok h n k s g o b held ne =
      last_first cs (ranked_step renews ways ls c) _ (suc t) (keeps renews ways ls ok c) (rises-step renews ways ls f t ok h c) n k s g o b held ne

  always : (P : TierMeaning → Type 0) → ((ls : Ranks) → Sound ls → P (ranked renews ways ls)) → Always P (ranked renews ways [])
  always P now = device_always (λ _. 1) (ranked_view ways) (ranked_step renews ways) (λ s c. refl) P Sound (λ s c i. keeps renews ways s i c) now [] refl

  pub at_one : (ls : Ranks) → OneLevel (ranked renews ways ls)
  at_one ls = record { depth = refl; level = λ n h e. ap (λ (x : Holding). x.2) (sym (look-some ls n h e).2) }

pub oldest_leaves : (renews : Bool) (ways : ℕ) → 1 ≤ ways → OldestLeaves renews 1 ways (ranked renews ways [])
oldest_leaves renews ways some = record {
  one_level = always renews ways OneLevel (λ ls ok. at_one renews ways ls);
  when_full = λ cs n e. always renews ways (λ m. LeavesWhenFull 1 ways m n) (λ ls ok. full_set 1 ways (ranked renews ways ls) n ls some ok (one_held ls n) (λ k s. refl)) cs;
  of_set = λ cs n k s g e o. one_set g.block n;
  longest = λ cs n k s g e o b held same ne. last_first renews ways cs [] (λ _. 0) 1 refl (omega arith) n k s g o b held ne;
}
