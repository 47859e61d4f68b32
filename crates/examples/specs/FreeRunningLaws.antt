-- A free-running tier keeps the laws of a tier.
use Rattle.std.specs.Prelude.{◌≡◌, ◌≢◌, ◌≤◌, ℕ, Bool, true, false, cond, Some, None, Option, refl}
use Rattle.std.specs.Option.{option_or, option_map}
use Rattle.std.proofs.Common.{sym, ap, subst, ◌∙◌, arith, eq-eqb, ne_eqb}
use Rattle.std.proofs.Math.Decide.{ℕ_discrete}
use Rattle.std.proofs.lemmas.Option.{same_Some}
use Rattle.device.specs.Laws.{device_always}
use Rattle.parts.specs.declared.mark.Mark.{Mark}
use Rattle.parts.specs.declared.line.Line.{Line}
use Rattle.parts.specs.Lines.{shown_of}
use Rattle.parts.specs.Marks.{mark_number}
use Rattle.tier.specs.Meaning.{TierCall, put, take, change, touch, clear, Holding, line, if_held, bare, TierLaws, Lawful}
use Rattle.tier.specs.Options.{never, none-some}
use Rattle.tier.specs.Holdings.{held-some, held_none, mark_low}
use Rattle.examples.specs.declared.free_running.FreeRunning.{FreeRunning}
use Rattle.examples.specs.FreeRunning.{TwoLines, two_lines, shows, look, takes_second, placed, instead, free_view, free_step, free_running, Apart}
use Rattle.examples.specs.FreeRunningMeaning.{free_of, lines_of}

-- ---- what a line shows

pub shows_own : (g : Line) (n : ℕ) → g.block ≡ n → shows (Some g) n ≡ Some (shown_of g)
shows_own g n e = ap (λ b. cond b (Some (shown_of g)) None) (eq-eqb g.block n e)

shows_other : (g : Line) (n : ℕ) → (g.block ≢ n) → shows (Some g) n ≡ None
shows_other g n e = ap (λ b. cond b (Some (shown_of g)) None) (ne_eqb g.block n e)

-- a line that shows block n has it
pub has : (o : Option Line) (n : ℕ) (h : Holding) → shows o n ≡ Some h → (g : Line) × (o ≡ Some g) × (g.block ≡ n) × (shown_of g ≡ h)
has None n h e = never h e
has (Some g) n h e = elim (ℕ_discrete g.block n) [
  | yes q ↦ (g, refl, q, same_Some (shown_of g) h (sym (shows_own g n q) ∙ e))
  | no q ↦ none-some (shows (Some g) n) h (shows_other g n q) e
]

has_not : (o : Option Line) (n : ℕ) → (option_map (λ (g : Line). g.block) o ≢ Some n) → shows o n ≡ None
has_not None n h = refl
has_not (Some g) n h = shows_other g n (λ e. h (ap Some e))

-- ---- a line in the place of one that has the block

instead-own : (o : Option Line) (n : ℕ) (x : Option Line) (r : Option Holding) → shows o n ≡ r → shows (instead o n x) n ≡ if_held r (shows x n) None
instead-own o n x r e = ap (λ q. shows (if_held q x o) n) e ∙ go r e
  where
    go : (r : Option Holding) → shows o n ≡ r → shows (if_held r x o) n ≡ if_held r (shows x n) None
    go None e = e
    go (Some h) e = refl

instead-rest : (o : Option Line) (n b : ℕ) (x : Option Line) → (b ≢ n) → shows x b ≡ None → shows (instead o n x) b ≡ shows o b
instead-rest o n b x ne q = go (shows o n) refl
  where
    go : (r : Option Holding) → shows o n ≡ r → shows (if_held r x o) b ≡ shows o b
    go None e = refl
    go (Some h) e = let r = has o n h e in q ∙ sym (ap (λ p. shows p b) r.1 ∙ shows_other r.0 b (λ z. ne (sym z ∙ r.2)))

-- it has the same block
pub instead-block : (o : Option Line) (n : ℕ) (x : Option Line) (g : Line) → ((y : Line) → x ≡ Some y → y.block ≡ n) → instead o n x ≡ Some g
    → (g' : Line) × (o ≡ Some g') × (g'.block ≡ g.block)
instead-block o n x g hx e = go (shows o n) refl e
  where
    go : (r : Option Holding) → shows o n ≡ r → if_held r x o ≡ Some g → (g' : Line) × (o ≡ Some g') × (g'.block ≡ g.block)
    go None q e = (g, e, refl)
    go (Some h) q e = let r = has o n h q in (r.0, r.1, r.2 ∙ sym (hx g e))

pub line-block : (n : ℕ) (k : Mark) (s : ℕ) (y : Line) → Some (line n k s) ≡ Some y → y.block ≡ n
line-block n k s y e = ap (λ (g : Line). g.block) (sym (same_Some (line n k s) y e))

-- ---- no block stands in both lines

pub instead-apart : (a b : Option Line) (n : ℕ) (x : Option Line) → ((y : Line) → x ≡ Some y → y.block ≡ n) → Apart a b → Apart (instead a n x) (instead b n x)
instead-apart a b n x hx ok g h eg eh =
    let p = instead-block a n x g hx eg in
    let q = instead-block b n x h hx eh in
    λ e. ok p.0 q.0 p.1 q.1 (p.2 ∙ e ∙ sym q.2)

first-apart : (n : ℕ) (k : Mark) (s : ℕ) (b : Option Line) → shows b n ≡ None → Apart (Some (line n k s)) b
first-apart n k s b free g h eg eh e =
    none-some (shows b n) (shown_of h) free (ap (λ o. shows o n) eh ∙ shows_own h n (sym e ∙ line-block n k s g eg))

second-apart : (n : ℕ) (k : Mark) (s : ℕ) (a : Option Line) → shows a n ≡ None → Apart a (Some (line n k s))
second-apart n k s a free g h eg eh e =
    none-some (shows a n) (shown_of g) free (ap (λ o. shows o n) eg ∙ shows_own g n (e ∙ line-block n k s h eh))

-- a block of one line is not in the other
not-second : (a b : Option Line) (g : Line) → Apart a b → a ≡ Some g → shows b g.block ≡ None
not-second a None g ok e = refl
not-second a (Some h) g ok e = shows_other h g.block (λ q. ok g h e refl (sym q))

not-first : (a b : Option Line) (g : Line) → Apart a b → b ≡ Some g → shows a g.block ≡ None
not-first None b g ok e = refl
not-first (Some h) b g ok e = shows_other h g.block (ok h g refl e)

-- ---- holdings of either line

neither : (x y : Option Holding) → option_or x y ≡ None → (x ≡ None) × (y ≡ None)
neither None y e = (refl, e)
neither (Some h) y e = never h (sym e)

either : (x y x' y' : Option Holding) → x ≡ x' → y ≡ y' → option_or x y ≡ option_or x' y'
either x y x' y' p q = ap (λ z. option_or z y) p ∙ ap (option_or x') q

shown_low : (o : Option Line) (n : ℕ) (h : Holding) → shows o n ≡ Some h → (h.0 ≤ 1) × (h.2 ≡ 1)
shown_low o n h e = let r = has o n h e in (subst (λ (x : Holding). x.0 ≤ 1) r.3 (mark_low r.0.mark), sym (ap (λ (x : Holding). x.2) r.3))

abbrev pub Sound : TwoLines → Type 0
Sound l = Apart l.first l.second

module _ (l : TwoLines) (ok : Sound l) where
  abbrev a : Option Line
  a = l.first

  abbrev b : Option Line
  b = l.second

  pub low : (n : ℕ) (h : Holding) → look l n ≡ Some h → (h.0 ≤ 1) × (h.2 ≡ 1)
  low n h e = go (shows a n) refl e
    where
      go : (x : Option Holding) → shows a n ≡ x → option_or x (shows b n) ≡ Some h → (h.0 ≤ 1) × (h.2 ≡ 1)
      go None p q = shown_low b n h q
      go (Some y) p q = shown_low a n h (p ∙ q)

  -- ---- a line is placed in the first line or the second, whichever

  module _ (n : ℕ) (k : Mark) (s : ℕ) (free : look l n ≡ None) where
    abbrev new : Option Line
    new = Some (line n k s)

    abbrev into : Bool → TwoLines
    into t = cond t (two_lines a new l.second_leaves) (two_lines new b l.second_leaves)

    abbrev out : Bool → Option Line
    out t = cond t b a

    no-a : shows a n ≡ None
    no-a = (neither (shows a n) (shows b n) free).0

    no-b : shows b n ≡ None
    no-b = (neither (shows a n) (shows b n) free).1

    new-own : shows new n ≡ Some (mark_number k, s, 1)
    new-own = shows_own (line n k s) n refl

    into-apart : (t : Bool) → Sound (into t)
    into-apart true = second-apart n k s a no-a
    into-apart false = first-apart n k s b no-b

    into-in : (t : Bool) → look (into t) n ≡ Some (mark_number k, s, 1)
    into-in true = either _ _ None _ no-a new-own
    into-in false = ap (λ x. option_or x (shows b n)) new-own

    into-rest : (t : Bool) (m : ℕ) → (m ≢ n) → (option_map (λ (g : Line). g.block) (out t) ≢ Some m) → look (into t) m ≡ look l m
    into-rest true m ne other = either _ _ (shows a m) (shows b m) refl (shows_other (line n k s) m (λ e. ne (sym e)) ∙ sym (has_not b m other))
    into-rest false m ne other = either _ _ (shows a m) (shows b m) (shows_other (line n k s) m (λ e. ne (sym e)) ∙ sym (has_not a m other)) refl

    out-held : (t : Bool) (g : Line) → out t ≡ Some g → look l g.block ≡ Some (shown_of g)
    out-held true g e = either _ _ None _ (not-first a b g ok e) (ap (λ o. shows o g.block) e ∙ shows_own g g.block refl)
    out-held false g e = ap (λ x. option_or x (shows b g.block)) (ap (λ o. shows o g.block) e ∙ shows_own g g.block refl)

    out-other : (t : Bool) (g : Line) → out t ≡ Some g → n ≢ g.block
    out-other t g e q = none-some (look l n) (shown_of g) free (ap (look l) q ∙ out-held t g e)

    out-gone : (t : Bool) (g : Line) → out t ≡ Some g → look (into t) g.block ≡ None
    out-gone true g e = either _ _ None None (not-first a b g ok e) (shows_other (line n k s) g.block (out-other true g e))
    out-gone false g e = either _ _ None None (shows_other (line n k s) g.block (out-other false g e)) (not-second a b g ok e)

  pub keeps : (c : TierCall) → Sound (free_step l c)
  keeps (put n k s) = go (look l n) refl
    where
      go : (o : Option Holding) → look l n ≡ o → Sound (if_held o l (placed l (Some (line n k s))))
      go None e = into-apart n k s e (takes_second l)
      go (Some h) e = ok
  keeps (take n) = instead-apart a b n None (λ y e. never y e) ok
  keeps (change n k s) = instead-apart a b n (Some (line n k s)) (line-block n k s) ok
  keeps (touch n) = ok
  keeps clear = λ g h e. never g e

  put_next : (n : ℕ) (k : Mark) (s m : ℕ) (e : look l n ≡ None) → look (free_step l (put n k s)) m ≡ look (into n k s e (takes_second l)) m
  put_next n k s m e = ap (λ x. look x m) (held_none (look l n) l _ e)

  laws : TierLaws (free_running l)
  laws = record {
    depth_low = omega arith;
    depth_high = omega arith;
    marks = λ n h e. (low n h e).0;
    levels = λ n h e. let q = (low n h e).1 in (omega arith, omega arith);
    put_in = λ n k s e. put_next n k s n e ∙ into-in n k s e (takes_second l);
    put_rest = λ n k s m e ne other. ap bare (put_next n k s m e ∙ into-rest n k s e (takes_second l) m ne other);
    out_held = λ n k s g e o. ap bare (out-held n k s e (takes_second l) g o);
    out_gone = λ n k s g e o. put_next n k s g.block e ∙ out-gone n k s e (takes_second l) g o;
    take_gone = λ n. either _ _ None None (gone a n) (gone b n);
    take_rest = λ n m ne. either _ _ _ _ (instead-rest a n m None ne refl) (instead-rest b n m None ne refl);
    change_in = change_in;
    change_rest = λ n k s m ne.
        let q = shows_other (line n k s) m (λ e. ne (sym e)) in
        either _ _ _ _ (instead-rest a n m (Some (line n k s)) ne q) (instead-rest b n m (Some (line n k s)) ne q);
    touch_look = λ n m. refl;
    clear_gone = λ n. refl;
    put_held = λ n k s m h. ap (λ x. look x m) (held-some (look l n) l _ h);
    change_free = λ n k s e.
        let r = neither (shows a n) (shows b n) e in
        either _ _ None None (instead-own a n (Some (line n k s)) None r.0) (instead-own b n (Some (line n k s)) None r.1);
  }
    where
      gone : (o : Option Line) (n : ℕ) → shows (instead o n None) n ≡ None
      gone o n = go (shows o n) refl
        where
          go : (x : Option Holding) → shows o n ≡ x → shows (instead o n None) n ≡ None
          go None e = instead-own o n None None e
          go (Some h) e = instead-own o n None (Some h) e

      change_in : (n : ℕ) (k : Mark) (s : ℕ) (h : Holding) → look l n ≡ Some h → look (free_step l (change n k s)) n ≡ Some (mark_number k, s, h.2)
      change_in n k s h e = go (shows a n) (shows b n) refl refl e
        where
          new-own : shows (Some (line n k s)) n ≡ Some (mark_number k, s, h.2)
          new-own = shows_own (line n k s) n refl ∙ ap (λ z. Some (mark_number k, s, z)) (sym (low n h e).1)

          go : (x y : Option Holding) → shows a n ≡ x → shows b n ≡ y → option_or x y ≡ Some h → look (free_step l (change n k s)) n ≡ Some (mark_number k, s, h.2)
          go None None p q r = never h r
          go None (Some y) p q r = either _ _ None _ (instead-own a n _ None p) (instead-own b n _ (Some y) q ∙ new-own)
          go (Some x) y p q r = ap (λ z. option_or z (shows (instead b n (Some (line n k s))) n)) (instead-own a n _ (Some x) p ∙ new-own)

pub free-lawful : (l : TwoLines) → Sound l → Lawful (free_running l)
free-lawful = device_always (λ _. 1) free_view free_step (λ s c. refl) TierLaws Sound (λ s c i. keeps s i c) laws

-- of the tier that the code has
pub free_of-lawful : (f : FreeRunning) → Lawful (free_of f)
free_of-lawful f = free-lawful (lines_of f) f.apart
