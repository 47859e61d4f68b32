-- A direct tier keeps the laws of a tier.
use Rattle.std.specs.Prelude.{◌≡◌, ℕ, zero, suc, ◌%◌, ◌<◌, ◌≤◌, cond, length, get_or, Some, None, Option, ◌≢◌, slice_index_or, slice_set, refl}
use Rattle.std.proofs.Common.{sym, ap, subst, ◌∙◌, mod-lt, arith, length-set, get_or-set_same, get_or-set_other, eq-eqb, ne_eqb}
use Rattle.std.proofs.Math.Decide.{ℕ_discrete}
use Rattle.std.proofs.lemmas.List.{length-replicate}
use Rattle.std.specs.Option.{option_map}
use Rattle.std.proofs.lemmas.Option.{same_Some}
use Rattle.device.specs.Laws.{device_always}
use Rattle.parts.specs.declared.mark.Mark.{Mark}
use Rattle.parts.specs.declared.line.Line.{Line}
use Rattle.parts.specs.Lines.{shown_of}
use Rattle.parts.specs.Marks.{mark_number}
use Rattle.tier.specs.Meaning.{TierCall, put, take, change, touch, clear, Holding, line, if_held, bare, TierLaws, Lawful}
use Rattle.tier.specs.Options.{never, none-some, is_some_lem}
use Rattle.tier.specs.Holdings.{held-some, held_none, mark_low}
use Rattle.direct.specs.declared.direct.Direct.{Direct}
use Rattle.direct.specs.Lines.{Lines, slot, at, shows, direct_view, direct_step, direct, empty, Placed}
use Rattle.direct.specs.Direct.{direct_of}

-- ---- what a line shows

shows-own : (g : Line) (n : ℕ) → g.block ≡ n → shows (Some g) n ≡ Some (shown_of g)
shows-own g n e = ap (λ b. option_map shown_of (cond b (Some g) None)) (eq-eqb g.block n e)

shows-other : (g : Line) (n : ℕ) → (g.block ≢ n) → shows (Some g) n ≡ None
shows-other g n e = ap (λ b. option_map shown_of (cond b (Some g) None)) (ne_eqb g.block n e)

-- a line that shows block n holds it
pub shown-own : (o : Option Line) (n : ℕ) (h : Holding) → shows o n ≡ Some h → (g : Line) × (o ≡ Some g) × (g.block ≡ n) × (shown_of g ≡ h)
shown-own None n h e = never h e
shown-own (Some g) n h e = elim (ℕ_discrete g.block n) [
  | yes q ↦ (g, refl, q, same_Some (shown_of g) h (sym (shows-own g n q) ∙ e))
  | no q ↦ none-some (shows (Some g) n) h (shows-other g n q) e
]

shows_not : (o : Option Line) (n : ℕ) → (option_map (λ (g : Line). g.block) o ≢ Some n) → shows o n ≡ None
shows_not None n h = refl
shows_not (Some g) n h = shows-other g n (λ e. h (ap Some e))

pub empty-at : (lines i : ℕ) → slice_index_or (empty lines) i None ≡ None
empty-at zero i = refl
empty-at (suc n) zero = refl
empty-at (suc n) (suc i) = empty-at n i

pub empty-placed : (ls : Lines) (lines : ℕ) → ls ≡ empty lines → Placed ls
empty-placed ls lines e i g h = never g (sym (ap (λ (ms : Lines). get_or ms i None) e ∙ empty-at lines i) ∙ h)

-- ---- lines in which every block stands in its own

abbrev pub Sound : ℕ → Lines → Type 0
Sound lines ls = (1 ≤ lines) × (length ls ≡ lines) × Placed ls

module _ (lines : ℕ) (ls : Lines) (ok : Sound lines ls) where
  abbrev len : ℕ
  len = length ls

  some-line : 1 ≤ len
  some-line = let e = ok.1 in let h = ok.0 in omega arith

  within : (n : ℕ) → slot ls n < length ls
  within n = mod-lt n some-line

  abbrev look : Lines → ℕ → Option Holding
  look ms n = shows (at ms n) n

  -- after a write to the line of block n
  at_same : (n b : ℕ) (x : Option Line) → slot ls b ≡ slot ls n → look (slice_set ls (slot ls n) x) b ≡ shows x b
  at_same n b x e =
      ap (λ i. shows (slice_index_or (slice_set ls (slot ls n) x) (b % i) None) b) (length-set ls (slot ls n) x)
      ∙ ap (λ i. shows (slice_index_or (slice_set ls (slot ls n) x) i None) b) e
      ∙ ap (λ y. shows y b) (get_or-set_same ls (slot ls n) x None (within n))

  at_other : (n b : ℕ) (x : Option Line) → (slot ls b ≢ slot ls n) → look (slice_set ls (slot ls n) x) b ≡ look ls b
  at_other n b x e =
      ap (λ i. shows (slice_index_or (slice_set ls (slot ls n) x) (b % i) None) b) (length-set ls (slot ls n) x)
      ∙ ap (λ y. shows y b) (get_or-set_other ls (slot ls n) (slot ls b) x None e)

  placed-set : (n : ℕ) (x : Option Line) → ((g : Line) → x ≡ Some g → g.block ≡ n) → Placed (slice_set ls (slot ls n) x)
  placed-set n x h i g e =
      ap (λ m. g.block % m) (length-set ls (slot ls n) x)
      ∙ elim (ℕ_discrete i (slot ls n)) [
        | yes q ↦ ap (λ m. m % len) (h g (sym (get_or-set_same ls (slot ls n) x None (within n)) ∙ ap (λ j. get_or (slice_set ls (slot ls n) x) j None) (sym q) ∙ e)) ∙ sym q
        | no q ↦ ok.2 i g (sym (get_or-set_other ls (slot ls n) i x None q) ∙ e)
      ]

  sound-set : (n : ℕ) (x : Option Line) → ((g : Line) → x ≡ Some g → g.block ≡ n) → Sound lines (slice_set ls (slot ls n) x)
  sound-set n x h = (ok.0, length-set ls (slot ls n) x ∙ ok.1, placed-set n x h)

  sound-line : (n : ℕ) (k : Mark) (s : ℕ) → Sound lines (slice_set ls (slot ls n) (Some (line n k s)))
  sound-line n k s = sound-set n (Some (line n k s)) (λ g e. ap (λ (h : Line). h.block) (sym (same_Some (line n k s) g e)))

  sound-held : (o : Option Holding) (xs ys : Lines) → Sound lines xs → Sound lines ys → Sound lines (if_held o xs ys)
  sound-held None xs ys p q = q
  sound-held (Some h) xs ys p q = p

  pub keeps : (c : TierCall) → Sound lines (direct_step ls c)
  keeps (put n k s) = sound-held (look ls n) _ _ ok (sound-line n k s)
  keeps (take n) = sound-held (look ls n) _ _ (sound-set n None (λ g e. never g e)) ok
  keeps (change n k s) = sound-held (look ls n) _ _ (sound-line n k s) ok
  keeps (touch n) = ok
  keeps clear = (ok.0, length-replicate len None ∙ ok.1, empty-placed (empty len) len refl)

  -- the block in the line of block n
  pub there : (n : ℕ) (g : Line) → at ls n ≡ Some g → (slot ls g.block ≡ slot ls n) × (look ls g.block ≡ Some (shown_of g))
  there n g e =
      let q = ok.2 (slot ls n) g e in
      (q, ap (λ i. shows (slice_index_or ls i None) g.block) q ∙ ap (λ o. shows o g.block) e ∙ shows-own g g.block refl)

  put_next : (n : ℕ) (k : Mark) (s : ℕ) → look ls n ≡ None → direct_step ls (put n k s) ≡ slice_set ls (slot ls n) (Some (line n k s))
  put_next n k s e = held_none (look ls n) _ _ e

  put-beside : (n : ℕ) (k : Mark) (s b : ℕ) → (b ≢ n) → (option_map (λ (g : Line). g.block) (at ls n) ≢ Some b)
      → look (slice_set ls (slot ls n) (Some (line n k s))) b ≡ look ls b
  put-beside n k s b ne no-out = elim (ℕ_discrete (slot ls b) (slot ls n)) [
    | yes q ↦ at_same n b (Some (line n k s)) q ∙ shows-other (line n k s) b (λ z. ne (sym z))
        ∙ sym (ap (λ i. shows (slice_index_or ls i None) b) q ∙ shows_not (at ls n) b no-out)
    | no q ↦ at_other n b (Some (line n k s)) q
  ]

  -- block n is held: a write to its line leaves every other block
  beside : (o : Option Holding) (n b : ℕ) (x : Option Line) → (b ≢ n) → shows x b ≡ None → look ls n ≡ o → look (if_held o (slice_set ls (slot ls n) x) ls) b ≡ look ls b
  beside None n b x ne h e = refl
  beside (Some y) n b x ne h e =
      let r = shown-own (at ls n) n y e in
      elim (ℕ_discrete (slot ls b) (slot ls n)) [
        | yes q ↦ at_same n b x q ∙ h ∙ sym (ap (λ i. shows (slice_index_or ls i None) b) q ∙ ap (λ o. shows o b) r.1 ∙ shows-other r.0 b (λ z. ne (sym z ∙ r.2)))
        | no q ↦ at_other n b x q
      ]

  take-look : (n : ℕ) → look (direct_step ls (take n)) n ≡ None
  take-look n = go (look ls n) refl
    where
      go : (o : Option Holding) → look ls n ≡ o → look (if_held o (slice_set ls (slot ls n) None) ls) n ≡ None
      go None e = e
      go (Some h) e = at_same n n None refl

  laws : TierLaws (direct ls)
  laws = record {
    depth_low = omega arith;
    depth_high = omega arith;
    marks = λ n h e. let r = shown-own (at ls n) n h e in subst (λ (x : Holding). x.0 ≤ 1) r.3 (mark_low r.0.mark);
    levels = λ n h e. let r = shown-own (at ls n) n h e in let q : 1 ≡ h.2 = ap (λ (x : Holding). x.2) r.3 in (omega arith, omega arith);
    put_in = λ n k s e. ap (λ ms. look ms n) (put_next n k s e) ∙ at_same n n (Some (line n k s)) refl ∙ shows-own (line n k s) n refl;
    put_rest = λ n k s b e ne no-out. ap bare (ap (λ ms. look ms b) (put_next n k s e) ∙ put-beside n k s b ne no-out);
    out_held = λ n k s g e o. ap bare (there n g o).1;
    out_gone = λ n k s g e o.
        let r = there n g o in
        let ne : n ≡ g.block → ⊥ = λ q. none-some (look ls n) (shown_of g) e (ap (look ls) q ∙ r.1) in
        ap (λ ms. look ms g.block) (put_next n k s e) ∙ at_same n g.block (Some (line n k s)) r.0 ∙ shows-other (line n k s) g.block ne;
    take_gone = take-look;
    take_rest = λ n b ne. beside (look ls n) n b None ne refl refl;
    change_in = λ n k s h e.
        let r = shown-own (at ls n) n h e in
        ap (λ ms. look ms n) (held-some (look ls n) _ _ (is_some_lem _ h e)) ∙ at_same n n (Some (line n k s)) refl ∙ shows-own (line n k s) n refl
        ∙ ap (λ (x : Holding). Some (mark_number k, s, x.2)) r.3;
    change_rest = λ n k s b ne. beside (look ls n) n b (Some (line n k s)) ne (shows-other (line n k s) b (λ q. ne (sym q))) refl;
    touch_look = λ n b. refl;
    clear_gone = λ n. ap (λ o. shows o n) (empty-at len (n % length (empty len)));
    put_held = λ n k s b h. ap (λ ms. look ms b) (held-some (look ls n) _ _ h);
    change_free = λ n k s e. ap (λ ms. look ms n) (held_none (look ls n) _ _ e) ∙ e;
  }

pub direct-lawful : (lines : ℕ) (ls : Lines) → Sound lines ls → Lawful (direct ls)
direct-lawful lines = device_always (λ _. 1) direct_view direct_step (λ s c. refl) TierLaws (Sound lines) (λ s c i. keeps lines s i c) (laws lines)

-- of the tier that the code has
pub direct_of-lawful : (d : Direct) → Lawful (direct_of d)
direct_of-lawful d = direct-lawful (length d.lines.items) d.lines.items (omega (arith, d.some, d.lines.ok.0), refl, d.placed)
