-- A pile of two lawful tiers is lawful.
use Rattle.std.specs.Prelude.{◌≡◌, ℕ, ◌+◌, ◌≤◌, min, [], ◌∷◌, Some, None, Option, ◌≢◌, refl}
use Rattle.std.proofs.Common.{sym, ap, ◌∙◌, arith}
use Rattle.std.proofs.Math.Decide.{ℕ_discrete}
use Rattle.std.specs.Option.{option_map}
use Rattle.std.proofs.lemmas.Option.{same_Some}
use Rattle.device.specs.Device.{after, device}
use Rattle.device.specs.Laws.{device_always}
use Rattle.parts.specs.declared.mark.Mark.{Mark}
use Rattle.parts.specs.declared.line.Line.{Line}
use Rattle.parts.specs.Marks.{mark_number}
use Rattle.tier.specs.Meaning.{TierMeaning, TierCall, put, take, change, touch, clear, Holding, depth_of, look_of, out_of, if_held, bare, TierLaws, Lawful}
use Rattle.tier.specs.Pile.{Parts, parts, deeper, first, pile_look, freed, sink, sunk, unless_held, pile_out, pile_view, to_shown, pile_step, pile_depth, pile}
use Rattle.tier.specs.Options.{never, none-some}
use Rattle.tier.specs.Holdings.{held-some, held_none, bare-none}

abbrev pub block : Line → ℕ
block g = g.block

-- ---- holdings

pub both_none : (d : ℕ) (a b : Option Holding) → first d a b ≡ None → (a ≡ None) × (b ≡ None)
both_none d None None e = (refl, refl)
both_none d None (Some y) e = never (deeper d y) (sym e)
both_none d (Some x) b e = never x (sym e)

first-same : (d : ℕ) (a a' b b' : Option Holding) → a ≡ a' → b ≡ b' → first d a b ≡ first d a' b'
first-same d a a' b b' p q = ap (λ x. first d x b) p ∙ ap (first d a') q

bare-first : (d : ℕ) (a a' b b' : Option Holding) → bare a ≡ bare a' → bare b ≡ bare b' → bare (first d a b) ≡ bare (first d a' b')
bare-first d None None None None p q = refl
bare-first d None None None (Some y) p q = never (y.0, y.1) q
bare-first d None None (Some x) None p q = never (x.0, x.1) (sym q)
bare-first d None None (Some x) (Some y) p q = q
bare-first d None (Some y) b b' p q = never (y.0, y.1) p
bare-first d (Some x) None b b' p q = never (x.0, x.1) (sym p)
bare-first d (Some x) (Some y) b b' p q = p

bare-upper : (d : ℕ) (a b : Option Holding) (x : ℕ × ℕ) → bare a ≡ Some x → bare (first d a b) ≡ Some x
bare-upper d None b x e = never x e
bare-upper d (Some y) b x e = e

bare-lower : (d : ℕ) (a b : Option Holding) → a ≡ None → bare (first d a b) ≡ bare b
bare-lower d a None e = ap (λ o. bare (first d o None)) e
bare-lower d a (Some y) e = ap (λ o. bare (first d o (Some y))) e

-- a line that leaves is one that the upper does not hold
pub left_out : (u : TierMeaning) (o : Option Line) (x : Line) → unless_held u o ≡ Some x → (o ≡ Some x) × (look_of u x.block ≡ None)
left_out u None x e = never x e
left_out u (Some y) x e = go (look_of u y.block) refl e
  where
    go : (h : Option Holding) → look_of u y.block ≡ h → if_held h None (Some y) ≡ Some x → (Some y ≡ Some x) × (look_of u x.block ≡ None)
    go None p q = (q, ap (λ (z : Line). look_of u z.block) (sym (same_Some y x q)) ∙ p)
    go (Some h) p q = never x q

-- ---- no call alters the depth

depth_held : (o : Option Holding) (p q r : Parts) → pile_depth q ≡ pile_depth p → pile_depth r ≡ pile_depth p → pile_depth (if_held o q r) ≡ pile_depth p
depth_held None p q r i j = j
depth_held (Some x) p q r i j = i

depth_freed : (l : TierMeaning) (n : ℕ) → depth_of (freed l n) ≡ depth_of l
depth_freed l n = go (look_of l n)
  where
    go : (o : Option Holding) → depth_of (if_held o (after l (take n)) l) ≡ depth_of l
    go None = refl
    go (Some h) = refl

depth_sink : (l : TierMeaning) (g : Option Line) → depth_of (sink l g) ≡ depth_of l
depth_sink l None = refl
depth_sink l (Some g) = depth_freed l g.block

pub stays : (p : Parts) (c : TierCall) → pile_depth (pile_step p c) ≡ pile_depth p
stays p (put n k s) = depth_held (pile_look p n) p p _ refl (ap (λ i. min 4 (depth_of p.upper + i)) (depth_sink p.lower (out_of p.upper n k s)))
stays p (take n) = refl
stays p (change n k s) = depth_held (look_of p.upper n) p _ _ refl refl
stays p (touch n) = depth_held (look_of p.upper n) p _ _ refl refl
stays p clear = refl

-- ---- a tier that a block was taken out of

module _ (l : TierMeaning) (ok : Lawful l) (n : ℕ) where
  pub freed-lawful : Lawful (freed l n)
  freed-lawful = go (look_of l n)
    where
      go : (o : Option Holding) → Lawful (if_held o (after l (take n)) l)
      go None = ok
      go (Some h) = λ cs. ok (take n ∷ cs)

  pub freed-gone : look_of (freed l n) n ≡ None
  freed-gone = go (look_of l n) refl
    where
      go : (o : Option Holding) → look_of l n ≡ o → look_of (if_held o (after l (take n)) l) n ≡ None
      go None e = e
      go (Some h) e = (ok []).take_gone n

  pub freed-rest : (b : ℕ) → (b ≢ n) → look_of (freed l n) b ≡ look_of l b
  freed-rest b ne = go (look_of l n)
    where
      go : (o : Option Holding) → look_of (if_held o (after l (take n)) l) b ≡ look_of l b
      go None = refl
      go (Some h) = (ok []).take_rest n b ne

abbrev pub at : Parts → TierMeaning
at p = device pile_depth pile_view pile_step p

abbrev pub Sound : Parts → Type 0
Sound p = Lawful p.upper × Lawful p.lower

module _ (p : Parts) (ok : Sound p) where
  abbrev u : TierMeaning
  u = p.upper

  abbrev l : TierMeaning
  l = p.lower

  abbrev hu : TierLaws u
  hu = ok.0 []

  abbrev hl : TierLaws l
  hl = ok.1 []

  abbrev d : ℕ
  d = depth_of u

  -- ---- parts stay lawful

  sound-held : (o : Option Holding) (q r : Parts) → Sound q → Sound r → Sound (if_held o q r)
  sound-held None q r i j = j
  sound-held (Some x) q r i j = i

  lawful-sink : (g : Option Line) → Lawful (sink l g)
  lawful-sink None = ok.1
  lawful-sink (Some g) = λ cs. freed-lawful l ok.1 g.block (put g.block g.mark g.stamp ∷ cs)

  sound-shown : (n : ℕ) (c : TierCall) → Sound (to_shown p n c)
  sound-shown n c = sound-held (look_of u n) _ _ (λ cs. ok.0 (c ∷ cs), ok.1) (ok.0, λ cs. ok.1 (c ∷ cs))

  sound_both : (c : TierCall) → Sound (parts (after u c) (after l c))
  sound_both c = (λ cs. ok.0 (c ∷ cs), λ cs. ok.1 (c ∷ cs))

  pub keeps : (c : TierCall) → Sound (pile_step p c)
  keeps (put n k s) = sound-held (pile_look p n) p _ ok (λ cs. ok.0 (put n k s ∷ cs), lawful-sink (out_of u n k s))
  keeps (take n) = sound_both (take n)
  keeps (change n k s) = sound-shown n (change n k s)
  keeps (touch n) = sound-shown n (touch n)
  keeps clear = sound_both clear

  -- ---- a put of a block that neither part holds

  module _ (n : ℕ) (k : Mark) (s : ℕ) (free : pile_look p n ≡ None) where
    abbrev u' : TierMeaning
    u' = after u (put n k s)

    abbrev next : Parts
    next = parts u' (sink l (out_of u n k s))

    pub fu : look_of u n ≡ None
    fu = (both_none d (look_of u n) (look_of l n) free).0

    pub put_next : pile_step p (put n k s) ≡ next
    put_next = held_none (pile_look p n) _ _ free

    put_in : pile_look next n ≡ Some (mark_number k, s, 1)
    put_in = ap (λ o. first d o (look_of (sink l (out_of u n k s)) n)) (hu.put_in n k s fu)

    -- the upper gives out a line g, which sinks
    module _ (g : Line) (fell : out_of u n k s ≡ Some g) where
      abbrev taken : TierMeaning
      taken = freed l g.block

      abbrev laid : TierMeaning
      laid = after taken (put g.block g.mark g.stamp)

      abbrev ht : TierLaws taken
      ht = freed-lawful l ok.1 g.block []

      abbrev away : Option Line
      away = out_of taken g.block g.mark g.stamp

      pub room : look_of taken g.block ≡ None
      room = freed-gone l ok.1 g.block

      fallen_same : bare (first d (look_of u' g.block) (look_of laid g.block)) ≡ bare (pile_look p g.block)
      fallen_same =
          ap bare (first-same d _ None _ _ (hu.out_gone n k s g fu fell) (ht.put_in g.block g.mark g.stamp room))
          ∙ sym (bare-upper d (look_of u g.block) (look_of l g.block) _ (hu.out_held n k s g fu fell))

      pub upper-same : (b : ℕ) → (b ≢ n) → (b ≢ g.block) → bare (look_of u' b) ≡ bare (look_of u b)
      upper-same b nn ng = hu.put_rest n k s b fu nn (λ e. ng (sym (same_Some g.block b (sym (ap (option_map block) fell) ∙ e))))

      pub lower-same : (b : ℕ) → (b ≢ g.block) → (option_map block away ≢ Some b) → bare (look_of laid b) ≡ bare (look_of l b)
      lower-same b ng nw = ht.put_rest g.block g.mark g.stamp b room ng nw ∙ ap bare (freed-rest l ok.1 g.block b ng)

      beside : (b : ℕ) → (b ≢ n) → (b ≢ g.block) → (option_map block (unless_held u' away) ≢ Some b)
          → (o : Option Line) → away ≡ o → bare (first d (look_of u' b) (look_of laid b)) ≡ bare (pile_look p b)
      beside b nn ng nw None e = bare-first d _ _ _ _ (upper-same b nn ng) (lower-same b ng (λ q. never b (sym (ap (option_map block) e) ∙ q)))
      beside b nn ng nw (Some x) e = elim (ℕ_discrete x.block b) [
        | no q ↦ bare-first d _ _ _ _ (upper-same b nn ng) (lower-same b ng (λ r. q (same_Some x.block b (sym (ap (option_map block) e) ∙ r))))
        | yes q ↦ kept q (look_of u' b) refl
      ]
        where
          -- the block that the lower gives out stays in the pile, since the upper holds it
          kept : x.block ≡ b → (h : Option Holding) → look_of u' b ≡ h → bare (first d (look_of u' b) (look_of laid b)) ≡ bare (pile_look p b)
          kept q None z = absurd (nw (ap (λ o. option_map block (unless_held u' o)) e ∙ ap (λ o. option_map block (if_held o None (Some x))) (ap (look_of u') q ∙ z) ∙ ap Some q))
          kept q (Some h) z =
              let up : bare (look_of u b) ≡ Some (h.0, h.1) = sym (upper-same b nn ng) ∙ ap bare z in
              bare-upper d (look_of u' b) (look_of laid b) (h.0, h.1) (ap bare z) ∙ sym (bare-upper d (look_of u b) (look_of l b) (h.0, h.1) up)

      -- what the lower gives out is another block, which it held
      pub away-held : (x : Line) → away ≡ Some x → (x.block ≢ g.block) × (bare (look_of l x.block) ≡ Some (mark_number x.mark, x.stamp))
      away-held x e =
          let had = ht.out_held g.block g.mark g.stamp x room e in
          let ng : x.block ≡ g.block → ⊥ = λ q. never _ (sym (ap bare (ap (look_of taken) q ∙ room)) ∙ had) in
          (ng, ap bare (sym (freed-rest l ok.1 g.block x.block ng)) ∙ had)

      leaver_held : (x : Line) → unless_held u' away ≡ Some x → bare (pile_look p x.block) ≡ Some (mark_number x.mark, x.stamp)
      leaver_held x e =
          let r = left_out u' away x e in
          let h = away-held x r.0 in
          let nn : x.block ≡ n → ⊥ = λ q. none-some (look_of u' x.block) _ r.1 (ap (look_of u') q ∙ hu.put_in n k s fu) in
          let up = bare-none (look_of u x.block) (sym (upper-same x.block nn h.0) ∙ ap bare r.1) in
          bare-lower d (look_of u x.block) (look_of l x.block) up ∙ h.1

      leaver_gone : (x : Line) → unless_held u' away ≡ Some x → first d (look_of u' x.block) (look_of laid x.block) ≡ None
      leaver_gone x e =
          let r = left_out u' away x e in
          first-same d _ None _ None r.1 (ht.out_gone g.block g.mark g.stamp x room r.0)

    put_rest : (b : ℕ) → (b ≢ n) → (option_map block (pile_out p n k s) ≢ Some b) → bare (pile_look next b) ≡ bare (pile_look p b)
    put_rest b nn nw = go (out_of u n k s) refl nw
      where
        go : (o : Option Line) → out_of u n k s ≡ o → (option_map block (unless_held u' (sunk l o)) ≢ Some b) → bare (first d (look_of u' b) (look_of (sink l o) b)) ≡ bare (pile_look p b)
        go None e w = bare-first d _ _ (look_of l b) (look_of l b) (hu.put_rest n k s b fu nn (λ q. never b (sym (ap (option_map block) e) ∙ q))) refl
        go (Some g) e w = elim (ℕ_discrete b g.block) [
          | yes q ↦ ap (λ i. bare (first d (look_of u' i) (look_of (laid g e) i))) q ∙ fallen_same g e ∙ ap (λ i. bare (pile_look p i)) (sym q)
          | no q ↦ beside g e b nn q w (away g e) refl
        ]

    out_held : (x : Line) → pile_out p n k s ≡ Some x → bare (pile_look p x.block) ≡ Some (mark_number x.mark, x.stamp)
    out_held x = go (out_of u n k s) refl
      where
        go : (o : Option Line) → out_of u n k s ≡ o → unless_held u' (sunk l o) ≡ Some x → bare (pile_look p x.block) ≡ Some (mark_number x.mark, x.stamp)
        go None e w = never x w
        go (Some g) e w = leaver_held g e x w

    pub out_gone : (x : Line) → pile_out p n k s ≡ Some x → pile_look next x.block ≡ None
    out_gone x = go (out_of u n k s) refl
      where
        go : (o : Option Line) → out_of u n k s ≡ o → unless_held u' (sunk l o) ≡ Some x → first d (look_of u' x.block) (look_of (sink l o) x.block) ≡ None
        go None e w = never x w
        go (Some g) e w = leaver_gone g e x w

  -- ---- the other calls

  shown : (n : ℕ) (h : Holding) → pile_look p n ≡ Some h → (h.0 ≤ 1) × (1 ≤ h.2) × (h.2 ≤ 4)
  shown n h = go (look_of u n) (look_of l n) refl refl
    where
      go : (a b : Option Holding) → look_of u n ≡ a → look_of l n ≡ b → first d a b ≡ Some h → (h.0 ≤ 1) × (1 ≤ h.2) × (h.2 ≤ 4)
      go None None p q r = never h r
      go None (Some y) p q r =
          let mark = hl.marks n y q in
          let low = hl.levels n y q in
          let e : deeper d y ≡ h = same_Some (deeper d y) h r in
          let e₀ : y.0 ≡ h.0 = ap (λ (z : Holding). z.0) e in
          let e₂ : min 4 (d + y.2) ≡ h.2 = ap (λ (z : Holding). z.2) e in
          (omega arith, omega arith, omega arith)
      go (Some y) b p q r = let lv = hu.levels n h (p ∙ r) in (hu.marks n h (p ∙ r), lv.0, lv.1)

  change_in : (n : ℕ) (k : Mark) (s : ℕ) (h : Holding) → pile_look p n ≡ Some h → pile_look (to_shown p n (change n k s)) n ≡ Some (mark_number k, s, h.2)
  change_in n k s h = go (look_of u n) (look_of l n) refl refl
    where
      go : (a b : Option Holding) → look_of u n ≡ a → look_of l n ≡ b → first d a b ≡ Some h
          → pile_look (if_held a (parts (after u (change n k s)) l) (parts u (after l (change n k s)))) n ≡ Some (mark_number k, s, h.2)
      go None None pa pb r = never h r
      go None (Some y) pa pb r =
          first-same d (look_of u n) None _ _ pa (hl.change_in n k s y pb)
          ∙ ap (λ (z : Holding). Some (mark_number k, s, z.2)) (same_Some (deeper d y) h r)
      go (Some y) b pa pb r =
          first-same d _ _ (look_of l n) (look_of l n) (hu.change_in n k s y pa) refl
          ∙ ap (λ (z : Holding). Some (mark_number k, s, z.2)) (same_Some y h r)

  rest_of : (o : Option Holding) (c : TierCall) (b : ℕ) → look_of (after u c) b ≡ look_of u b → look_of (after l c) b ≡ look_of l b
      → pile_look (if_held o (parts (after u c) l) (parts u (after l c))) b ≡ pile_look p b
  rest_of None c b eu el = ap (first d (look_of u b)) el
  rest_of (Some x) c b eu el = ap (λ a. first d a (look_of l b)) eu

  laws : TierLaws (at p)
  laws =
      let lowu = hu.depth_low in
      let lowl = hl.depth_low in
      record {
        depth_low = omega arith;
        depth_high = omega arith;
        marks = λ n h e. (shown n h e).0;
        levels = λ n h e. ((shown n h e).1, (shown n h e).2);
        put_in = λ n k s e. ap (λ q. pile_look q n) (put_next n k s e) ∙ put_in n k s e;
        put_rest = λ n k s b e nn nw. ap (λ q. bare (pile_look q b)) (put_next n k s e) ∙ put_rest n k s e b nn nw;
        out_held = λ n k s g e o. out_held n k s e g o;
        out_gone = λ n k s g e o. ap (λ q. pile_look q g.block) (put_next n k s e) ∙ out_gone n k s e g o;
        take_gone = λ n. first-same d _ None _ None (hu.take_gone n) (hl.take_gone n);
        take_rest = λ n b ne. first-same d _ _ _ _ (hu.take_rest n b ne) (hl.take_rest n b ne);
        change_in = change_in;
        change_rest = λ n k s b ne. rest_of (look_of u n) (change n k s) b (hu.change_rest n k s b ne) (hl.change_rest n k s b ne);
        touch_look = λ n b. rest_of (look_of u n) (touch n) b (hu.touch_look n b) (hl.touch_look n b);
        clear_gone = λ n. first-same d _ None _ None (hu.clear_gone n) (hl.clear_gone n);
        put_held = λ n k s b h. ap (λ q. pile_look q b) (held-some (pile_look p n) _ _ h);
        change_free = λ n k s e.
            let r = both_none d (look_of u n) (look_of l n) e in
            ap (λ q. pile_look q n) (held_none (look_of u n) _ _ r.0) ∙ first-same d _ None _ None r.0 (hl.change_free n k s r.1);
      }

pub pile-lawful : (u l : TierMeaning) → Lawful u → Lawful l → Lawful (pile u l)
pile-lawful u l hu hl = device_always pile_depth pile_view pile_step stays TierLaws Sound (λ p c i. keeps p i c) laws (parts u l) (hu, hl)
