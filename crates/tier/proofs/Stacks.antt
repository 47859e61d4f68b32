-- A pile holds what its upper tier holds and, of the rest, what its lower tier holds, after any list of calls.
use Rattle.std.proofs.Common.{◌≡◌, ℕ, true, List, [], ◌∷◌, ◌++◌, is_some, Some, None, Option, sym, refl, ap, ◌∙◌, subst}
use native.Mathlib.Decide.{ℕ_discrete}
use Rattle.std.specs.Option.{option_map}
use Rattle.std.proofs.lemmas.Option.{same_Some}
use Rattle.device.specs.Device.{Device, after, reach, run}
use Rattle.device.specs.Laws.{device-after}
use Rattle.parts.specs.declared.mark.Mark.{Mark}
use Rattle.parts.specs.declared.line.Line.{Line}
use Rattle.parts.specs.Marks.{mark_number}
use Rattle.tier.specs.Meaning.{TierMeaning, TierCall, put, take, change, touch, clear, Holding, depth_of, look_of, out_of, if_held, bare, Lawful}
use Rattle.tier.specs.Pile.{Parts, parts, first, pile_look, freed, sink, sunk, unless_held, pile_view, to_shown, pile_step, pile_depth, pile}
use Rattle.tier.specs.Stacked.{Stacked, Sinks, ToOnePart, StaysStacked}
use Rattle.tier.specs.Options.{never, is_some_lem, some_of}
use Rattle.tier.specs.Holdings.{bare-none, bare-held}
use Rattle.tier.proofs.Options.{not_some}
use Rattle.tier.proofs.Holds.{SameBlocks, change-same, touch-same}
use Rattle.tier.specs.PileLaws.{block, both_none, left_out, stays, freed-lawful, at, Sound, keeps, fu, put_next, room, upper-same, lower-same, away-held}

-- no block is in both parts
abbrev Apart : Parts → Type 0
Apart p = (n : ℕ) → is_some (look_of p.upper n) ≡ true → look_of p.lower n ≡ None

module _ (p : Parts) (ok : Sound p) (apart : Apart p) where
  abbrev u : TierMeaning
  u = p.upper

  abbrev l : TierMeaning
  l = p.lower

  apart-shown : (n : ℕ) (c : TierCall) → SameBlocks u (after u c) → SameBlocks l (after l c) → Apart (to_shown p n c)
  apart-shown n c su sl = go (look_of u n)
    where
      go : (o : Option Holding) → Apart (if_held o (parts (after u c) l) (parts u (after l c)))
      go None b h = not_some (look_of (after l c) b) (sl b ∙ ap is_some (apart b h))
      go (Some x) b h = apart b (sym (su b) ∙ h)

  apart-take : (n : ℕ) → Apart (pile_step p (take n))
  apart-take n b h = elim (ℕ_discrete b n) [
    | yes q ↦ ap (look_of (after l (take n))) q ∙ (ok.1 []).take_gone n
    | no q ↦ (ok.1 []).take_rest n b q ∙ apart b (sym (ap is_some ((ok.0 []).take_rest n b q)) ∙ h)
  ]

  module _ (n : ℕ) (k : Mark) (s : ℕ) (free : pile_look p n ≡ None) where
    abbrev u' : TierMeaning
    u' = after u (put n k s)

    -- of a block that the upper holds after the put, the lower held nothing before
    was_free : (b : ℕ) → is_some (look_of u' b) ≡ true → ((b ≡ n → ⊥) → bare (look_of u' b) ≡ bare (look_of u b)) → look_of l b ≡ None
    was_free b h same = elim (ℕ_discrete b n) [
      | yes q ↦ ap (look_of l) q ∙ (both_none (depth_of u) (look_of u n) (look_of l n) free).1
      | no q ↦ apart b (sym (bare-held (look_of u b)) ∙ sym (ap is_some (same q)) ∙ bare-held (look_of u' b) ∙ h)
    ]

    module _ (g : Line) (fell : out_of u n k s ≡ Some g) where
      abbrev taken : TierMeaning
      taken = freed l g.block

      abbrev laid : TierMeaning
      laid = after taken (put g.block g.mark g.stamp)

      abbrev away : Option Line
      away = out_of taken g.block g.mark g.stamp

      not_away : (b : ℕ) → look_of l b ≡ None → (o : Option Line) → away ≡ o → option_map block away ≡ Some b → ⊥
      not_away b e None q r = never b (sym (ap (option_map block) q) ∙ r)
      not_away b e (Some x) q r =
          let same : x.block ≡ b = same_Some x.block b (sym (ap (option_map block) q) ∙ r) in
          never _ (sym (ap bare (ap (look_of l) same ∙ e)) ∙ (away-held p ok n k s free g fell x q).1)

      apart-sunk : (b : ℕ) → is_some (look_of u' b) ≡ true → look_of laid b ≡ None
      apart-sunk b h =
          let ng : b ≡ g.block → ⊥ = λ q. never _ (sym (ap (look_of u') q ∙ (ok.0 []).out_gone n k s g (fu p ok n k s free) fell) ∙ (some_of (look_of u' b) h).1) in
          let e = was_free b h (λ nn. upper-same p ok n k s free g fell b nn ng) in
          bare-none (look_of laid b) (lower-same p ok n k s free g fell b ng (not_away b e away refl) ∙ ap bare e)

    apart-put : Apart (parts u' (sink l (out_of u n k s)))
    apart-put b h = go (out_of u n k s) refl
      where
        go : (o : Option Line) → out_of u n k s ≡ o → look_of (sink l o) b ≡ None
        go None e = was_free b h (λ nn. (ok.0 []).put_rest n k s b (fu p ok n k s free) nn (λ q. never b (sym (ap (option_map block) e) ∙ q)))
        go (Some g) e = apart-sunk g e b h

  apart-step : (c : TierCall) → Apart (pile_step p c)
  apart-step (put n k s) = go (pile_look p n) refl
    where
      go : (o : Option Holding) → pile_look p n ≡ o → Apart (if_held o p (parts (after u (put n k s)) (sink l (out_of u n k s))))
      go None e = apart-put n k s e
      go (Some h) e = apart
  apart-step (take n) = apart-take n
  apart-step (change n k s) = apart-shown n (change n k s) (change-same u ok.0 n k s) (change-same l ok.1 n k s)
  apart-step (touch n) = apart-shown n (touch n) (touch-same u ok.0 n) (touch-same l ok.1 n)
  apart-step clear = λ b h. (ok.1 []).clear_gone b

-- one call after a list of calls
pub reach-more : {K C V : Type 0} (d : Device K C V) (cs : List C) (c : C) → reach d (cs ++ c ∷ []) ≡ after (reach d cs) c
reach-more d [] c = refl
reach-more d (b ∷ cs) c = reach-more (after d b) cs c

-- the parts of a pile that was made of u and l, after some calls
record Made (u l : TierMeaning) (p : Parts) : Type 0 where
  us : List TierCall
  ls : List TierCall
  upper : p.upper ≡ reach u us
  lower : p.lower ≡ reach l ls

module _ (u l : TierMeaning) where
  made-upper : (p : Parts) (c : TierCall) → Made u l p → Made u l (parts (after p.upper c) p.lower)
  made-upper p c h = record { us = h.us ++ c ∷ []; ls = h.ls; upper = ap (λ x. after x c) h.upper ∙ sym (reach-more u h.us c); lower = h.lower }

  made-lower : (p : Parts) (c : TierCall) → Made u l p → Made u l (parts p.upper (after p.lower c))
  made-lower p c h = record { us = h.us; ls = h.ls ++ c ∷ []; upper = h.upper; lower = ap (λ x. after x c) h.lower ∙ sym (reach-more l h.ls c) }

  made_both : (p : Parts) (c : TierCall) → Made u l p → Made u l (parts (after p.upper c) (after p.lower c))
  made_both p c h = made-lower (parts (after p.upper c) p.lower) c (made-upper p c h)

  made-freed : (p : Parts) (n : ℕ) → Made u l p → Made u l (parts p.upper (freed p.lower n))
  made-freed p n h = go (look_of p.lower n)
    where
      go : (o : Option Holding) → Made u l (parts p.upper (if_held o (after p.lower (take n)) p.lower))
      go None = h
      go (Some x) = made-lower p (take n) h

  made-sink : (p : Parts) (o : Option Line) → Made u l p → Made u l (parts p.upper (sink p.lower o))
  made-sink p None h = h
  made-sink p (Some g) h = made-lower (parts p.upper (freed p.lower g.block)) (put g.block g.mark g.stamp) (made-freed p g.block h)

  made_held : (o : Option Holding) (q r : Parts) → Made u l q → Made u l r → Made u l (if_held o q r)
  made_held None q r i j = j
  made_held (Some x) q r i j = i

  made-shown : (p : Parts) (n : ℕ) (c : TierCall) → Made u l p → Made u l (to_shown p n c)
  made-shown p n c h = made_held (look_of p.upper n) _ _ (made-upper p c h) (made-lower p c h)

  made-step : (p : Parts) (c : TierCall) → Made u l p → Made u l (pile_step p c)
  made-step p (put n k s) h =
      made_held (pile_look p n) p _ h (made-sink (parts (after p.upper (put n k s)) p.lower) (out_of p.upper n k s) (made-upper p (put n k s) h))
  made-step p (take n) h = made_both p (take n) h
  made-step p (change n k s) h = made-shown p n (change n k s) h
  made-step p (touch n) h = made-shown p n (touch n) h
  made-step p clear h = made_both p clear h

record Good (u l : TierMeaning) (p : Parts) : Type 0 where
  sound : Sound p
  apart : Apart p
  made : Made u l p

good-run : (u l : TierMeaning) (cs : List TierCall) (p : Parts) → Good u l p → Good u l (run pile_step p cs)
good-run u l [] p h = h
good-run u l (c ∷ cs) p h =
    good-run u l cs (pile_step p c)
    (record { sound = keeps p h.sound c; apart = apart-step p h.sound h.apart c; made = made-step u l p c h.made })

-- what shows as the parts u and l do is stacked of them
stacked : (p u l : TierMeaning) → depth_of p ≡ pile_depth (parts u l) → ((n : ℕ) → look_of p n ≡ pile_look (parts u l) n) → Apart (parts u l) → Stacked p u l
stacked p u l d e apart = record {
  depth = d;
  upper = λ n h q. e n ∙ ap (λ o. first (depth_of u) o (look_of l n)) q;
  lower = λ n h q r. e n ∙ ap (λ o. first (depth_of u) o (look_of l n)) q ∙ ap (first (depth_of u) None) r;
  neither = λ n q r. e n ∙ ap (λ o. first (depth_of u) o (look_of l n)) q ∙ ap (first (depth_of u) None) r;
  apart = λ n h q. apart n (is_some_lem (look_of u n) h q);
}

-- a line that leaves the upper for a put sinks
sinking : (p : Parts) (ok : Sound p) (n : ℕ) (k : Mark) (s : ℕ) → pile_look p n ≡ None → Sinks (at p) p.upper p.lower n k s
sinking p ok n k s free = record {
  sunk = λ g fell.
      ap (λ q. pile_look q g.block) (put_next p ok n k s free)
      ∙ ap (λ o. pile_look (parts (after p.upper (put n k s)) (sink p.lower o)) g.block) fell
      ∙ ap (λ a. first (depth_of p.upper) a (look_of (sink p.lower (Some g)) g.block)) ((ok.0 []).out_gone n k s g (fu p ok n k s free) fell)
      ∙ ap (first (depth_of p.upper) None) ((freed-lawful p.lower ok.1 g.block []).put_in g.block g.mark g.stamp (room p ok n k s free g fell));
  nothing = λ e. ap (λ o. unless_held (after p.upper (put n k s)) (sunk p.lower o)) e;
  leaver = λ x. below x (out_of p.upper n k s) refl;
}
  where
    below : (x : Line) (o : Option Line) → out_of p.upper n k s ≡ o → unless_held (after p.upper (put n k s)) (sunk p.lower o) ≡ Some x
        → bare (look_of p.lower x.block) ≡ Some (mark_number x.mark, x.stamp)
    below x None e w = never x w
    below x (Some g) e w = (away-held p ok n k s free g e x (left_out (after p.upper (put n k s)) (sunk p.lower (Some g)) x w).0).1

-- a call that goes to the part which shows the block
to_one : (p u l : TierMeaning) (n : ℕ) (c : TierCall) → p ≡ pile u l → ((q : Parts) → pile_step q c ≡ to_shown q n c) → ToOnePart p u l n c
to_one p u l n c same shown = record {
  above = λ h e. next ∙ ap (λ o. at (if_held o (parts (after u c) l) (parts u (after l c)))) e;
  below = λ e. next ∙ ap (λ o. at (if_held o (parts (after u c) l) (parts u (after l c)))) e;
}
  where
    next : after p c ≡ at (to_shown (parts u l) n c)
    next = ap (λ x. after x c) same ∙ sym (device-after pile_depth pile_view pile_step stays (parts u l) c) ∙ ap at (shown (parts u l))

-- after some calls a pile is the one of its parts after them
reached : (p : Parts) (cs : List TierCall) → reach (at p) cs ≡ at (run pile_step p cs)
reached p [] = refl
reached p (c ∷ cs) = ap (λ x. reach x cs) (sym (device-after pile_depth pile_view pile_step stays p c)) ∙ reached (pile_step p c) cs

apart-stays : (u l : TierMeaning) → Lawful u → Lawful l → Apart (parts u l) → StaysStacked (pile u l) u l
apart-stays u l hu hl apart cs =
    let end = good-run u l cs (parts u l) (record { sound = (hu, hl); apart = apart; made = record { us = []; ls = []; upper = refl; lower = refl } }) in
    let q = run pile_step (parts u l) cs in
    let is : q ≡ parts (reach u end.made.us) (reach l end.made.ls) = ap (λ x. parts x q.lower) end.made.upper ∙ ap (parts (reach u end.made.us)) end.made.lower in
    let same : reach (pile u l) cs ≡ pile (reach u end.made.us) (reach l end.made.ls) = reached (parts u l) cs ∙ ap at is in
    record {
      above = end.made.us;
      below = end.made.ls;
      made = same;
      stacked = stacked _ _ _ (ap depth_of same) (λ n. ap (λ x. look_of x n) same) (subst Apart is end.apart);
      sinks = λ n k s free.
          let P : TierMeaning → Type 0 = λ x. Sinks x (reach u end.made.us) (reach l end.made.ls) n k s in
          subst P (sym same) (sinking _ (subst Sound is end.sound) n k s (sym (ap (λ x. look_of x n) same) ∙ free));
      changes = λ n k s. to_one _ (reach u end.made.us) (reach l end.made.ls) n (change n k s) same (λ q. refl);
      touches = λ n. to_one _ (reach u end.made.us) (reach l end.made.ls) n (touch n) same (λ q. refl);
    }

-- so it is with two tiers that were cleared
pub cleared_stacked : (u l p : TierMeaning) → Lawful u → Lawful l → p ≡ pile (after u clear) (after l clear) → StaysStacked p (after u clear) (after l clear)
cleared_stacked u l p hu hl e =
    let P : TierMeaning → Type 0 = λ x. StaysStacked x (after u clear) (after l clear) in
    subst P (sym e) (apart-stays (after u clear) (after l clear) (λ cs. hu (clear ∷ cs)) (λ cs. hl (clear ∷ cs)) (λ n h. (hl []).clear_gone n))
