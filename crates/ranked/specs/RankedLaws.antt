-- A ranked tier keeps the laws of a tier.
use Rattle.std.specs.Prelude.{◌≡◌, ℕ, ◌≤◌, Bool, true, false, cond, [], ◌∷◌, ◌++◌, length, Some, None, Option, ◌≢◌, nat_lt, refl}
use Rattle.std.proofs.Common.{sym, ap, subst, ◌∙◌, arith}
use Rattle.std.proofs.Math.Decide.{ℕ_discrete}
use Rattle.std.specs.Option.{option_map}
use Rattle.std.proofs.lemmas.Option.{same_Some}
use Rattle.device.specs.Laws.{device_always}
use Rattle.parts.specs.declared.mark.Mark.{Mark}
use Rattle.parts.specs.declared.line.Line.{Line}
use Rattle.parts.specs.Marks.{mark_number}
use Rattle.parts.specs.Lines.{shown_of}
use Rattle.tier.specs.Meaning.{TierCall, put, take, change, touch, clear, Holding, line, if_held, bare, TierLaws, Lawful}
use Rattle.tier.specs.Options.{never, none-some, some_of}
use Rattle.tier.specs.Holdings.{mark_low}
use Rattle.ranks.specs.Ranks.{Ranks, find, without, oldest, younger, spared, ranked_view, touched, ranked_step, ranked, apart}
use Rattle.ranks.proofs.RanksLemmas.{find-block, find-without, find-gone, apart-without, find-push, find-push-other, apart-push, find-renewed, find-renewed-other, renewed-none, apart-renewed, oldest_found, younger-gone, younger-rest, younger-none, apart-younger}

abbrev pub Sound : Ranks → Type 0
Sound ls = apart ls ≡ true

-- ---- what a look shows

abbrev look : Ranks → ℕ → Option Holding
look ls n = option_map shown_of (find ls n)

pub look_none : (ls : Ranks) (n : ℕ) → look ls n ≡ None → find ls n ≡ None
look_none ls n e = go (find ls n) refl e
  where
    go : (o : Option Line) → find ls n ≡ o → option_map shown_of o ≡ None → find ls n ≡ None
    go None p q = p
    go (Some g) p q = never (shown_of g) (sym q)

pub look-some : (ls : Ranks) (n : ℕ) (h : Holding) → look ls n ≡ Some h → (g : Line) × (find ls n ≡ Some g) × (shown_of g ≡ h)
look-some ls n h e = go (find ls n) refl e
  where
    go : (o : Option Line) → find ls n ≡ o → option_map shown_of o ≡ Some h → (g : Line) × (find ls n ≡ Some g) × (shown_of g ≡ h)
    go None p q = never h q
    go (Some g) p q = (g, p, same_Some (shown_of g) h q)

-- ---- the lines that a put spares

-- by whether there is a free way
abbrev spare : Bool → Ranks → Ranks
spare free ls = cond free ls (younger ls)

abbrev oust : Bool → Ranks → Option Line
oust free ls = cond free None (oldest ls)

spare-apart : (free : Bool) (ls : Ranks) → Sound ls → Sound (spare free ls)
spare-apart true ls a = a
spare-apart false ls a = apart-younger ls a

spare-none : (free : Bool) (ls : Ranks) (n : ℕ) → find ls n ≡ None → find (spare free ls) n ≡ None
spare-none true ls n e = e
spare-none false ls n e = younger-none ls n e

spare-rest : (free : Bool) (ls : Ranks) (b : ℕ) → (option_map (λ (g : Line). g.block) (oust free ls) ≢ Some b) → find (spare free ls) b ≡ find ls b
spare-rest true ls b h = refl
spare-rest false ls b h = younger-rest ls b (λ g e q. h (ap (option_map (λ (x : Line). x.block)) e ∙ ap Some q))

oust_found : (free : Bool) (ls : Ranks) (g : Line) → oust free ls ≡ Some g → find ls g.block ≡ Some g
oust_found true ls g e = never g e
oust_found false ls g e = oldest_found ls g e

oust-gone : (free : Bool) (ls : Ranks) (g : Line) → Sound ls → oust free ls ≡ Some g → find (spare free ls) g.block ≡ None
oust-gone true ls g a e = never g e
oust-gone false ls g a e = younger-gone ls g a e

module _ (renews : Bool) (ways : ℕ) (ls : Ranks) (ok : Sound ls) where
  abbrev free : Bool
  free = nat_lt (length ls) ways

  pub keeps : (c : TierCall) → Sound (ranked_step renews ways ls c)
  keeps (put n k s) = go (find ls n) refl
    where
      go : (o : Option Line) → find ls n ≡ o → Sound (if_held o ls (spared ways ls ++ line n k s ∷ []))
      go None e = apart-push (spared ways ls) (line n k s) (spare-apart free ls ok) (spare-none free ls n e)
      go (Some g) e = ok
  keeps (take n) = apart-without ls n ok
  keeps (change n k s) = apart-renewed ls (line n k s) ok
  keeps (touch n) = go renews (find ls n) refl
    where
      go : (r : Bool) (o : Option Line) → find ls n ≡ o → Sound (touched r ls n o)
      go false o e = ok
      go true None e = ok
      go true (Some g) e = apart-push (without ls n) g (apart-without ls n ok) (ap (find (without ls n)) (find-block ls n g e) ∙ find-gone ls n ok)
  keeps clear = refl

  put_next : (n : ℕ) (k : Mark) (s : ℕ) → find ls n ≡ None → ranked_step renews ways ls (put n k s) ≡ spared ways ls ++ line n k s ∷ []
  put_next n k s e = ap (λ o. if_held o ls (spared ways ls ++ line n k s ∷ [])) e

  put_other : (n : ℕ) (k : Mark) (s b : ℕ) → find ls n ≡ None → (b ≢ n) → look (ranked_step renews ways ls (put n k s)) b ≡ look (spared ways ls) b
  put_other n k s b e ne = ap (λ ms. look ms b) (put_next n k s e) ∙ ap (option_map shown_of) (find-push-other (spared ways ls) (line n k s) b ne)

  touch_look : (n b : ℕ) → look (ranked_step renews ways ls (touch n)) b ≡ look ls b
  touch_look n b = go renews (find ls n) refl
    where
      go : (r : Bool) (o : Option Line) → find ls n ≡ o → look (touched r ls n o) b ≡ look ls b
      go false o e = refl
      go true None e = refl
      go true (Some g) e =
          let q = find-block ls n g e in
          elim (ℕ_discrete b n) [
            | yes h ↦ ap (option_map shown_of) (ap (find (without ls n ++ g ∷ [])) (h ∙ sym q) ∙ find-push (without ls n) g (ap (find (without ls n)) q ∙ find-gone ls n ok) ∙ sym (ap (find ls) h ∙ e))
            | no h ↦ ap (option_map shown_of) (find-push-other (without ls n) g b (λ z. h (z ∙ q)) ∙ find-without ls n b h)
          ]

  laws : TierLaws (ranked renews ways ls)
  laws = record {
    depth_low = omega arith;
    depth_high = omega arith;
    marks = λ n h e. let r = look-some ls n h e in subst (λ (x : Holding). x.0 ≤ 1) r.2 (mark_low r.0.mark);
    levels = λ n h e. let r = look-some ls n h e in let q : 1 ≡ h.2 = ap (λ (x : Holding). x.2) r.2 in (omega arith, omega arith);
    put_in = λ n k s e.
        let f = look_none ls n e in
        ap (λ ms. look ms n) (put_next n k s f) ∙ ap (option_map shown_of) (find-push (spared ways ls) (line n k s) (spare-none free ls n f));
    put_rest = λ n k s b e ne no-out. ap bare (put_other n k s b (look_none ls n e) ne ∙ ap (option_map shown_of) (spare-rest free ls b no-out));
    out_held = λ n k s g e o. ap (λ x. bare (option_map shown_of x)) (oust_found free ls g o);
    out_gone = λ n k s g e o.
        let f = look_none ls n e in
        let ne : g.block ≡ n → ⊥ = λ q. none-some (find ls n) g f (ap (find ls) (sym q) ∙ oust_found free ls g o) in
        put_other n k s g.block f ne ∙ ap (option_map shown_of) (oust-gone free ls g ok o);
    take_gone = λ n. ap (option_map shown_of) (find-gone ls n ok);
    take_rest = λ n b ne. ap (option_map shown_of) (find-without ls n b ne);
    change_in = λ n k s h e.
        let r = look-some ls n h e in
        ap (option_map shown_of) (find-renewed ls (line n k s) r.0 r.1) ∙ ap (λ (x : Holding). Some (mark_number k, s, x.2)) r.2;
    change_rest = λ n k s b ne. ap (option_map shown_of) (find-renewed-other ls (line n k s) b ne);
    touch_look = touch_look;
    clear_gone = λ n. refl;
    put_held = λ n k s b h.
        let x = some_of (look ls n) h in
        let r = look-some ls n x.0 x.1 in
        ap (λ ms. look ms b) (ap (λ o. if_held o ls (spared ways ls ++ line n k s ∷ [])) r.1);
    change_free = λ n k s e. ap (λ ms. look ms n) (renewed-none ls (line n k s) (look_none ls n e)) ∙ e;
  }

pub ranked-lawful : (renews : Bool) (ways : ℕ) (ls : Ranks) → Sound ls → Lawful (ranked renews ways ls)
ranked-lawful renews ways = device_always (λ _. 1) (ranked_view ways) (ranked_step renews ways) (λ s c. refl) TierLaws Sound (λ s c i. keeps renews ways s i c) (laws renews ways)
