-- A text, cut at its first separator.
use Rattle.std.proofs.Common.{◌≡◌, ℕ, ◌≤◌, Bool, true, false, cond, not, ◌&&◌, ◌==◌, List, [], ◌∷◌, ◌++◌, length, sym, refl, ap, ◌∙◌, arith}
use Rattle.std.specs.List.{onto_first}
use Rattle.std.proofs.lemmas.Bool.Decides.{nat_tests}
use Rattle.fields.specs.Parts.{parts}
use Rattle.fields.proofs.Cuts.{some}

-- none of these bytes is the separator
abbrev pub unparted_at : ℕ → List ℕ → Bool
unparted_at sep [] = true
unparted_at sep (b ∷ bs) = not (b == sep) && unparted_at sep bs

-- the bytes bs are p, a separator and the rest
pub record Cut (sep : ℕ) (bs p : List ℕ) (ps : List (List ℕ)) : Type 0 where
  pub rest : List ℕ
  pub whole : bs ≡ p ++ sep ∷ rest
  pub first : unparted_at sep p ≡ true
  pub others : parts sep rest ≡ ps

-- a byte before the first part
before_first : (b : ℕ) (ps : List (List ℕ)) (p : List ℕ) (qs : List (List ℕ)) → 1 ≤ length ps → onto_first b ps ≡ p ∷ qs → (p' : List ℕ) × (ps ≡ p' ∷ qs) × (p ≡ b ∷ p')
before_first b [] p qs h e = absurd (omega arith)
before_first b (p' ∷ ps) p qs h e = (p', cc, cc)

module _ (sep b : ℕ) (bs : List ℕ) where
  cut_at : (t : Bool) (p q : List ℕ) (qs : List (List ℕ)) → t ≡ (b == sep) → cond t ([] ∷ parts sep bs) (onto_first b (parts sep bs)) ≡ p ∷ q ∷ qs
      → ((p' : List ℕ) → parts sep bs ≡ p' ∷ q ∷ qs → Cut sep bs p' (q ∷ qs)) → Cut sep (b ∷ bs) p (q ∷ qs)
  cut_at true p q qs is e more =
      let here : b ≡ sep = grind (arith, nat_tests) in
      let none : [] ≡ p = cc in
      record { rest = bs; whole = rw (← none, here) refl; first = rw (← none) refl; others = cc }
  cut_at false p q qs is e more =
      let f = before_first b (parts sep bs) p (q ∷ qs) (some sep bs) e in
      let m = more f.0 f.1 in
      record {
        rest = m.rest;
        whole = ap (λ x. b ∷ x) m.whole ∙ ap (λ x. x ++ sep ∷ m.rest) (sym f.2);
        first = ap (unparted_at sep) f.2 ∙ ap (λ t. not t && unparted_at sep f.0) (sym is) ∙ m.first;
        others = m.others;
      }

  uncut_at : (t : Bool) (p : List ℕ) → t ≡ (b == sep) → cond t ([] ∷ parts sep bs) (onto_first b (parts sep bs)) ≡ p ∷ []
      → ((p' : List ℕ) → parts sep bs ≡ p' ∷ [] → (bs ≡ p') × (unparted_at sep bs ≡ true)) → (b ∷ bs ≡ p) × (not (b == sep) && unparted_at sep bs ≡ true)
  uncut_at true p is e more =
      let none : parts sep bs ≡ [] = cc in
      absurd (omega (arith, some sep bs, ap length none))
  uncut_at false p is e more =
      let f = before_first b (parts sep bs) p [] (some sep bs) e in
      let m = more f.0 f.1 in
      (ap (λ x. b ∷ x) m.0 ∙ sym f.2, ap (λ t. not t && unparted_at sep bs) (sym is) ∙ m.1)

pub cut : (sep : ℕ) (bs p q : List ℕ) (qs : List (List ℕ)) → parts sep bs ≡ p ∷ q ∷ qs → Cut sep bs p (q ∷ qs)
unfolding parts
cut sep [] p q qs e = absurd (cc)
cut sep (b ∷ bs) p q qs e = cut_at sep b bs (b == sep) p q qs refl e (λ p' e'. cut sep bs p' q qs e')

-- a text with one part is that part
pub uncut : (sep : ℕ) (bs p : List ℕ) → parts sep bs ≡ p ∷ [] → (bs ≡ p) × (unparted_at sep bs ≡ true)
unfolding parts
uncut sep [] p e = (cc, refl)
uncut sep (b ∷ bs) p e = uncut_at sep b bs (b == sep) p refl e (λ p' e'. uncut sep bs p' e')

-- and the other way
pub joined : (sep : ℕ) (p rest : List ℕ) → unparted_at sep p ≡ true → parts sep (p ++ sep ∷ rest) ≡ p ∷ parts sep rest
unfolding parts
joined sep [] rest u = grind (arith, nat_tests)
joined sep (b ∷ bs) rest u = grind (arith, nat_tests, joined sep bs rest)

pub alone : (sep : ℕ) (p : List ℕ) → unparted_at sep p ≡ true → parts sep p ≡ p ∷ []
unfolding parts
alone sep [] u = refl
alone sep (b ∷ bs) u = grind (arith, nat_tests, alone sep bs)
