-- Where the first part of a text ends.
use Rattle.std.proofs.Common.{◌≡◌, ◌≢◌, ℕ, zero, suc, ◌+◌, ◌-◌, ◌<◌, ◌≤◌, List, [], ◌∷◌, take, drop, length, get_or, sym, refl, ap, ◌∙◌, arith}
use Rattle.std.proofs.lemmas.Bool.Decides.{nat_tests}
use Rattle.std.proofs.lemmas.List.{take_all, length-drop}
use Rattle.fields.specs.Parts.{parts}

-- none of the first i bytes is the separator
abbrev pub Unparted : ℕ → ℕ → List ℕ → Type 0
Unparted sep i bs = (k : ℕ) → k < i → get_or bs k 0 ≢ sep

-- the rest of the bytes, as a slice of the code has them
rest : (i : ℕ) (bs : List ℕ) → take (length bs - i) (drop i bs) ≡ drop i bs
rest i bs = take_all (length bs - i) (drop i bs) (omega (arith, length-drop i bs))

first : (sep i : ℕ) (bs : List ℕ) → i < length bs → Unparted sep i bs → get_or bs i 0 ≡ sep → parts sep bs ≡ take i bs ∷ parts sep (drop (i + 1) bs)
unfolding parts
first sep i [] l h e = absurd (omega arith)
first sep zero (b ∷ bs) l h e = grind (arith, nat_tests)
first sep (suc i) (b ∷ bs) l h e = grind (arith, nat_tests, h 0 (omega arith), first sep i bs (omega arith) (λ k m. h (suc k) (omega arith)) e)

pub ended : (sep i : ℕ) (bs : List ℕ) → i < length bs → Unparted sep i bs → get_or bs i 0 ≡ sep
    → (parts sep bs ≡ take i bs ∷ parts sep (take (length bs - (i + 1)) (drop (i + 1) bs))) × (length (take (length bs - (i + 1)) (drop (i + 1) bs)) < length bs)
ended sep i bs l h e =
    (first sep i bs l h e ∙ ap (λ ys. take i bs ∷ parts sep ys) (sym (rest (i + 1) bs)), omega (arith, ap length (rest (i + 1) bs), length-drop (i + 1) bs))

pub whole : (sep : ℕ) (bs : List ℕ) → Unparted sep (length bs) bs → parts sep bs ≡ bs ∷ []
unfolding parts
whole sep [] h = refl
whole sep (b ∷ bs) h = grind (arith, nat_tests, h 0 (omega arith), whole sep bs (λ k m. h (suc k) (omega arith)))

-- there is always a part
pub some : (sep : ℕ) (bs : List ℕ) → 1 ≤ length (parts sep bs)
unfolding parts
some sep [] = omega arith
some sep (b ∷ bs) = grind (arith, nat_tests, some sep bs)
