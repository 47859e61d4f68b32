-- Lines and fields that were written part again where they were joined.
use Rattle.std.proofs.Common.{◌≡◌, ℕ, ◌<◌, ◌≤◌, ◌+◌, ◌-◌, ◌*◌, ◌^◌, Bool, true, ◌&&◌, ltb, List, [], ◌∷◌, ◌++◌, decimal, sym, refl, ap, ◌∙◌, arith, rules, append_assoc, append-nil}
use Rattle.std.specs.Str.{all_ascii_digits}
use Rattle.std.proofs.lemmas.Bool.Decides.{nat_tests}
use Rattle.std.proofs.lemmas.Str.Parse.{IsNumeralModel, numerals_by_fold}
use Rattle.std.proofs.lemmas.Fmt.{digits_decimal}
use Rattle.std.specs.List.{onto_first}
use Rattle.fields.specs.Parts.{parts}
use Rattle.report.specs.Lines.{row}

-- each byte is above those that part fields and lines
abbrev pub unparted : List ℕ → Bool
unparted [] = true
unparted (b ∷ bs) = ltb 10 b && unparted bs

abbrev pub Unparted : List (List ℕ) → Type 0
Unparted [] = Unit {0}
Unparted (f ∷ fs) = (unparted f ≡ true) × Unparted fs

abbrev pub value : ℕ → List ℕ → ℕ
value n [] = n
value n (b ∷ bs) = value (10 * n + (b - 48)) bs

pub own : IsNumeralModel (λ ds. all_ascii_digits ds ≡ true) (value 0)
own = numerals_by_fold _ (search rules) value (search rules)

digits : (bs : List ℕ) → all_ascii_digits bs ≡ true → unparted bs ≡ true
digits [] a = refl
digits (b ∷ bs) a = grind (arith, nat_tests, digits bs)

pub decimal_unparted : (n : ℕ) → n < 2 ^ 64 → unparted (decimal n) ≡ true
decimal_unparted n h = digits (decimal n) (digits_decimal own n h)

-- such bytes belong to the part that follows them
pub through : (sep : ℕ) (f rest p : List ℕ) (ps : List (List ℕ)) → sep ≤ 10 → unparted f ≡ true → parts sep rest ≡ p ∷ ps → parts sep (f ++ rest) ≡ (f ++ p) ∷ ps
unfolding parts
through sep [] rest p ps h u e = e
through sep (b ∷ bs) rest p ps h u e = grind (arith, nat_tests, through sep bs rest p ps h)

-- a row without its line feed
abbrev pub body : List (List ℕ) → List ℕ
body [] = []
body (f ∷ []) = f
body (f ∷ g ∷ fs) = f ++ 9 ∷ body (g ∷ fs)

-- a row is one line, whatever follows
line : (f : List ℕ) (fs : List (List ℕ)) (rest : List ℕ) → Unparted (f ∷ fs) → parts 10 (row (f ∷ fs) ++ rest) ≡ body (f ∷ fs) ∷ parts 10 rest
unfolding parts
line f [] rest u =
    ap (parts 10) (append_assoc f (10 ∷ []) rest) ∙ through 10 f (10 ∷ rest) [] (parts 10 rest) (omega arith) u.0 refl ∙ ap (λ x. x ∷ parts 10 rest) (append-nil f)
line f (g ∷ gs) rest u =
    ap (parts 10) (append_assoc f (9 ∷ row (g ∷ gs)) rest)
    ∙ through 10 f (9 ∷ (row (g ∷ gs) ++ rest)) (9 ∷ body (g ∷ gs)) (parts 10 rest) (omega arith) u.0 (ap (onto_first 9) (line g gs rest u.1))

pub row_line : (fs : List (List ℕ)) (rest : List ℕ) → Unparted fs → parts 10 (row fs ++ rest) ≡ body fs ∷ parts 10 rest
unfolding parts
row_line [] rest u = refl
row_line (f ∷ fs) rest u = line f fs rest u

-- and its fields are those that were written
pub fields : (f : List ℕ) (fs : List (List ℕ)) → Unparted (f ∷ fs) → parts 9 (body (f ∷ fs)) ≡ f ∷ fs
unfolding parts
fields f [] u = ap (parts 9) (sym (append-nil f)) ∙ through 9 f [] [] [] (omega arith) u.0 refl ∙ ap (λ x. x ∷ []) (append-nil f)
fields f (g ∷ gs) u =
    through 9 f (9 ∷ body (g ∷ gs)) [] (parts 9 (body (g ∷ gs))) (omega arith) u.0 refl
    ∙ ap (λ x. x ∷ parts 9 (body (g ∷ gs))) (append-nil f) ∙ ap (λ ps. f ∷ ps) (fields g gs u.1)
