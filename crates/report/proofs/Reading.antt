-- A text reads back as the fields that were written.
use Rattle.std.proofs.Common.{◌≡◌, ℕ, ◌-◌, ◌+◌, ◌*◌, ◌^◌, ◌<◌, true, List, [], ◌∷◌, ◌++◌, map, length, decimal, Some, sym, refl, ap, ◌∙◌, arith, append_assoc, append-nil}
use Rattle.std.specs.Str.{all_ascii_digits}
use Rattle.std.proofs.lemmas.Bool.Decides.{nat_tests}
use Rattle.std.proofs.lemmas.Fmt.{digits_decimal, digits_value-decimal, decimal_nonempty}
use Rattle.std.specs.List.{onto_first}
use Rattle.fields.specs.Parts.{parts}
use Rattle.report.specs.Lines.{Field, Number, Text, written, line_of, text_of}
use Rattle.report.specs.Reading.{number_after, field_of, fields_in, read_back, ReadsAs}
use Rattle.report.proofs.Rows.{unparted, Unparted, value, own, decimal_unparted, through, row_line, fields}

-- ---- fields

after : (n : ℕ) (bs : List ℕ) → all_ascii_digits bs ≡ true → number_after n bs ≡ Some (value n bs)
unfolding number_after
after n [] a = refl
after n (b ∷ bs) a = grind (arith, nat_tests, after (10 * n + (b - 48)) bs)

some_digits : (bs : List ℕ) → 0 < length bs → all_ascii_digits bs ≡ true → field_of bs ≡ Number (value 0 bs)
unfolding field_of
some_digits [] l a = absurd (omega arith)
some_digits (b ∷ bs) l a = grind (arith, after 0 (b ∷ bs) a)

number : (n : ℕ) → n < 2 ^ 64 → field_of (decimal n) ≡ Number n
number n h = some_digits (decimal n) (decimal_nonempty n h) (digits_decimal own n h) ∙ ap Number (digits_value-decimal own n h)

-- a number that fits 64 bits, or a text without separators that is no number
abbrev pub IsPlain : Field → Type 0
IsPlain (Number n) = n < 2 ^ 64
IsPlain (Text bs) = (unparted bs ≡ true) × (field_of bs ≡ Text bs)

abbrev pub ArePlain : List Field → Type 0
ArePlain [] = Unit {0}
ArePlain (f ∷ fs) = IsPlain f × ArePlain fs

plain : (f : Field) → IsPlain f → (unparted (written f) ≡ true) × (field_of (written f) ≡ f)
plain (Number n) h = (decimal_unparted n h, number n h)
plain (Text bs) h = h

all_plain : (fs : List Field) → ArePlain fs → Unparted (map written fs) × (map field_of (map written fs) ≡ fs)
all_plain [] h = (tt, refl)
all_plain (f ∷ fs) h =
    let p = plain f h.0 in
    let ps = all_plain fs h.1 in
    ((p.0, ps.0), (λ i. p.1 i ∷ ps.1 i))

-- ---- lines

pub reads_line : (f : Field) (fs : List Field) → ArePlain (f ∷ fs) → ReadsAs (line_of (f ∷ fs)) ((f ∷ fs) ∷ [])
unfolding read_back
reads_line f fs h =
    let p = all_plain (f ∷ fs) h in record {
      before = λ rest.
          ap (map fields_in) (row_line (map written (f ∷ fs)) rest p.0)
          ∙ ap (λ ps. map field_of ps ∷ read_back rest) (fields (written f) (map written fs) p.0)
          ∙ ap (λ gs. gs ∷ read_back rest) p.1;
    }

-- a field and a tab before a line
joined : (f text : List ℕ) (fs : List Field) (more : List (List Field)) (ps : List (List ℕ)) → unparted f ≡ true → parts 10 text ≡ ps → map fields_in ps ≡ fs ∷ more
    → read_back (f ++ 9 ∷ text) ≡ (field_of f ∷ fs) ∷ more
unfolding read_back parts
joined f text fs more [] u e r = absurd (cc)
joined f text fs more (l ∷ ls) u e r =
    let first : fields_in l ≡ fs = cc in
    let others : map fields_in ls ≡ more = cc in
    ap (map fields_in) (through 10 f (9 ∷ text) (9 ∷ l) ls (omega arith) u (ap (onto_first 9) e))
    ∙ rw (through 9 f (9 ∷ l) [] (parts 9 l) (omega arith) u refl, append-nil f, first, others) refl

pub one_more : (f : Field) (text : List ℕ) (fs : List Field) → IsPlain f → ReadsAs text (fs ∷ []) → ReadsAs (written f ++ 9 ∷ text) ((f ∷ fs) ∷ [])
unfolding read_back
one_more f text fs h e = record {
  before = λ rest.
      ap read_back (append_assoc (written f) (9 ∷ text) rest)
      ∙ joined (written f) (text ++ rest) fs (read_back rest) (parts 10 (text ++ rest)) (plain f h).0 refl (e.before rest)
      ∙ ap (λ g. (g ∷ fs) ∷ read_back rest) (plain f h).1;
}

-- ---- texts

pub reads_none : ReadsAs [] []
reads_none = record { before = λ rest. refl }

pub reads_both : (t t' : List ℕ) (ls ls' : List (List Field)) → ReadsAs t ls → ReadsAs t' ls' → ReadsAs (t ++ t') (ls ++ ls')
reads_both t t' ls ls' h h' = record {
  before = λ rest. ap read_back (append_assoc t t' rest) ∙ h.before (t' ++ rest) ∙ ap (λ x. ls ++ x) (h'.before rest) ∙ sym (append_assoc ls ls' (read_back rest));
}

pub text_of-append : (ls ls' : List (List Field)) → text_of (ls ++ ls') ≡ text_of ls ++ text_of ls'
unfolding text_of
text_of-append [] ls' = refl
text_of-append (l ∷ ls) ls' = ap (λ t. line_of l ++ t) (text_of-append ls ls') ∙ sym (append_assoc (line_of l) (text_of ls) (text_of ls'))

-- one line is a text
pub text_of-one : (fs : List Field) → text_of (fs ∷ []) ≡ line_of fs
unfolding text_of
text_of-one fs = append-nil (line_of fs)
