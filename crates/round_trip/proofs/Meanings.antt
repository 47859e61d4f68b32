-- What a line that is read is: the weights, a placing or a step, as it is written.
use Rattle.std.proofs.Common.{◌≡◌, ℕ, ◌+◌, ◌<◌, Bool, true, false, cond, ◌==◌, List, [], ◌∷◌, ◌++◌, map, length, get_or, slice_get, decimal, codes, bytes_eq, nat_lt, Some, None, Ok, Err, Option, Result, sym, refl, subst, ap, ◌∙◌, arith}
use Rattle.std.proofs.lemmas.Bool.Decides.{nat_tests}
use Rattle.std.proofs.lemmas.Option.{slice_get_within, get_or_from_slice_get}
use Rattle.std.proofs.lemmas.Slice.Eq.{bytes_eq-Decides}
use Rattle.std.proofs.lemmas.List.{length-map}
use Rattle.std.specs.List.{join_with_byte}
use Rattle.std.proofs.lemmas.List.Splits.{join_with_byte-slice_split}
use Rattle.fields.specs.Parts.{parts}
use Rattle.numeral.specs.declared.BadNumber.{BadNumber}
use Rattle.numeral.specs.Number.{number_of}
use Rattle.numeral.proofs.Decimals.{reads_decimals}
use Rattle.protocol.specs.declared.call.Call.{Call}
use Rattle.protocol.specs.declared.call.Call.TheVariants as call
use Rattle.protocol.specs.declared.weights.Prices.{Prices}
use Rattle.records.specs.declared.fault.Place.{Place}
use Rattle.records.specs.declared.fault.TextFault.{TextFault}
use Rattle.records.specs.declared.keyword.Keyword.{Keyword}
use Rattle.records.specs.declared.keyword.Keyword.TheVariants.{Weights, Ref, Step as StepWord}
use Rattle.records.specs.declared.keyword.Verb.{Verb}
use Rattle.records.specs.declared.keyword.Verb.TheVariants.{Read, Write, Commit, Flush, Fetch, Resume}
use Rattle.records.specs.declared.keyword.Section.{Section}
use Rattle.records.specs.Keywords.{keyword_of, allows}
use Rattle.records.specs.Lines.{Located, numbered, numbers_after, places, or_miscounted, worded, record_of, line_of}
use Rattle.scenario.specs.declared.change.Change.{Change}
use Rattle.scenario.specs.declared.change.Change.TheVariants.{Weigh, Lay, Make}
use Rattle.scenario.specs.declared.fault.Fault.{Fault}
use Rattle.scenario.specs.declared.fault.LayoutFault.{LayoutFault}
use Rattle.scenario.specs.Changes.{and_then, as_text, as_layout, at, place_at, numbers, numbers_of, weighed, weights_of, target, changed, change_of, line_change}
use Rattle.scenario.specs.Layouts.{free, block_at}
use Rattle.scenario.specs.Reading.{Read as ReadText}
use Rattle.scenario.specs.declared.fault.File.{File}
use Rattle.scenario.specs.Texts.{in_file}
use Rattle.report.specs.Lines.{written as as_written}
use Rattle.report.proofs.Rows.{body}
use Rattle.round_trip.specs.Written.{Step, Writable, weights_fields, placing_fields, step_fields, step_fields_of, call_of, made_by, NamesPlaced}

-- ---- what goes well, step by step

pub then_ok : {A B E P : Type 0} (r : Result A E) (f : A → Result B E) (y : B) → and_then r f ≡ Ok y → ((x : A) → r ≡ Ok x → f x ≡ Ok y → P) → P
then_ok (Ok x) f y e h = h x refl e
then_ok (Err e') f y e h = absurd (cc)

pub text_ok : {A : Type 0} (r : Result A TextFault) (y : A) → as_text r ≡ Ok y → r ≡ Ok y
text_ok (Ok x) y e = cc
text_ok (Err e') y e = absurd (cc)

layout_ok : {A : Type 0} (r : Result A LayoutFault) (y : A) → as_layout r ≡ Ok y → r ≡ Ok y
layout_ok (Ok x) y e = cc
layout_ok (Err e') y e = absurd (cc)

pub file_ok : (f : File) (r : Result ReadText Fault) (x : ReadText) → in_file f r ≡ Ok x → r ≡ Ok x
file_ok f (Ok y) x e = cc
file_ok f (Err e') x e = absurd (cc)

-- no fault where a test asks for one
pub no_fault : {A E : Type 0} (t : Bool) (r : Result A E) (x : E) (y : A) → cond t (Err x) r ≡ Ok y → (t ≡ false) × (r ≡ Ok y)
no_fault true r x y e = absurd (cc)
no_fault false r x y e = (refl, e)

good : {A E : Type 0} (t : Bool) (r : Result A E) (x : E) (y : A) → cond t r (Err x) ≡ Ok y → (t ≡ true) × (r ≡ Ok y)
good true r x y e = (refl, e)
good false r x y e = absurd (cc)

-- ---- the word of a line, and its other fields

abbrev pub spelt : Keyword → List ℕ
spelt Weights = codes "weights"
spelt Ref = codes "ref"
spelt (StepWord Read) = codes "read"
spelt (StepWord Write) = codes "write"
spelt (StepWord Commit) = codes "commit"
spelt (StepWord Flush) = codes "flush"
spelt (StepWord Fetch) = codes "fetch"
spelt (StepWord Resume) = codes "resume"

module _ (f : List ℕ) (w : Keyword) where
  -- f is this word, or one of the others
  one_of : (this : Keyword) (others : Option Keyword) → cond (bytes_eq f (spelt this)) (Some this) others ≡ Some w → (others ≡ Some w → f ≡ spelt w) → f ≡ spelt w
  one_of this others e more =
      elim (bytes_eq f (spelt this)) as (λ t. t ≡ bytes_eq f (spelt this) → cond t (Some this) others ≡ Some w → f ≡ spelt w) [
        | true ↦ λ t h. (bytes_eq-Decides f (spelt this)).0 (sym t) ∙ ap spelt (cc)
        | false ↦ λ t h. more h
      ] refl e

  is_spelt : keyword_of f ≡ Some w → f ≡ spelt w
  is_spelt e =
      one_of Weights _ e (λ e. one_of Ref _ e (λ e. one_of (StepWord Read) _ e (λ e. one_of (StepWord Write) _ e (λ e. one_of (StepWord Commit) _ e
      (λ e. one_of (StepWord Flush) _ e (λ e. one_of (StepWord Fetch) _ e (λ e. one_of (StepWord Resume) _ e (λ e. absurd (cc)))))))))

-- the fields of a line that is a record
pub record IsRecord (s : Section) (line : ℕ) (ps : List (List ℕ)) (r : Keyword × List Located) : Type 0 where
  pub word : Keyword
  pub others : List (List ℕ)
  pub is_word : ps ≡ spelt word ∷ others
  pub allowed : allows s word ≡ true
  pub count : length others ≡ numbers_after word
  pub is : r ≡ (word, places line 2 others)

module _ (s : Section) (line : ℕ) (p : List ℕ) (ps : List (List ℕ)) (r : Keyword × List Located) where
  counted_is : (w : Keyword) → p ≡ spelt w → allows s w ≡ true → (t : Bool) → t ≡ (length ps == numbers_after w)
      → or_miscounted line (cond t (Some (w, places line 2 ps)) None) ≡ Ok r → IsRecord s line (p ∷ ps) r
  counted_is w e a true is h = record { word = w; others = ps; is_word = ap (λ x. x ∷ ps) e; allowed = a; count = grind (arith, nat_tests); is = cc }
  counted_is w e a false is h = absurd (cc)

  worded_is : (o : Option Keyword) → keyword_of p ≡ o → worded s line o ps ≡ Ok r → IsRecord s line (p ∷ ps) r
  worded_is None o h = absurd (cc)
  worded_is (Some w) o h =
      let g = good (allows s w) _ _ r h in
      counted_is w (is_spelt p w o) g.0 _ refl g.1

pub record_is : (s : Section) (line : ℕ) (ps : List (List ℕ)) (r : Keyword × List Located) → record_of s line ps ≡ Ok r → IsRecord s line ps r
record_is s line [] r e = absurd (cc)
record_is s line (p ∷ ps) r e = worded_is s line p ps r (keyword_of p) refl e

-- ---- numbers

number : (p : Place) (r : Result ℕ BadNumber) (n : ℕ) → numbered p r ≡ Ok n → r ≡ Ok n
number p (Ok m) n e = cc
number p (Err e') n e = absurd (cc)

abbrev AreSmall : List ℕ → Type 0
AreSmall [] = Unit {0}
AreSmall (n ∷ ns) = (n < 65536) × AreSmall ns

-- fields that are read as numbers are those numbers in decimal
are_numbers : (line k : ℕ) (gs : List (List ℕ)) (ns : List ℕ) → numbers (places line k gs) ≡ Ok ns → (gs ≡ map decimal ns) × AreSmall ns
are_numbers line k [] [] e = (refl, tt)
are_numbers line k [] (n ∷ ns) e = absurd (cc)
are_numbers line k (g ∷ gs) ns e =
    then_ok (numbered _ (number_of g)) _ ns e (λ m is h. then_ok (numbers (places line (k + 1) gs)) _ ns h (λ ms are h'.
    let d = (reads_decimals g (number_of g) refl m).0 (number _ (number_of g) m is) in
    let more = are_numbers line (k + 1) gs ms are in
    let all : m ∷ ms ≡ ns = cc in
    subst (λ x. (g ∷ gs ≡ map decimal x) × AreSmall x) all ((λ i. d.0 i ∷ more.0 i), (d.1, more.1))
    ))

-- ---- what a line is, by what it changes

pub record IsStep (layout : List ℕ) (s : Section) (p : List ℕ) (k : Call) : Type 0 where
  pub step : Step
  pub allowed : allows s (StepWord step.verb) ≡ true
  pub core : step.core < 65536
  pub named : NamesPlaced layout step.verb step.reference
  pub call : k ≡ made_by layout step
  pub bytes : p ≡ body (map as_written (step_fields step))

abbrev pub IsLine : List ℕ → Section → List ℕ → Change → Type 0
IsLine layout s p (Weigh w) = (allows s Weights ≡ true) × Writable w × (p ≡ body (map as_written (weights_fields w)))
IsLine layout s p (Lay r b) = (allows s Ref ≡ true) × (slice_get layout r ≡ Some 65536) × (b < 65536) × (p ≡ body (map as_written (placing_fields (record { reference = r; block = b }))))
IsLine layout s p (Make k) = IsStep layout s p k

-- a line is its fields, joined by tabs
joins : (ps : List (List ℕ)) → join_with_byte 9 ps ≡ body ps
joins [] = refl
joins (f ∷ []) = refl
joins (f ∷ g ∷ fs) = ap (λ x. f ++ 9 ∷ x) (joins (g ∷ fs))

pub is_joined : (p : List ℕ) (ps : List (List ℕ)) → parts 9 p ≡ ps → p ≡ body ps
unfolding parts
is_joined p ps e = sym (join_with_byte-slice_split 9 p) ∙ joins (parts 9 p) ∙ ap body e

is_free : (at : Place) (o : Option ℕ) (u : Unit {0}) → free at o ≡ Ok u → o ≡ Some 65536
is_free at None u e = absurd (cc)
is_free at (Some n) u e = let g = good (n == 65536) _ _ u e in grind (arith, nat_tests, g.0)

is_block : (at : Place) (o : Option ℕ) (n : ℕ) → block_at at o ≡ Ok n → (o ≡ Some n) × (n < 65536)
is_block at None n e = absurd (cc)
is_block at (Some m) n e = let g = good (nat_lt m 65536) _ _ n e in let same : m ≡ n = cc in (ap Some same, grind (arith, nat_tests, g.0))

module _ (layout : List ℕ) (full : length layout ≡ 256) (s : Section) (p : List ℕ) where
  weights_is : (ns : List ℕ) → length ns ≡ 5 → AreSmall ns → allows s Weights ≡ true → p ≡ body (codes "weights" ∷ map decimal ns) → IsLine layout s p (Weigh (weighed ns))
  weights_is (a ∷ b ∷ c ∷ d ∷ e ∷ []) n h al is = (al, record { w1 = h.0; w2 = h.1.0; w3 = h.1.1.0; w4 = h.1.1.1.0; wm = h.1.1.1.1.0 }, is)
  weights_is _ n h al is = absurd (omega arith)

  placing_is : (ns : List ℕ) → length ns ≡ 2 → AreSmall ns → allows s Ref ≡ true → slice_get layout (at ns 0) ≡ Some 65536 → p ≡ body (codes "ref" ∷ map decimal ns)
      → IsLine layout s p (Lay (at ns 0) (at ns 1))
  placing_is (r ∷ b ∷ []) n h al free is = (al, free, h.1.0, is)
  placing_is _ n h al free is = absurd (omega arith)

  -- a step that names a core and a reference
  pair_is : (v : Verb) → ((c r : ℕ) → map as_written (step_fields_of v c r) ≡ spelt (StepWord v) ∷ decimal c ∷ decimal r ∷ [])
      → ((r : ℕ) → (r < 256) × (slice_get layout r ≡ Some (get_or layout r 0)) × (get_or layout r 0 < 65536) → NamesPlaced layout v r)
      → (ns : List ℕ) (n : ℕ) → length ns ≡ 2 → AreSmall ns → allows s (StepWord v) ≡ true → slice_get layout (at ns 1) ≡ Some n → n < 65536 → p ≡ body (spelt (StepWord v) ∷ map decimal ns)
      → IsLine layout s p (Make (call_of v (at ns 0) n))
  pair_is v fields named (c ∷ r ∷ []) n l h al placed low is =
      let within : r < length layout = slice_get_within layout r n placed in
      let same : get_or layout r 0 ≡ n = get_or_from_slice_get layout r n 0 placed in
      record {
        step = record { verb = v; core = c; reference = r };
        allowed = al;
        core = h.0;
        named = named r (omega arith, placed ∙ ap Some (sym same), omega arith);
        call = ap (call_of v c) (sym same);
        bytes = is ∙ ap body (sym (fields c r));
      }
  pair_is v fields named _ n l h al placed low is = absurd (omega arith)

  -- a step that names a core alone
  lone_is : (v : Verb) → ((c r : ℕ) → map as_written (step_fields_of v c r) ≡ spelt (StepWord v) ∷ decimal c ∷ []) → NamesPlaced layout v 0
      → (ns : List ℕ) (k : Call) → ((n : ℕ) → call_of v (at ns 0) n ≡ k) → length ns ≡ 1 → AreSmall ns → allows s (StepWord v) ≡ true → p ≡ body (spelt (StepWord v) ∷ map decimal ns)
      → IsLine layout s p (Make k)
  lone_is v fields named (c ∷ []) k call l h al is = record {
    step = record { verb = v; core = c; reference = 0 };
    allowed = al;
    core = h.0;
    named = named;
    call = sym (call (get_or layout 0 0));
    bytes = is ∙ ap body (sym (fields c 0));
  }
  lone_is v fields named _ k call l h al is = absurd (omega arith)

  module _ (line : ℕ) (gs : List (List ℕ)) where
    -- the numbers of the fields
    with_numbers : {P : Type 0} (ns : List ℕ) → numbers_of (places line 2 gs) ≡ Ok ns → (gs ≡ map decimal ns → AreSmall ns → length ns ≡ length gs → P) → P
    with_numbers ns e h =
        let a = are_numbers line 2 gs ns (text_ok _ ns e) in
        h a.0 a.1 (sym (ap length a.0 ∙ length-map ns decimal))

    weights_line_is : (w : Prices) → length gs ≡ 5 → allows s Weights ≡ true → p ≡ body (codes "weights" ∷ gs) → weights_of (places line 2 gs) ≡ Ok w → IsLine layout s p (Weigh w)
    unfolding weights_of
    weights_line_is w n al is e =
        then_ok (numbers_of (places line 2 gs)) _ w e (λ ns en ew. with_numbers ns en (λ eg small len.
        let same : weighed ns ≡ w = cc in
        subst (λ x. IsLine layout s p (Weigh x)) same (weights_is ns (len ∙ n) small al (is ∙ ap (λ x. body (codes "weights" ∷ x)) eg))
        ))

    placing_line_is : (c : Change) → length gs ≡ 2 → allows s Ref ≡ true → p ≡ body (codes "ref" ∷ gs) → changed layout Ref (places line 2 gs) ≡ Ok c → IsLine layout s p c
    placing_line_is c n al is e =
        then_ok (numbers_of (places line 2 gs)) _ c e (λ ns en h. with_numbers ns en (λ eg small len.
        then_ok (as_layout (free (place_at (places line 2 gs) 0) (slice_get layout (at ns 0)))) _ c h (λ u ef ec.
        let same : Lay (at ns 0) (at ns 1) ≡ c = cc in
        subst (IsLine layout s p) same (placing_is ns (len ∙ n) small al (is_free _ _ u (layout_ok _ u ef)) (is ∙ ap (λ x. body (codes "ref" ∷ x)) eg))
        )))

    pair_line_is : (v : Verb) → ((c r : ℕ) → map as_written (step_fields_of v c r) ≡ spelt (StepWord v) ∷ decimal c ∷ decimal r ∷ [])
        → ((r : ℕ) → (r < 256) × (slice_get layout r ≡ Some (get_or layout r 0)) × (get_or layout r 0 < 65536) → NamesPlaced layout v r)
        → (c : Change) → length gs ≡ 2 → allows s (StepWord v) ≡ true → p ≡ body (spelt (StepWord v) ∷ gs)
        → and_then (target layout (places line 2 gs)) (λ t. Ok (Make (call_of v t.0 t.1))) ≡ Ok c → IsLine layout s p c
    pair_line_is v fields named c n al is e =
        then_ok (target layout (places line 2 gs)) (λ t. Ok (Make (call_of v t.0 t.1))) c e (λ t et ec.
        then_ok (numbers_of (places line 2 gs)) _ t et (λ ns en h. with_numbers ns en (λ eg small len.
        then_ok (as_layout (block_at (place_at (places line 2 gs) 1) (slice_get layout (at ns 1)))) _ t h (λ m eb em.
        let b = is_block _ _ m (layout_ok _ m eb) in
        let pair : (at ns 0, m) ≡ t = cc in
        let same : Make (call_of v (at ns 0) m) ≡ c = ap (λ (x : ℕ × ℕ). Make (call_of v x.0 x.1)) pair ∙ cc in
        subst (IsLine layout s p) same (pair_is v fields named ns m (len ∙ n) small al b.0 b.1 (is ∙ ap (λ x. body (spelt (StepWord v) ∷ x)) eg))
        ))))

    lone_line_is : (v : Verb) → ((c r : ℕ) → map as_written (step_fields_of v c r) ≡ spelt (StepWord v) ∷ decimal c ∷ []) → NamesPlaced layout v 0
        → (call : ℕ → Call) → ((c n : ℕ) → call_of v c n ≡ call c)
        → (c : Change) → length gs ≡ 1 → allows s (StepWord v) ≡ true → p ≡ body (spelt (StepWord v) ∷ gs)
        → and_then (numbers_of (places line 2 gs)) (λ ns. Ok (Make (call (at ns 0)))) ≡ Ok c → IsLine layout s p c
    lone_line_is v fields named call calls c n al is e =
        then_ok (numbers_of (places line 2 gs)) (λ ns. Ok (Make (call (at ns 0)))) c e (λ ns en ec. with_numbers ns en (λ eg small len.
        let same : Make (call (at ns 0)) ≡ c = cc in
        subst (IsLine layout s p) same (lone_is v fields named ns (call (at ns 0)) (λ m. calls (at ns 0) m) (len ∙ n) small al (is ∙ ap (λ x. body (spelt (StepWord v) ∷ x)) eg))
        ))

    changed_is : (w : Keyword) (c : Change) → length gs ≡ numbers_after w → allows s w ≡ true → p ≡ body (spelt w ∷ gs) → changed layout w (places line 2 gs) ≡ Ok c → IsLine layout s p c
    changed_is Weights c n al is e =
        then_ok (weights_of (places line 2 gs)) _ c e (λ w ew ec. let same : Weigh w ≡ c = cc in subst (IsLine layout s p) same (weights_line_is w n al is ew))
    changed_is Ref c n al is e = placing_line_is c n al is e
    changed_is (StepWord Read) c n al is e = pair_line_is Read (λ c r. refl) (λ r h. h) c n al is e
    changed_is (StepWord Write) c n al is e = pair_line_is Write (λ c r. refl) (λ r h. h) c n al is e
    changed_is (StepWord Commit) c n al is e = pair_line_is Commit (λ c r. refl) (λ r h. h) c n al is e
    changed_is (StepWord Flush) c n al is e = pair_line_is Flush (λ c r. refl) (λ r h. h) c n al is e
    changed_is (StepWord Fetch) c n al is e = lone_line_is Fetch (λ c r. refl) tt call.Fetch (λ c n. refl) c n al is e
    changed_is (StepWord Resume) c n al is e = lone_line_is Resume (λ c r. refl) tt call.Resume (λ c n. refl) c n al is e

  -- a line that is read is written as the format says
  pub line_is : (line : ℕ) (c : Change) → line_change layout s line p ≡ Ok c → IsLine layout s p c
  unfolding line_change
  line_is line c e =
      then_ok (as_text (line_of s line p)) (change_of layout) c e (λ r er ec.
      let f = no_fault (nat_lt 80 (length p)) _ _ r (text_ok _ r er) in
      let d = record_is s line (parts 9 p) r f.1 in
      changed_is line d.others d.word c d.count d.allowed (is_joined p _ d.is_word) (ap (change_of layout) (sym d.is) ∙ ec))
