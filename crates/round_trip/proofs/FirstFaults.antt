-- The first faulty line of a text decides.
use Rattle.std.proofs.Common.{◌≡◌, ◌≢◌, ℕ, zero, suc, ◌+◌, ◌≤◌, ◌<◌, Bool, true, false, cond, not, ◌==◌, List, [], ◌∷◌, ◌++◌, length, slice_get, nat_lt, Some, None, Ok, Err, Option, Result, IsOk, is_ok, sym, refl, subst, ap, ◌∙◌, arith}
use Rattle.std.proofs.lemmas.Bool.{and_parts, not-true}
use Rattle.std.proofs.lemmas.Bool.Decides.{nat_tests}
use Rattle.fields.specs.Parts.{parts}
use Rattle.numeral.specs.declared.BadNumber.{BadNumber}
use Rattle.numeral.specs.Number.{number_of}
use Rattle.protocol.specs.declared.call.Call.{Call}
use Rattle.protocol.specs.declared.call.Call.TheVariants as call
use Rattle.records.specs.declared.fault.TextFault.{TextFault}
use Rattle.records.specs.declared.fault.TextFault.TheVariants.{TooLong, Unended, Misplaced, Miscounted, NotANumber}
use Rattle.records.specs.declared.keyword.Keyword.{Keyword}
use Rattle.records.specs.declared.keyword.Keyword.TheVariants.{Weights, Ref, Step as StepWord}
use Rattle.records.specs.declared.keyword.Verb.TheVariants.{Read as ReadVerb, Write, Commit, Flush, Fetch, Resume}
use Rattle.records.specs.declared.keyword.Section.{Section}
use Rattle.records.specs.declared.keyword.Section.TheVariants.{Scenario, Refs, Steps, Placement, Schedule}
use Rattle.records.specs.Keywords.{keyword_of, allows}
use Rattle.records.specs.Lines.{Located, number_in, numbered, numbers_after, places, counted, or_miscounted, worded, record_of, line_of as line_fields}
use Rattle.scenario.specs.declared.change.Change.{Change}
use Rattle.scenario.specs.declared.change.Change.TheVariants.{Weigh, Lay, Make}
use Rattle.scenario.specs.declared.fault.Fault.{Fault}
use Rattle.scenario.specs.declared.fault.Fault.TheVariants.{Text, Layout}
use Rattle.scenario.specs.declared.fault.LayoutFault.{LayoutFault}
use Rattle.scenario.specs.declared.fault.LayoutFault.TheVariants.{BadTable, Taken, Unplaced}
use Rattle.scenario.specs.Changes.{and_then, as_text, as_layout, at, numbers, numbers_of, weighed, weights_of, target, changed, change_of, line_change}
use Rattle.scenario.specs.Layouts.{free, block_at}
use Rattle.scenario.specs.Scan.{State, start, scan, ended, complete, changed_by, after_weights}
use Rattle.scenario.specs.Reading.{Read, read_of, section_of}
use Rattle.scenario.specs.declared.fault.File.{File}
use Rattle.scenario.specs.declared.fault.File.TheVariants.{Placement as PlacementFile, Schedule as ScheduleFile}
use Rattle.scenario.specs.declared.fault.FileFault.{FileFault}
use Rattle.scenario.specs.Texts.{unplaced, in_file}
use Rattle.fields.proofs.Cuts.{some}
use Rattle.round_trip.specs.FirstFault.{first_lines, line_of, IsFirstFault, IsFault, IsPairFault, FirstFaultDecides, PairFirstFaultDecides}
use Rattle.round_trip.proofs.Meanings.{then_ok, text_ok, file_ok, no_fault, record_is}
use Rattle.round_trip.proofs.Scans.{scan_on}
use Rattle.round_trip.proofs.Cuts.{unparted_at, Cut, cut, uncut, joined}

-- ---- first lines

apart : (sep b : ℕ) (bs : List ℕ) → unparted_at sep (b ∷ bs) ≡ true → ((b == sep) ≡ false) × (unparted_at sep bs ≡ true)
apart sep b bs u = let a = and_parts (not (b == sep)) (unparted_at sep bs) u in (not-true (b == sep) a.0, a.1)

-- a byte that is no line feed leaves as many lines to come
still : (n b : ℕ) (bs : List ℕ) → (b == 10) ≡ false → first_lines (suc n) (b ∷ bs) ≡ b ∷ first_lines (suc n) bs
unfolding first_lines
still n b bs e = ap (λ t. b ∷ first_lines (cond t n (suc n)) bs) e

-- a line, and then others
first_of : (n : ℕ) (p rest : List ℕ) → unparted_at 10 p ≡ true → first_lines (suc n) (p ++ 10 ∷ rest) ≡ p ++ 10 ∷ first_lines n rest
unfolding first_lines
first_of n [] rest u = refl
first_of n (b ∷ p) rest u = let a = apart 10 b p u in still n b (p ++ 10 ∷ rest) a.0 ∙ ap (λ x. b ∷ x) (first_of n p rest a.1)

-- a last line
first_all : (n : ℕ) (p : List ℕ) → unparted_at 10 p ≡ true → first_lines (suc n) p ≡ p
unfolding first_lines
first_all n [] u = refl
first_all n (b ∷ p) u = let a = apart 10 b p u in still n b p a.0 ∙ ap (λ x. b ∷ x) (first_all n p a.1)

-- a text that has the same first lines begins with the same line
record Begins (n : ℕ) (p t bs : List ℕ) : Type 0 where
  rest : List ℕ
  whole : bs ≡ p ++ 10 ∷ rest
  others : first_lines n rest ≡ t

begins : (n : ℕ) (p t bs : List ℕ) → unparted_at 10 p ≡ true → first_lines (suc n) bs ≡ p ++ 10 ∷ t → Begins n p t bs
unfolding first_lines
begins n [] t [] u e = absurd (cc)
begins n [] t (b ∷ bs) u e =
    let feed : b ≡ 10 = cc in
    let others : first_lines (cond (b == 10) n (suc n)) bs ≡ t = cc in
    record { rest = bs; whole = ap (λ x. x ∷ bs) feed; others = ap (λ x. first_lines (cond (x == 10) n (suc n)) bs) (sym feed) ∙ others }
begins n (a ∷ p) t [] u e = absurd (cc)
begins n (a ∷ p) t (b ∷ bs) u e =
    let same : b ≡ a = cc in
    let f = apart 10 a p u in
    let others : first_lines (cond (b == 10) n (suc n)) bs ≡ p ++ 10 ∷ t = cc in
    let more = begins n p t bs f.1 (ap (λ x. first_lines (cond x n (suc n)) bs) (sym (ap (λ x. x == 10) same ∙ f.0)) ∙ others) in
    record { rest = more.rest; whole = (λ i. same i ∷ more.whole i); others = more.others }

-- a text whose first line is not ended is that line
same_end : (n : ℕ) (p bs : List ℕ) → unparted_at 10 p ≡ true → first_lines (suc n) bs ≡ p → bs ≡ p
unfolding first_lines
same_end n p [] u e = e
same_end n [] (b ∷ bs) u e = absurd (cc)
same_end n (a ∷ p) (b ∷ bs) u e =
    let same : b ≡ a = cc in
    let f = apart 10 a p u in
    let others : first_lines (cond (b == 10) n (suc n)) bs ≡ p = cc in
    let more = same_end n p bs f.1 (ap (λ x. first_lines (cond x n (suc n)) bs) (sym (ap (λ x. x == 10) same ∙ f.0)) ∙ others) in
    λ i. same i ∷ more i

pub length-first_lines : (n : ℕ) (bs : List ℕ) → length (first_lines n bs) ≤ length bs
unfolding first_lines
length-first_lines zero bs = omega arith
length-first_lines (suc n) [] = omega arith
length-first_lines (suc n) (b ∷ bs) = omega (arith, length-first_lines (cond (b == 10) n (suc n)) bs)

-- ---- the line of a fault

then_err : {A B E P : Type 0} (r : Result A E) (f : A → Result B E) (e : E) → and_then r f ≡ Err e → (r ≡ Err e → P) → ((x : A) → r ≡ Ok x → f x ≡ Err e → P) → P
then_err (Ok x) f e h bad well = well x refl h
then_err (Err e') f e h bad well = bad (cc)

text_err : {A P : Type 0} (r : Result A TextFault) (e : Fault) → as_text r ≡ Err e → ((t : TextFault) → r ≡ Err t → Text t ≡ e → P) → P
text_err (Ok x) e h bad = absurd (cc)
text_err (Err t) e h bad = bad t refl (cc)

layout_err : {A P : Type 0} (r : Result A LayoutFault) (e : Fault) → as_layout r ≡ Err e → ((t : LayoutFault) → r ≡ Err t → Layout t ≡ e → P) → P
layout_err (Ok x) e h bad = absurd (cc)
layout_err (Err t) e h bad = bad t refl (cc)

-- what a test asks for is not there, or what comes then has a fault
test_err : {A E P : Type 0} (t : Bool) (r : Result A E) (x e : E) → cond t r (Err x) ≡ Err e → (x ≡ e → P) → (r ≡ Err e → P) → P
test_err true r x e h bad well = well h
test_err false r x e h bad well = bad (cc)

module _ (line : ℕ) where
  -- a fault of this line
  abbrev Here : Fault → Type 0
  Here e = line_of e ≡ line

  abbrev HereText : TextFault → Type 0
  HereText t = line_of (Text t) ≡ line

  abbrev HereLayout : LayoutFault → Type 0
  HereLayout t = line_of (Layout t) ≡ line

  -- ---- of its text

  counted_err : (w : Keyword) (ps : List (List ℕ)) (t : TextFault) (b : Bool) → or_miscounted line (cond b (Some (w, places line 2 ps)) None) ≡ Err t → HereText t
  counted_err w ps t true h = absurd (cc)
  counted_err w ps t false h = let is : Miscounted line ≡ t = cc in subst HereText is refl

  worded_err : (s : Section) (o : Option Keyword) (ps : List (List ℕ)) (t : TextFault) → worded s line o ps ≡ Err t → HereText t
  worded_err s None ps t h = let is : Misplaced line ≡ t = cc in subst HereText is refl
  worded_err s (Some w) ps t h =
      test_err (allows s w) (or_miscounted line (counted w line ps)) (Misplaced line) t h (λ is. subst HereText is refl) (λ h'. counted_err w ps t _ h')

  record_err : (s : Section) (ps : List (List ℕ)) (t : TextFault) → record_of s line ps ≡ Err t → HereText t
  record_err s [] t h = let is : Misplaced line ≡ t = cc in subst HereText is refl
  record_err s (p ∷ ps) t h = worded_err s (keyword_of p) ps t h

  long_err : (b : Bool) (s : Section) (ps : List (List ℕ)) (t : TextFault) → cond b (Err (Unended line)) (record_of s line ps) ≡ Err t → HereText t
  long_err true s ps t h = let is : Unended line ≡ t = cc in subst HereText is refl
  long_err false s ps t h = record_err s ps t h

  -- ---- of its numbers

  number_err : (k : ℕ) (r : Result ℕ BadNumber) (t : TextFault) → numbered (record { line = line; field = k }) r ≡ Err t → HereText t
  number_err k (Ok n) t h = absurd (cc)
  number_err k (Err e) t h = let is : NotANumber (record { line = line; field = k }) ≡ t = cc in subst HereText is refl

  numbers_err : (k : ℕ) (ps : List (List ℕ)) (t : TextFault) → numbers (places line k ps) ≡ Err t → HereText t
  numbers_err k [] t h = absurd (cc)
  numbers_err k (p ∷ ps) t h =
      then_err (number_in (p, record { line = line; field = k })) (λ n. and_then (numbers (places line (k + 1) ps)) (λ ns. Ok (n ∷ ns))) t h (number_err k (number_of p) t)
      (λ n is h'. then_err (numbers (places line (k + 1) ps)) (λ ns. Ok (n ∷ ns)) t h' (numbers_err (k + 1) ps t) (λ ns is' h''. absurd (cc)))

  numbers_of_err : (ps : List (List ℕ)) (e : Fault) → numbers_of (places line 2 ps) ≡ Err e → Here e
  numbers_of_err ps e h = text_err (numbers (places line 2 ps)) e h (λ t is te. subst Here te (numbers_err 2 ps t is))

  -- ---- of its reference

  free_err : (k : ℕ) (o : Option ℕ) (t : LayoutFault) → free (record { line = line; field = k }) o ≡ Err t → HereLayout t
  free_err k None t h = let is : Taken (record { line = line; field = k }) ≡ t = cc in subst HereLayout is refl
  free_err k (Some n) t h = test_err (n == 65536) (Ok tt) (Taken (record { line = line; field = k })) t h (λ is. subst HereLayout is refl) (λ h'. absurd (cc))

  block_err : (k : ℕ) (o : Option ℕ) (t : LayoutFault) → block_at (record { line = line; field = k }) o ≡ Err t → HereLayout t
  block_err k None t h = let is : Unplaced (record { line = line; field = k }) ≡ t = cc in subst HereLayout is refl
  block_err k (Some n) t h = test_err (nat_lt n 65536) (Ok n) (Unplaced (record { line = line; field = k })) t h (λ is. subst HereLayout is refl) (λ h'. absurd (cc))

  module _ (layout : List ℕ) where
    target_err : (a b : List ℕ) (e : Fault) → target layout (places line 2 (a ∷ b ∷ [])) ≡ Err e → Here e
    target_err a b e h =
        then_err (numbers_of (places line 2 (a ∷ b ∷ []))) (λ ns. and_then (as_layout (block_at (record { line = line; field = 3 }) (slice_get layout (at ns 1)))) (λ n. Ok (at ns 0, n))) e h
        (numbers_of_err (a ∷ b ∷ []) e)
        (λ ns is h'. then_err (as_layout (block_at (record { line = line; field = 3 }) (slice_get layout (at ns 1)))) (λ n. Ok (at ns 0, n)) e h'
        (λ no_block. layout_err (block_at (record { line = line; field = 3 }) (slice_get layout (at ns 1))) e no_block (λ t is' te. subst Here te (block_err 3 (slice_get layout (at ns 1)) t is')))
        (λ n is' h''. absurd (cc)))

    pair_err : (call : ℕ × ℕ → Call) (ps : List (List ℕ)) (e : Fault) → length ps ≡ 2 → and_then (target layout (places line 2 ps)) (λ t. Ok (Make (call t))) ≡ Err e → Here e
    pair_err call (a ∷ b ∷ []) e n h = then_err (target layout (places line 2 (a ∷ b ∷ []))) (λ t. Ok (Make (call t))) e h (target_err a b e) (λ t is h'. absurd (cc))
    pair_err call _ e n h = absurd (omega arith)

    lone_err : (call : List ℕ → Call) (ps : List (List ℕ)) (e : Fault) → and_then (numbers_of (places line 2 ps)) (λ ns. Ok (Make (call ns))) ≡ Err e → Here e
    lone_err call ps e h = then_err (numbers_of (places line 2 ps)) (λ ns. Ok (Make (call ns))) e h (numbers_of_err ps e) (λ ns is h'. absurd (cc))

    weights_err : (ps : List (List ℕ)) (e : Fault) → weights_of (places line 2 ps) ≡ Err e → Here e
    unfolding weights_of
    weights_err ps e h = then_err (numbers_of (places line 2 ps)) (λ ns. Ok (weighed ns)) e h (numbers_of_err ps e) (λ ns is h'. absurd (cc))

    ref_err : (ps : List (List ℕ)) (e : Fault) → length ps ≡ 2 → changed layout Ref (places line 2 ps) ≡ Err e → Here e
    ref_err (a ∷ b ∷ []) e n h =
        then_err (numbers_of (places line 2 (a ∷ b ∷ []))) (λ ns. and_then (as_layout (free (record { line = line; field = 2 }) (slice_get layout (at ns 0)))) (λ _. Ok (Lay (at ns 0) (at ns 1)))) e h
        (numbers_of_err (a ∷ b ∷ []) e)
        (λ ns is h'. then_err (as_layout (free (record { line = line; field = 2 }) (slice_get layout (at ns 0)))) (λ _. Ok (Lay (at ns 0) (at ns 1))) e h'
        (λ taken. layout_err (free (record { line = line; field = 2 }) (slice_get layout (at ns 0))) e taken (λ t is' te. subst Here te (free_err 2 (slice_get layout (at ns 0)) t is')))
        (λ u is' h''. absurd (cc)))
    ref_err _ e n h = absurd (omega arith)

    changed_err : (w : Keyword) (ps : List (List ℕ)) (e : Fault) → length ps ≡ numbers_after w → changed layout w (places line 2 ps) ≡ Err e → Here e
    changed_err Weights ps e n h = then_err (weights_of (places line 2 ps)) (λ w. Ok (Weigh w)) e h (weights_err ps e) (λ w is h'. absurd (cc))
    changed_err Ref ps e n h = ref_err ps e n h
    changed_err (StepWord ReadVerb) ps e n h = pair_err (λ t. call.Read t.0 t.1) ps e n h
    changed_err (StepWord Write) ps e n h = pair_err (λ t. call.Write t.0 t.1) ps e n h
    changed_err (StepWord Commit) ps e n h = pair_err (λ t. call.Commit t.0 t.1) ps e n h
    changed_err (StepWord Flush) ps e n h = pair_err (λ t. call.Flush t.0 t.1) ps e n h
    changed_err (StepWord Fetch) ps e n h = lone_err (λ ns. call.Fetch (at ns 0)) ps e h
    changed_err (StepWord Resume) ps e n h = lone_err (λ ns. call.Resume (at ns 0)) ps e h

    -- a fault that reading a line gives is told of that line
    line_err : (s : Section) (p : List ℕ) (e : Fault) → line_change layout s line p ≡ Err e → Here e
    unfolding line_change
    line_err s p e h =
        then_err (as_text (line_fields s line p)) (change_of layout) e h
        (λ bad. text_err (line_fields s line p) e bad (λ t is te. subst Here te (long_err _ s (parts 9 p) t is)))
        (λ r is h'.
        let d = record_is s line (parts 9 p) r (no_fault (nat_lt 80 (length p)) _ _ r (text_ok _ r is)).1 in
        changed_err d.word d.others e d.count (ap (change_of layout) (sym d.is) ∙ h'))

-- ---- after a good line a text may end

no_lay : {A : Type 0} (r : Result A Fault) (call : A → Call) (n b : ℕ) → and_then r (λ t. Ok (Make (call t))) ≡ Ok (Lay n b) → ⊥
no_lay (Ok x) call n b e = cc
no_lay (Err e') call n b e = cc

lays : (layout : List ℕ) (w : Keyword) (fs : List Located) (n b : ℕ) → changed layout w fs ≡ Ok (Lay n b) → w ≡ Ref
lays layout Weights fs n b e = absurd (then_ok (weights_of fs) (λ w. Ok (Weigh w)) (Lay n b) e (λ w is h. cc))
lays layout Ref fs n b e = refl
lays layout (StepWord ReadVerb) fs n b e = absurd (no_lay (target layout fs) (λ t. call.Read t.0 t.1) n b e)
lays layout (StepWord Write) fs n b e = absurd (no_lay (target layout fs) (λ t. call.Write t.0 t.1) n b e)
lays layout (StepWord Commit) fs n b e = absurd (no_lay (target layout fs) (λ t. call.Commit t.0 t.1) n b e)
lays layout (StepWord Flush) fs n b e = absurd (no_lay (target layout fs) (λ t. call.Flush t.0 t.1) n b e)
lays layout (StepWord Fetch) fs n b e = absurd (no_lay (numbers_of fs) (λ ns. call.Fetch (at ns 0)) n b e)
lays layout (StepWord Resume) fs n b e = absurd (no_lay (numbers_of fs) (λ ns. call.Resume (at ns 0)) n b e)

abbrev MayEnd : Section → Type 0
MayEnd s = (line : ℕ) → complete s line ≡ Ok tt

refs_may_end : (s : Section) → allows s Ref ≡ true → MayEnd s
refs_may_end Scenario a line = absurd (cc)
refs_may_end Refs a line = refl
refs_may_end Steps a line = absurd (cc)
refs_may_end Placement a line = refl
refs_may_end Schedule a line = absurd (cc)

weighed_may_end : (s : Section) → MayEnd (after_weights s)
weighed_may_end Scenario line = refl
weighed_may_end Refs line = refl
weighed_may_end Steps line = refl
weighed_may_end Placement line = refl
weighed_may_end Schedule line = refl

module _ (now : State) (line : ℕ) (p : List ℕ) where
  may_end : (c : Change) → line_change now.layout now.section line p ≡ Ok c → MayEnd (changed_by now c).section
  unfolding line_change
  may_end (Weigh w) e = weighed_may_end now.section
  may_end (Lay n b) e =
      then_ok (as_text (line_fields now.section line p)) (change_of now.layout) (Lay n b) e (λ r is h.
      let d = record_is now.section line (parts 9 p) r (no_fault (nat_lt 80 (length p)) _ _ r (text_ok _ r is)).1 in
      let ref = lays now.layout d.word _ n b (ap (change_of now.layout) (sym d.is) ∙ h) in
      refs_may_end now.section (ap (allows now.section) (sym ref) ∙ d.allowed))
  may_end (Make k) e = λ line. refl

-- ---- lines, from the first to the faulty one

-- reading on from here comes to a fault of this line or a later one: `past` lines are good, and the next is not
record HasFault (now : State) (line : ℕ) (bs : List ℕ) (e : Fault) : Type 0 where
  past : ℕ
  told : line_of e ≡ line + past
  before : (n : ℕ) → n < past → IsOk (scan now line (parts 10 (first_lines (suc n) bs)))
  after : (other : List ℕ) → first_lines (suc past) other ≡ first_lines (suc past) bs → scan now line (parts 10 other) ≡ Err e

ended_err : (s : Section) (line : ℕ) (p : List ℕ) (e : Fault) → ended s line p ≡ Err e → line_of e ≡ line
ended_err Scenario line [] e h = let is : Text (Misplaced line) ≡ e = cc in subst (Here line) is refl
ended_err Refs line [] e h = absurd (cc)
ended_err Steps line [] e h = absurd (cc)
ended_err Placement line [] e h = absurd (cc)
ended_err Schedule line [] e h = let is : Text (Misplaced line) ≡ e = cc in subst (Here line) is refl
ended_err s line (b ∷ bs) e h = let is : Text (Unended line) ≡ e = cc in subst (Here line) is refl

-- a last line
module _ (now : State) (line : ℕ) (bs p : List ℕ) (one : parts 10 bs ≡ p ∷ []) (e : Fault) (h : scan now line (p ∷ []) ≡ Err e) where
  last_fault : HasFault now line bs e
  unfolding scan
  last_fault =
      let u = uncut 10 bs p one in record {
        past = 0;
        told = then_err (ended now.section line p) (λ _. Ok now) e h (λ bad. ended_err now.section line p e bad ∙ omega arith) (λ x is h'. absurd (cc));
        before = λ n l. absurd (omega arith);
        after = λ other same. ap (λ x. scan now line (parts 10 x)) (same_end 0 bs other u.1 (same ∙ first_all 0 bs u.1)) ∙ ap (scan now line) one ∙ h;
      }

empty_ok : (st : State) (line : ℕ) → MayEnd st.section → IsOk (scan st line (parts 10 []))
unfolding scan parts
empty_ok st line h = ap (λ r. is_ok (and_then {E = Fault} r (λ _. Ok st))) (h line)

module _ (now : State) (line : ℕ) (bs p : List ℕ) (ps : List (List ℕ)) (c : Cut 10 bs p ps) (e : Fault) where
  -- the line p, and then a rest
  one_more : (rest : List ℕ) → scan now line (parts 10 (p ++ 10 ∷ rest)) ≡ and_then (line_change now.layout now.section line p) (λ x. scan (changed_by now x) (line + 1) (parts 10 rest))
  one_more rest = ap (scan now line) (joined 10 p rest c.first) ∙ scan_on now line p (parts 10 rest) (some 10 rest)

  firsts : (n : ℕ) → first_lines (suc n) bs ≡ p ++ 10 ∷ first_lines n c.rest
  firsts n = ap (first_lines (suc n)) c.whole ∙ first_of n p c.rest c.first

  line_fault : line_change now.layout now.section line p ≡ Err e → HasFault now line bs e
  line_fault h = record {
    past = 0;
    told = line_err line now.layout now.section p e h ∙ omega arith;
    before = λ n l. absurd (omega arith);
    after = λ other same.
        let o = begins 0 p (first_lines 0 c.rest) other c.first (same ∙ firsts 0) in
        ap (λ x. scan now line (parts 10 x)) o.whole ∙ one_more o.rest ∙ ap (λ r. and_then r (λ x. scan (changed_by now x) (line + 1) (parts 10 o.rest))) h;
  }

  module _ (x : Change) (h : line_change now.layout now.section line p ≡ Ok x) (more : HasFault (changed_by now x) (line + 1) c.rest e) where
    goes : (rest : List ℕ) → scan now line (parts 10 (p ++ 10 ∷ rest)) ≡ scan (changed_by now x) (line + 1) (parts 10 rest)
    goes rest = one_more rest ∙ ap (λ r. and_then r (λ y. scan (changed_by now y) (line + 1) (parts 10 rest))) h

    good_before : (n : ℕ) → n < suc more.past → IsOk (scan now line (parts 10 (first_lines (suc n) bs)))
    unfolding first_lines
    good_before zero l = ap (λ y. is_ok (scan now line (parts 10 y))) (firsts 0) ∙ ap is_ok (goes []) ∙ empty_ok (changed_by now x) (line + 1) (may_end now line p x h)
    good_before (suc n) l = ap (λ y. is_ok (scan now line (parts 10 y))) (firsts (suc n)) ∙ ap is_ok (goes (first_lines (suc n) c.rest)) ∙ more.before n (omega arith)

    later_fault : HasFault now line bs e
    later_fault = record {
      past = suc more.past;
      told = more.told ∙ omega arith;
      before = good_before;
      after = λ other same.
          let o = begins (suc more.past) p (first_lines (suc more.past) c.rest) other c.first (same ∙ firsts (suc more.past)) in
          ap (λ y. scan now line (parts 10 y)) o.whole ∙ goes o.rest ∙ more.after o.rest o.others;
    }

has_fault : (ps : List (List ℕ)) (now : State) (line : ℕ) (bs : List ℕ) (e : Fault) → parts 10 bs ≡ ps → scan now line ps ≡ Err e → HasFault now line bs e
has_fault [] now line bs e is h = absurd (omega (arith, some 10 bs, ap length is))
has_fault (p ∷ []) now line bs e is h = last_fault now line bs p is e h
has_fault (p ∷ q ∷ qs) now line bs e is h =
    let c = cut 10 bs p q qs is in
    then_err (line_change now.layout now.section line p) (λ x. scan (changed_by now x) (line + 1) (q ∷ qs)) e (sym (scan_on now line p (q ∷ qs) (omega arith)) ∙ h)
    (line_fault now line bs p (q ∷ qs) c e)
    (λ x good h'. later_fault now line bs p (q ∷ qs) c e x good (has_fault (q ∷ qs) (changed_by now x) (line + 1) c.rest e c.others h'))

-- ---- the theorem

module _ (s : Section) (layout : List ℕ) where
  -- a text that is not too long comes to what its lines come to
  short_is : (bs : List ℕ) → length bs ≤ 65536 → section_of s layout bs ≡ and_then (scan (start s layout) 1 (parts 10 bs)) (λ st. Ok (read_of st))
  unfolding section_of
  short_is bs l =
      let fits : nat_lt 65536 (length bs) ≡ false = grind (arith, nat_tests) in
      ap (λ b. and_then (cond b (Err (Text TooLong)) (scan (start s layout) 1 (parts 10 bs))) (λ st. Ok (read_of st))) fits

  still_ok : (r : Result State Fault) → IsOk r → IsOk (and_then r (λ st. Ok (read_of st)))
  still_ok (Ok st) h = refl
  still_ok (Err e) h = h

  short_err : (bs : List ℕ) (e : Fault) → length bs ≤ 65536 → section_of s layout bs ≡ Err e → scan (start s layout) 1 (parts 10 bs) ≡ Err e
  short_err bs e l h = then_err (scan (start s layout) 1 (parts 10 bs)) (λ st. Ok (read_of st)) e (sym (short_is bs l) ∙ h) (λ bad. bad) (λ st is h'. absurd (cc))

  long_err_is : (bs : List ℕ) (e : Fault) → 65536 < length bs → section_of s layout bs ≡ Err e → e ≡ Text TooLong
  unfolding section_of
  long_err_is bs e l h =
      let long : nat_lt 65536 (length bs) ≡ true = grind (arith, nat_tests) in
      let is = ap (λ b. and_then (cond b (Err (Text TooLong)) (scan (start s layout) 1 (parts 10 bs))) (λ st. Ok (read_of st))) long in
      let same : Err e ≡ Err (Text TooLong) = sym h ∙ is in
      cc

  before_in : (text : List ℕ) (e : Fault) → length text ≤ 65536 → (f : HasFault (start s layout) 1 text e) → line_of e ≡ suc f.past → (n : ℕ) → 1 ≤ n → n < line_of e → IsOk (section_of s layout (first_lines n text))
  before_in text e short f at zero some l = absurd (omega arith)
  before_in text e short f at (suc n) some l =
      ap is_ok (short_is (first_lines (suc n) text) (omega (arith, length-first_lines (suc n) text, short)))
      ∙ still_ok (scan (start s layout) 1 (parts 10 (first_lines (suc n) text))) (f.before n (omega (arith, l, at)))

  lines_in : (text : List ℕ) (e : Fault) → section_of s layout text ≡ Err e → length text ≤ 65536 → IsFirstFault (section_of s layout) text e
  lines_in text e h l =
      let f = has_fault (parts 10 text) (start s layout) 1 text e refl (short_err text e l h) in
      let at : line_of e ≡ suc f.past = f.told ∙ omega arith in record {
        named = omega (arith, at);
        before = before_in text e l f at;
        after = λ other len same.
            short_is other len
            ∙ ap (λ r. and_then r (λ st. Ok (read_of st))) (f.after other (ap (λ n. first_lines n other) (sym at) ∙ same ∙ ap (λ n. first_lines n text) at));
      }

  decides_in : (text : List ℕ) (e : Fault) → section_of s layout text ≡ Err e → IsFault (section_of s layout) text e
  decides_in text e h = record { long = λ l. long_err_is text e l h; lines = lines_in text e h }

-- a scenario is read so into a table of 256 entries
module _ (table text : List ℕ) (e : Fault) where
  into_table : (t : Bool) → t ≡ (length table == 256) → cond t (section_of Scenario unplaced text) (Err (Layout BadTable)) ≡ Err e
      → (length table ≢ 256 → e ≡ Layout BadTable) × (length table ≡ 256 → IsFault (λ x. cond t (section_of Scenario unplaced x) (Err (Layout BadTable))) text e)
  into_table true is h = (λ other. absurd (other (grind (arith, nat_tests))), λ full. decides_in Scenario unplaced text e h)
  into_table false is h = (λ other. cc, λ full. absurd (grind (arith, nat_tests)))

pub decides : (table text : List ℕ) → FirstFaultDecides table text
decides table text e h = let t = into_table table text e (length table == 256) refl h in record { bad_table = t.0; of_text = t.1 }

-- ---- in two texts

file_err : {P : Type 0} (f : File) (r : Result Read Fault) (e : FileFault) → in_file f r ≡ Err e → ((x : Fault) → r ≡ Err x → record { file = f; fault = x } ≡ e → P) → P
file_err f (Ok x) e h bad = absurd (cc)
file_err f (Err x) e h bad = bad x refl (cc)

pub pair_decides : (placement schedule : List ℕ) → PairFirstFaultDecides placement schedule
pair_decides placement schedule e h =
    then_err (in_file PlacementFile (section_of Placement unplaced placement)) (λ r. in_file ScheduleFile (section_of Schedule r.layout schedule)) e h
    (λ bad. file_err PlacementFile (section_of Placement unplaced placement) e bad (λ x is same.
    subst (λ (y : FileFault). IsPairFault placement schedule y.file y.fault) same (decides_in Placement unplaced placement x is)))
    (λ r good h'. file_err ScheduleFile (section_of Schedule r.layout schedule) e h' (λ x is same.
    subst (λ (y : FileFault). IsPairFault placement schedule y.file y.fault) same (r, file_ok PlacementFile _ r good, decides_in Schedule r.layout schedule x is)))
