-- A text that is read is written as the format says.
use Rattle.std.proofs.Common.{◌≡◌, ℕ, ◌+◌, ◌≤◌, Bool, true, false, cond, ◌==◌, List, [], ◌∷◌, ◌++◌, map, length, slice_set, nat_lt, Ok, Err, sym, refl, ap, ◌∙◌, arith, append_assoc, append-nil}
use Rattle.std.proofs.lemmas.Bool.Decides.{nat_tests}
use Rattle.std.proofs.lemmas.Option.{slice_get_within}
use Rattle.std.proofs.lemmas.List.{length-set, length-replicate}
use Rattle.fields.specs.Parts.{parts}
use Rattle.fields.proofs.Cuts.{some}
use Rattle.protocol.specs.declared.call.Call.{Call}
use Rattle.protocol.specs.declared.weights.Prices.{Prices}
use Rattle.protocol.specs.Prices.{none}
use Rattle.records.specs.declared.keyword.Keyword.TheVariants.{Ref, Step as StepWord}
use Rattle.records.specs.declared.keyword.Verb.{Verb}
use Rattle.records.specs.declared.keyword.Verb.TheVariants.{Read as ReadVerb, Write, Commit, Flush, Fetch, Resume}
use Rattle.records.specs.declared.keyword.Section.{Section}
use Rattle.records.specs.declared.keyword.Section.TheVariants.{Scenario, Refs, Steps, Placement, Schedule}
use Rattle.records.specs.declared.fault.TextFault.TheVariants.{TooLong}
use Rattle.records.specs.Keywords.{allows}
use Rattle.scenario.specs.declared.change.Change.{Change}
use Rattle.scenario.specs.declared.change.Change.TheVariants.{Weigh, Lay, Make}
use Rattle.scenario.specs.declared.fault.Fault.TheVariants.{Text, Layout}
use Rattle.scenario.specs.declared.fault.LayoutFault.TheVariants.{BadTable}
use Rattle.scenario.specs.Changes.{line_change}
use Rattle.scenario.specs.Scan.{State, state, start, scan, ended, complete, changed_by, after_weights}
use Rattle.scenario.specs.Reading.{Read, a_read, read_of, section_of}
use Rattle.scenario.specs.declared.fault.File.TheVariants.{Placement as PlacementFile, Schedule as ScheduleFile}
use Rattle.scenario.specs.Texts.{unplaced, scenario_of, single_of, in_file}
use Rattle.report.specs.Lines.{Field, row, text_of, written as as_written}
use Rattle.report.proofs.Rows.{body}
use Rattle.round_trip.specs.Written.{Placing, Step, Writable, Placeable, Steppable, weights_fields, placing_fields, step_fields, step_fields_of, written, written_placement, written_schedule, placed, made_by}
use Rattle.round_trip.specs.Exactly.{IsWritten, Spells, ReadExactly, PairReadExactly}
use Rattle.round_trip.proofs.Cuts.{Cut, cut, uncut}
use Rattle.round_trip.proofs.Meanings.{then_ok, file_ok, no_fault, IsStep, IsLine, line_is}
use Rattle.round_trip.proofs.Scans.{reads_back, pair_reads_back}

-- ---- lines

row_body : (fs : List (List ℕ)) → 1 ≤ length fs → row fs ≡ body fs ++ 10 ∷ []
row_body [] h = absurd (omega arith)
row_body (f ∷ []) h = refl
row_body (f ∷ g ∷ gs) h = ap (λ x. f ++ 9 ∷ x) (row_body (g ∷ gs) (omega arith)) ∙ sym (append_assoc f (9 ∷ body (g ∷ gs)) (10 ∷ []))

-- a line that is these fields, and the rest of the text
line_first : (fs : List Field) (fss : List (List Field)) (bs p rest : List ℕ) → 1 ≤ length (map as_written fs) → bs ≡ p ++ 10 ∷ rest → p ≡ body (map as_written fs) → rest ≡ text_of fss
    → bs ≡ text_of (fs ∷ fss)
unfolding text_of
line_first fs fss bs p rest some e ep er =
    e ∙ ap (λ x. x ++ 10 ∷ rest) ep ∙ ap (λ x. body (map as_written fs) ++ 10 ∷ x) er
    ∙ sym (append_assoc (body (map as_written fs)) (10 ∷ []) (text_of fss)) ∙ ap (λ x. x ++ text_of fss) (sym (row_body (map as_written fs) some))

some_fields : (v : Verb) (c r : ℕ) → 1 ≤ length (map as_written (step_fields_of v c r))
some_fields ReadVerb c r = omega arith
some_fields Write c r = omega arith
some_fields Commit c r = omega arith
some_fields Flush c r = omega arith
some_fields Fetch c r = omega arith
some_fields Resume c r = omega arith

no_more : (s : Section) (line : ℕ) (p : List ℕ) (u : Unit {0}) → ended s line p ≡ Ok u → p ≡ []
no_more s line [] u e = refl
no_more s line (b ∷ bs) u e = absurd (cc)

-- ---- steps

record AreSteps (w : Prices) (layout : List ℕ) (ks : List Call) (bs : List ℕ) (st : State) : Type 0 where
  steps : List Step
  steppable : Steppable layout steps
  bytes : bs ≡ text_of (map step_fields steps)
  read : read_of st ≡ a_read w layout (ks ++ map (made_by layout) steps)

-- a last line is empty
module _ (line : ℕ) (bs p : List ℕ) (now st : State) (one : parts 10 bs ≡ p ∷ []) (e : scan now line (p ∷ []) ≡ Ok st) where
  at_end : (bs ≡ []) × (now ≡ st) × (u : Unit {0}) × (complete now.section line ≡ Ok u)
  unfolding scan
  at_end = then_ok (ended now.section line p) (λ _. Ok now) st e (λ u h h'.
      let none = no_more now.section line p u h in
      ((uncut 10 bs p one).0 ∙ none, cc, u, ap (ended now.section line) (sym none) ∙ h))

-- another line changes something, and the next are read
module _ {P : Type 0} (line : ℕ) (p q : List ℕ) (qs : List (List ℕ)) (now st : State) (e : scan now line (p ∷ q ∷ qs) ≡ Ok st)
    (full : length now.layout ≡ 256) (h : (c : Change) → IsLine now.layout now.section p c → scan (changed_by now c) (line + 1) (q ∷ qs) ≡ Ok st → P) where
  at_line : P
  unfolding scan
  at_line = then_ok (line_change now.layout now.section line p) (λ c. scan (changed_by now c) (line + 1) (q ∷ qs)) st e (λ c ec e'. h c (line_is now.layout full now.section p line c ec) e')

module _ (w : Prices) (layout : List ℕ) where
  no_steps : (ks : List Call) (bs : List ℕ) (s : Section) (st : State) → bs ≡ [] → state w layout ks s ≡ st → AreSteps w layout ks bs st
  unfolding text_of
  no_steps ks bs s st e es = record { steps = []; steppable = tt; bytes = e; read = ap read_of (sym es) ∙ ap (a_read w layout) (sym (append-nil ks)) }

  a_step : (ks : List Call) (bs p : List ℕ) (ps : List (List ℕ)) (st : State) (s : Section) (k : Call) (c : Cut 10 bs p ps) → IsStep layout s p k → AreSteps w layout (ks ++ k ∷ []) c.rest st → AreSteps w layout ks bs st
  a_step ks bs p ps st s k c x more = record {
    steps = x.step ∷ more.steps;
    steppable = (x.core, x.named, more.steppable);
    bytes = line_first (step_fields x.step) (map step_fields more.steps) bs p c.rest (some_fields x.step.verb x.step.core x.step.reference) c.whole x.bytes more.bytes;
    read = more.read ∙ ap (a_read w layout) (append_assoc ks (k ∷ []) (map (made_by layout) more.steps) ∙ ap (λ (y : Call). ks ++ y ∷ map (made_by layout) more.steps) x.call);
  }

  module _ (full : length layout ≡ 256) where
    are_steps : (ps : List (List ℕ)) (ks : List Call) (line : ℕ) (bs : List ℕ) (st : State) → parts 10 bs ≡ ps → scan (state w layout ks Steps) line ps ≡ Ok st → AreSteps w layout ks bs st
    are_steps [] ks line bs st e h = absurd (omega (arith, some 10 bs, ap length e))
    are_steps (p ∷ []) ks line bs st e h = let z = at_end line bs p (state w layout ks Steps) st e h in no_steps ks bs Steps st z.0 z.1
    are_steps (p ∷ q ∷ qs) ks line bs st e h =
        let c = cut 10 bs p q qs e in
        at_line line p q qs (state w layout ks Steps) st h full (λ x is next.
        elim x as (λ x. IsLine layout Steps p x → scan (changed_by (state w layout ks Steps) x) (line + 1) (q ∷ qs) ≡ Ok st → AreSteps w layout ks bs st) [
          | Weigh w' ↦ λ is next. absurd (cc (is.0))
          | Lay r b ↦ λ is next. absurd (cc (is.0))
          | Make k ↦ λ is next. a_step ks bs p (q ∷ qs) st Steps k c is (are_steps (q ∷ qs) (ks ++ k ∷ []) (line + 1) c.rest st c.others next)
        ] is next)

-- ---- placings, and then steps

record AreRefs (w : Prices) (layout : List ℕ) (bs : List ℕ) (st : State) : Type 0 where
  placings : List Placing
  steps : List Step
  placeable : Placeable layout placings
  steppable : Steppable (placed layout placings) steps
  bytes : bs ≡ text_of (map placing_fields placings ++ map step_fields steps)
  read : read_of st ≡ a_read w (placed layout placings) (map (made_by (placed layout placings)) steps)

module _ (w : Prices) where
  only_steps : (layout bs : List ℕ) (st : State) → AreSteps w layout [] bs st → AreRefs w layout bs st
  unfolding placed
  only_steps layout bs st a = record { placings = []; steps = a.steps; placeable = tt; steppable = a.steppable; bytes = a.bytes; read = a.read }

  a_placing : (layout bs p : List ℕ) (ps : List (List ℕ)) (st : State) (r b : ℕ) (full : length layout ≡ 256) (c : Cut 10 bs p ps) → IsLine layout Refs p (Lay r b) → AreRefs w (slice_set layout r b) c.rest st → AreRefs w layout bs st
  unfolding placed
  a_placing layout bs p ps st r b full c x more = record {
    placings = record { reference = r; block = b } ∷ more.placings;
    steps = more.steps;
    placeable = (x.1, omega (arith, slice_get_within layout r 65536 x.1), x.2, more.placeable);
    steppable = more.steppable;
    bytes = line_first (placing_fields (record { reference = r; block = b })) (map placing_fields more.placings ++ map step_fields more.steps) bs p c.rest (omega arith) c.whole x.3 more.bytes;
    read = more.read;
  }

  are_refs : (ps : List (List ℕ)) (layout : List ℕ) (full : length layout ≡ 256) (line : ℕ) (bs : List ℕ) (st : State) → parts 10 bs ≡ ps → scan (state w layout [] Refs) line ps ≡ Ok st → AreRefs w layout bs st
  are_refs [] layout full line bs st e h = absurd (omega (arith, some 10 bs, ap length e))
  are_refs (p ∷ []) layout full line bs st e h = let z = at_end line bs p (state w layout [] Refs) st e h in only_steps layout bs st (no_steps w layout [] bs Refs st z.0 z.1)
  are_refs (p ∷ q ∷ qs) layout full line bs st e h =
      let c = cut 10 bs p q qs e in
      at_line line p q qs (state w layout [] Refs) st h full (λ x is next.
      elim x as (λ x. IsLine layout Refs p x → scan (changed_by (state w layout [] Refs) x) (line + 1) (q ∷ qs) ≡ Ok st → AreRefs w layout bs st) [
        | Weigh w' ↦ λ is next. absurd (cc (is.0))
        | Lay r b ↦ λ is next.
            a_placing layout bs p (q ∷ qs) st r b full c is (are_refs (q ∷ qs) (slice_set layout r b) (length-set layout r b ∙ full) (line + 1) c.rest st c.others next)
        | Make k ↦ λ is next. only_steps layout bs st (a_step w layout [] bs p (q ∷ qs) st Refs k c is (are_steps w layout full (q ∷ qs) (k ∷ []) (line + 1) c.rest st c.others next))
      ] is next)

-- ---- placings alone

record ArePlacings (layout : List ℕ) (bs : List ℕ) (st : State) : Type 0 where
  placings : List Placing
  placeable : Placeable layout placings
  bytes : bs ≡ text_of (map placing_fields placings)
  read : read_of st ≡ a_read none (placed layout placings) []

are_placings : (ps : List (List ℕ)) (layout : List ℕ) (full : length layout ≡ 256) (line : ℕ) (bs : List ℕ) (st : State) → parts 10 bs ≡ ps → scan (state none layout [] Placement) line ps ≡ Ok st → ArePlacings layout bs st
unfolding placed text_of
are_placings [] layout full line bs st e h = absurd (omega (arith, some 10 bs, ap length e))
are_placings (p ∷ []) layout full line bs st e h =
    let z = at_end line bs p (state none layout [] Placement) st e h in
    record { placings = []; placeable = tt; bytes = z.0; read = ap read_of (sym z.1) }
are_placings (p ∷ q ∷ qs) layout full line bs st e h =
    let c = cut 10 bs p q qs e in
    at_line line p q qs (state none layout [] Placement) st h full (λ x is next.
    elim x as (λ x. IsLine layout Placement p x → scan (changed_by (state none layout [] Placement) x) (line + 1) (q ∷ qs) ≡ Ok st → ArePlacings layout bs st) [
      | Weigh w' ↦ λ is next. absurd (cc (is.0))
      | Lay r b ↦ λ is next.
          let more = are_placings (q ∷ qs) (slice_set layout r b) (length-set layout r b ∙ full) (line + 1) c.rest st c.others next in record {
            placings = record { reference = r; block = b } ∷ more.placings;
            placeable = (is.1, omega (arith, slice_get_within layout r 65536 is.1), is.2, more.placeable);
            bytes = line_first (placing_fields (record { reference = r; block = b })) (map placing_fields more.placings) bs p c.rest (omega arith) c.whole is.3 more.bytes;
            read = more.read;
          }
      | Make k ↦ λ is next. absurd (cc (is.allowed))
    ] is next)

-- ---- weights, and then what follows them

-- a text that is read is not too long, and its lines are read
read_lines : (s : Section) (layout bs : List ℕ) (r : Read) → section_of s layout bs ≡ Ok r → (st : State) × (length bs ≤ 65536) × (scan (start s layout) 1 (parts 10 bs) ≡ Ok st) × (read_of st ≡ r)
unfolding section_of
read_lines s layout bs r e =
    then_ok (cond (nat_lt 65536 (length bs)) (Err (Text TooLong)) (scan (start s layout) 1 (parts 10 bs))) (λ st. Ok (read_of st)) r e (λ st h h'.
    let short = no_fault (nat_lt 65536 (length bs)) _ _ st h in
    (st, grind (arith, nat_tests, short.0), short.1, cc))

-- its first line is the weights, where a section asks for them
record AreWeighed (s : Section) (layout bs : List ℕ) (st : State) : Type 0 where
  weights : Prices
  writable : Writable weights
  rest : List ℕ
  bytes : (fss : List (List Field)) → rest ≡ text_of fss → bs ≡ text_of (weights_fields weights ∷ fss)
  next : scan (state weights layout [] (after_weights s)) 2 (parts 10 rest) ≡ Ok st

are_weighed : (s : Section) (layout : List ℕ) (full : length layout ≡ 256) (ps : List (List ℕ)) (bs : List ℕ) (st : State)
    → ((line : ℕ) (u : Unit {0}) → complete s line ≡ Ok u → ⊥) → (allows s Ref ≡ true → ⊥) → ((v : Verb) → allows s (StepWord v) ≡ true → ⊥)
    → parts 10 bs ≡ ps → scan (start s layout) 1 ps ≡ Ok st → AreWeighed s layout bs st
are_weighed s layout full [] bs st incomplete no_ref no_step e h = absurd (omega (arith, some 10 bs, ap length e))
are_weighed s layout full (p ∷ []) bs st incomplete no_ref no_step e h =
    let z = at_end 1 bs p (start s layout) st e h in absurd (incomplete 1 z.2 z.3)
are_weighed s layout full (p ∷ q ∷ qs) bs st incomplete no_ref no_step e h =
    let c = cut 10 bs p q qs e in
    at_line 1 p q qs (start s layout) st h full (λ x is next.
    elim x as (λ x. IsLine layout s p x → scan (changed_by (start s layout) x) 2 (q ∷ qs) ≡ Ok st → AreWeighed s layout bs st) [
      | Weigh w ↦ λ is next. record {
        weights = w;
        writable = is.1;
        rest = c.rest;
        bytes = λ fss e'. line_first (weights_fields w) fss bs p c.rest (omega arith) c.whole is.2 e';
        next = ap (scan (state w layout [] (after_weights s)) 2) c.others ∙ next;
      }
      | Lay r b ↦ λ is next. absurd (no_ref is.0)
      | Make k ↦ λ is next. absurd (no_step is.step.verb is.allowed)
    ] is next)

-- ---- the two theorems

unplaced_full : length unplaced ≡ 256
unplaced_full = length-replicate {A = ℕ} 256 65536

placed_full : (ps : List Placing) (layout : List ℕ) → length layout ≡ 256 → length (placed layout ps) ≡ 256
unfolding placed
placed_full [] layout full = full
placed_full (p ∷ ps) layout full = placed_full ps (slice_set layout p.reference p.block) (length-set layout p.reference p.block ∙ full)

in_one_text : (text : List ℕ) (r : Read) (st : State) (a : AreWeighed Scenario unplaced text st) → length text ≤ 65536 → AreRefs a.weights unplaced a.rest st → read_of st ≡ r
    → IsWritten (λ w ps ss. Spells text (written w ps ss)) r
in_one_text text r st a short b is = record {
  weights = a.weights;
  placings = b.placings;
  steps = b.steps;
  writable = a.writable;
  placeable = b.placeable;
  steppable = b.steppable;
  spelt = (a.bytes (map placing_fields b.placings ++ map step_fields b.steps) b.bytes, short);
  read = sym is ∙ b.read;
}

scenario_written : (text : List ℕ) (r : Read) → section_of Scenario unplaced text ≡ Ok r → IsWritten (λ w ps ss. Spells text (written w ps ss)) r
scenario_written text r e =
    let l = read_lines Scenario unplaced text r e in
    let a = are_weighed Scenario unplaced unplaced_full (parts 10 text) text l.0 (λ line u h. cc) (λ h. cc) (λ v h. cc) refl l.2 in
    in_one_text text r l.0 a l.1 (are_refs a.weights (parts 10 a.rest) unplaced unplaced_full 2 a.rest l.0 refl a.next) l.3

-- into a table of 256 entries, if at all
into_table : (t : Bool) (table text : List ℕ) (r : Read) → t ≡ (length table == 256) → cond t (section_of Scenario unplaced text) (Err (Layout BadTable)) ≡ Ok r → (length table ≡ 256) × (section_of Scenario unplaced text ≡ Ok r)
into_table true table text r is e = (grind (arith, nat_tests), e)
into_table false table text r is e = absurd (cc)

pub read_exactly : (table text : List ℕ) → ReadExactly table text
read_exactly table text = record {
  exactly = λ r. (
    λ e. let t = into_table _ table text r refl e in (t.0, scenario_written text r t.1),
    λ h.
        let x = h.1 in
        ap (scenario_of table) x.spelt.0
        ∙ reads_back x.weights x.placings x.steps table x.writable x.placeable x.steppable (omega (arith, x.spelt.1, ap length x.spelt.0)) h.0 ∙ ap Ok (sym x.read),
  );
}

-- ---- in two texts

in_two_texts : (placement schedule : List ℕ) (r : Read) (ps : List Placing) (st : State) (a : AreWeighed Schedule (placed unplaced ps) schedule st)
    → Placeable unplaced ps → Spells placement (written_placement ps) → length schedule ≤ 65536 → AreSteps a.weights (placed unplaced ps) [] a.rest st → read_of st ≡ r
    → IsWritten (λ w ps ss. Spells placement (written_placement ps) × Spells schedule (written_schedule w ss)) r
in_two_texts placement schedule r ps st a placeable spelt short b is = record {
  weights = a.weights;
  placings = ps;
  steps = b.steps;
  writable = a.writable;
  placeable = placeable;
  steppable = b.steppable;
  spelt = (spelt, (a.bytes (map step_fields b.steps) b.bytes, short));
  read = sym is ∙ b.read;
}

schedule_written : (placement schedule : List ℕ) (r : Read) (ps : List Placing) → Placeable unplaced ps → Spells placement (written_placement ps) → section_of Schedule (placed unplaced ps) schedule ≡ Ok r
    → IsWritten (λ w ps ss. Spells placement (written_placement ps) × Spells schedule (written_schedule w ss)) r
schedule_written placement schedule r ps placeable spelt e =
    let layout = placed unplaced ps in
    let full = placed_full ps unplaced unplaced_full in
    let l = read_lines Schedule layout schedule r e in
    let a = are_weighed Schedule layout full (parts 10 schedule) schedule l.0 (λ line u h. cc) (λ h. cc) (λ v h. cc) refl l.2 in
    in_two_texts placement schedule r ps l.0 a placeable spelt l.1 (are_steps a.weights layout full (parts 10 a.rest) [] 2 a.rest l.0 refl a.next) l.3

pair_written : (placement schedule : List ℕ) (r : Read) → single_of placement schedule ≡ Ok r
    → IsWritten (λ w ps ss. Spells placement (written_placement ps) × Spells schedule (written_schedule w ss)) r
pair_written placement schedule r e =
    then_ok (in_file PlacementFile (section_of Placement unplaced placement)) _ r e (λ q eq er.
    let l = read_lines Placement unplaced placement q (file_ok PlacementFile _ q eq) in
    let a = are_placings (parts 10 placement) unplaced unplaced_full 1 placement l.0 refl l.2 in
    let lies : q.layout ≡ placed unplaced a.placings = ap (λ (x : Read). x.layout) (sym l.3 ∙ a.read) in
    schedule_written placement schedule r a.placings a.placeable (a.bytes, l.1) (ap (λ x. section_of Schedule x schedule) (sym lies) ∙ file_ok ScheduleFile _ r er)
    )

pub pair_read_exactly : (placement schedule : List ℕ) → PairReadExactly placement schedule
pair_read_exactly placement schedule = record {
  exactly = λ r. (
    pair_written placement schedule r,
    λ x.
        let p = x.spelt.0 in
        let s = x.spelt.1 in
        (λ i. single_of (p.0 i) (s.0 i))
        ∙ pair_reads_back x.weights x.placings x.steps x.writable x.placeable x.steppable (omega (arith, p.1, ap length p.0)) (omega (arith, s.1, ap length s.0)) ∙ ap Ok (sym x.read),
  );
}
