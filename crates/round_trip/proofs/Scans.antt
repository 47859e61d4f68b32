-- A text that was written is read line after line.
use Rattle.std.proofs.Common.{◌≡◌, ℕ, ◌+◌, ◌≤◌, Bool, true, false, cond, List, [], ◌∷◌, ◌++◌, map, length, slice_set, nat_lt, ◌==◌, Ok, Err, sym, refl, ap, ◌∙◌, arith, append_assoc, append-nil}
use Rattle.std.proofs.lemmas.Bool.Decides.{nat_tests}
use Rattle.fields.specs.Parts.{parts}
use Rattle.fields.proofs.Cuts.{some}
use Rattle.protocol.specs.declared.call.Call.{Call}
use Rattle.protocol.specs.declared.weights.Prices.{Prices}
use Rattle.protocol.specs.Prices.{none}
use Rattle.records.specs.declared.fault.TextFault.TheVariants.{TooLong}
use Rattle.records.specs.declared.keyword.Section.{Section}
use Rattle.records.specs.declared.keyword.Section.TheVariants.{Scenario, Refs, Steps, Placement, Schedule}
use Rattle.scenario.specs.declared.change.Change.{Change}
use Rattle.scenario.specs.declared.fault.Fault.TheVariants.{Text, Layout}
use Rattle.scenario.specs.declared.fault.LayoutFault.TheVariants.{BadTable}
use Rattle.scenario.specs.Changes.{and_then, line_change}
use Rattle.scenario.specs.Scan.{State, state, start, scan, changed_by}
use Rattle.scenario.specs.Reading.{a_read, read_of, section_of}
use Rattle.scenario.specs.declared.fault.File.TheVariants.{Placement as PlacementFile, Schedule as ScheduleFile}
use Rattle.scenario.specs.Texts.{unplaced, scenario_of, single_of, in_file}
use Rattle.report.specs.Lines.{row, text_of, written as as_written}
use Rattle.round_trip.specs.Written.{Placing, Step, Writable, Placeable, Steppable, written_placement, written_schedule, weights_fields, placing_fields, step_fields, written, placed, made_by}
use Rattle.report.proofs.Rows.{Unparted, body, row_line}
use Rattle.round_trip.proofs.Changes.{weights_line, placing_line, step_line, may_step}

-- what a line that is not the last changes, and then the next
pub scan_on : (st : State) (line : ℕ) (p : List ℕ) (ps : List (List ℕ)) → 1 ≤ length ps → scan st line (p ∷ ps) ≡ and_then (line_change st.layout st.section line p) (λ c. scan (changed_by st c) (line + 1) ps)
unfolding scan
scan_on st line p [] h = absurd (omega arith)
scan_on st line p (q ∷ ps) h = refl

-- a line that was written, and that changes c
row_read : (st : State) (line : ℕ) (fs : List (List ℕ)) (rest : List ℕ) (c : Change) → Unparted fs → line_change st.layout st.section line (body fs) ≡ Ok c
    → scan st line (parts 10 (row fs ++ rest)) ≡ scan (changed_by st c) (line + 1) (parts 10 rest)
row_read st line fs rest c u e =
    ap (scan st line) (row_line fs rest u) ∙ scan_on st line (body fs) (parts 10 rest) (some 10 rest)
    ∙ ap (λ r. and_then r (λ c'. scan (changed_by st c') (line + 1) (parts 10 rest))) e

steps_read : (w : Prices) (layout : List ℕ) (ks : List Call) (o : Bool) (line : ℕ) (ss : List Step) → Steppable layout ss
    → (s : Section) × (scan (state w layout ks (may_step o)) line (parts 10 (text_of (map step_fields ss))) ≡ Ok (state w layout (ks ++ map (made_by layout) ss) s))
unfolding scan parts text_of
steps_read w layout ks true line [] h = (Refs, ap (λ x. Ok (state w layout x Refs)) (sym (append-nil ks)))
steps_read w layout ks false line [] h = (Steps, ap (λ x. Ok (state w layout x Steps)) (sym (append-nil ks)))
steps_read w layout ks o line (x ∷ ss) h =
    let l = step_line layout o line x.verb x.core x.reference h.0 h.1 in
    let k = made_by layout x in
    let more = steps_read w layout (ks ++ k ∷ []) false (line + 1) ss h.2 in (
      more.0,
      row_read (state w layout ks (may_step o)) line (map as_written (step_fields x)) (text_of (map step_fields ss)) _ l.0 l.1
          ∙ more.1 ∙ ap (λ y. Ok (state w layout y more.0)) (append_assoc ks (k ∷ []) (map (made_by layout) ss)),
    )

placings_read : (w : Prices) (layout : List ℕ) (line : ℕ) (ps : List Placing) (ss : List Step) → Placeable layout ps → Steppable (placed layout ps) ss
    → (s : Section) × (scan (state w layout [] Refs) line (parts 10 (text_of (map placing_fields ps ++ map step_fields ss))) ≡ Ok (state w (placed layout ps) (map (made_by (placed layout ps)) ss) s))
unfolding text_of placed
placings_read w layout line [] ss h g = steps_read w layout [] true line ss g
placings_read w layout line (p ∷ ps) ss h g =
    let l = placing_line layout true line p h.0 h.1 h.2 in
    let more = placings_read w (slice_set layout p.reference p.block) (line + 1) ps ss h.3 g in
    (more.0, row_read (state w layout [] Refs) line (map as_written (placing_fields p)) (text_of (map placing_fields ps ++ map step_fields ss)) _ l.0 l.1 ∙ more.1)

placement_read : (layout : List ℕ) (line : ℕ) (ps : List Placing) → Placeable layout ps
    → scan (state none layout [] Placement) line (parts 10 (text_of (map placing_fields ps))) ≡ Ok (state none (placed layout ps) [] Placement)
unfolding scan parts text_of placed
placement_read layout line [] h = refl
placement_read layout line (p ∷ ps) h =
    let l = placing_line layout false line p h.0 h.1 h.2 in
    row_read (state none layout [] Placement) line (map as_written (placing_fields p)) (text_of (map placing_fields ps)) _ l.0 l.1
    ∙ placement_read (slice_set layout p.reference p.block) (line + 1) ps h.3

-- a text that is not too long comes to what its lines come to
text_read : (first : Section) (layout text : List ℕ) (st : State) → length text ≤ 65536 → scan (start first layout) 1 (parts 10 text) ≡ Ok st → section_of first layout text ≡ Ok (read_of st)
unfolding section_of
text_read first layout text st short read =
    let fits : nat_lt 65536 (length text) ≡ false = grind (arith, nat_tests) in
    ap (λ b. and_then (cond b (Err (Text TooLong)) (scan (start first layout) 1 (parts 10 text))) (λ x. Ok (read_of x))) fits
    ∙ ap (λ r. and_then r (λ x. Ok (read_of x))) read

-- a scenario that is written so, and is not too long, is read as what was written
pub reads_back : (w : Prices) (ps : List Placing) (ss : List Step) (table : List ℕ) → Writable w → Placeable unplaced ps → Steppable (placed unplaced ps) ss
    → length (written w ps ss) ≤ 65536 → length table ≡ 256
    → scenario_of table (written w ps ss) ≡ Ok (a_read w (placed unplaced ps) (map (made_by (placed unplaced ps)) ss))
unfolding text_of
reads_back w ps ss table hw hp hs short full =
    let l = weights_line unplaced true 1 w hw in
    let more = placings_read w unplaced 2 ps ss hp hs in
    ap (λ n. cond (n == 256) (section_of Scenario unplaced (written w ps ss)) (Err (Layout BadTable))) full
    ∙ text_read Scenario unplaced (written w ps ss) _ short (row_read (start Scenario unplaced) 1 (map as_written (weights_fields w)) (text_of (map placing_fields ps ++ map step_fields ss)) _ l.0 l.1 ∙ more.1)

-- and so are a placement and a schedule
pub pair_reads_back : (w : Prices) (ps : List Placing) (ss : List Step) → Writable w → Placeable unplaced ps → Steppable (placed unplaced ps) ss
    → length (written_placement ps) ≤ 65536 → length (written_schedule w ss) ≤ 65536
    → single_of (written_placement ps) (written_schedule w ss) ≡ Ok (a_read w (placed unplaced ps) (map (made_by (placed unplaced ps)) ss))
unfolding text_of
pair_reads_back w ps ss hw hp hs short_p short_s =
    let layout = placed unplaced ps in
    let m = weights_line layout false 1 w hw in
    let more = steps_read w layout [] false 2 ss hs in
    ap (λ r. and_then (in_file PlacementFile r) (λ x. in_file ScheduleFile (section_of Schedule x.layout (written_schedule w ss))))
    (text_read Placement unplaced (written_placement ps) _ short_p (placement_read unplaced 1 ps hp))
    ∙ ap (in_file ScheduleFile) (text_read Schedule layout (written_schedule w ss) _ short_s (row_read (start Schedule layout) 1 (map as_written (weights_fields w)) (text_of (map step_fields ss)) _ m.0 m.1 ∙ more.1))
