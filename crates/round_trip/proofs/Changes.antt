-- What the lines that were written change.
use Rattle.std.proofs.Common.{◌≡◌, ℕ, ◌+◌, ◌*◌, ◌<◌, ◌≤◌, Bool, true, false, List, [], ◌∷◌, map, length, get_or, slice_get, decimal, codes, nat_lt, Some, Ok, refl, ◌∙◌, arith}
use Rattle.std.proofs.lemmas.Bool.Decides.{nat_tests}
use Rattle.std.proofs.lemmas.Fmt.{length-decimal-le}
use Rattle.std.proofs.lemmas.List.{length-append}
use Rattle.numeral.specs.Number.{number_of}
use Rattle.numeral.proofs.Decimals.{reads_decimals}
use Rattle.protocol.specs.declared.weights.Prices.{Prices}
use Rattle.records.specs.declared.keyword.Verb.{Verb}
use Rattle.records.specs.declared.keyword.Verb.TheVariants.{Read, Write, Commit, Flush, Fetch, Resume}
use Rattle.records.specs.declared.keyword.Section.{Section}
use Rattle.records.specs.declared.keyword.Section.TheVariants.{Scenario, Refs, Steps, Placement, Schedule}
use Rattle.records.specs.Lines.{record_of}
use Rattle.scenario.specs.declared.change.Change.TheVariants.{Weigh, Lay, Make}
use Rattle.scenario.specs.Changes.{and_then, as_text, change_of, weights_of, line_change}
use Rattle.report.specs.Lines.{written as as_written}
use Rattle.report.proofs.Rows.{unparted, Unparted, decimal_unparted, body, fields}
use Rattle.round_trip.specs.Written.{Placing, Writable, weights_fields, placing_fields, step_fields_of, call_of, NamesPlaced}

number : (n : ℕ) → n < 65536 → unparted (decimal n) ≡ true
number n h = decimal_unparted n (omega arith)

read : (n : ℕ) → n < 65536 → number_of (decimal n) ≡ Ok n
read n h = (reads_decimals (decimal n) (number_of (decimal n)) refl n).1 refl h

-- five digits
short : (n : ℕ) → n < 65536 → length (decimal n) ≤ 5
short n h = length-decimal-le 5 n (omega arith) (omega arith) (omega arith)

below : (n : ℕ) → n < 65536 → nat_lt n 65536 ≡ true
below n h = grind (arith, nat_tests)

-- each field is at most seven bytes
abbrev Short : List (List ℕ) → Type 0
Short [] = Unit {0}
Short (f ∷ fs) = (length f ≤ 7) × Short fs

body_short : (f : List ℕ) (fs : List (List ℕ)) → Short (f ∷ fs) → length (body (f ∷ fs)) + 1 ≤ 8 * length (f ∷ fs)
body_short f [] h = omega (arith, h.0)
body_short f (g ∷ gs) h = omega (arith, h.0, body_short g gs h.1, length-append f (9 ∷ body (g ∷ gs)))

-- a line of at most six such fields is read field by field
of_fields : (layout : List ℕ) (s : Section) (line : ℕ) (f : List ℕ) (fs : List (List ℕ)) → Unparted (f ∷ fs) → Short (f ∷ fs) → length fs ≤ 5
    → line_change layout s line (body (f ∷ fs)) ≡ and_then (as_text (record_of s line (f ∷ fs))) (change_of layout)
unfolding line_change
of_fields layout s line f fs u h l =
    let small : length (body (f ∷ fs)) ≤ 80 = omega (arith, body_short f fs h) in
    let fits : nat_lt 80 (length (body (f ∷ fs))) ≡ false = grind (arith, nat_tests) in
    rw (fits, fields f fs u) refl

seven : (n : ℕ) → n < 65536 → length (decimal n) ≤ 7
seven n h = omega (arith, short n h)

-- ---- the three kinds of line

-- the sections in which weights, and in which placings may stand
abbrev pub may_weigh : Bool → Section
may_weigh true = Scenario
may_weigh false = Schedule

abbrev pub may_place : Bool → Section
may_place true = Refs
may_place false = Placement

module _ (w : Prices) (h : Writable w) where
  five : Unparted (map as_written (weights_fields w)) × Short (map as_written (weights_fields w))
  five = (
    (refl, (number w.w1 h.w1, (number w.w2 h.w2, (number w.w3 h.w3, (number w.w4 h.w4, (number w.wm h.wm, tt)))))),
    (omega arith, (seven w.w1 h.w1, (seven w.w2 h.w2, (seven w.w3 h.w3, (seven w.w4 h.w4, (seven w.wm h.wm, tt)))))),
  )

pub weights_line : (layout : List ℕ) (o : Bool) (line : ℕ) (w : Prices) → Writable w → Unparted (map as_written (weights_fields w)) × (line_change layout (may_weigh o) line (body (map as_written (weights_fields w))) ≡ Ok (Weigh w))
unfolding weights_of
weights_line layout true line w h =
    let p = five w h in
    (p.0, of_fields layout Scenario line (codes "weights") (decimal w.w1 ∷ decimal w.w2 ∷ decimal w.w3 ∷ decimal w.w4 ∷ decimal w.wm ∷ []) p.0 p.1 (omega arith) ∙ rw (read w.w1 h.w1, read w.w2 h.w2, read w.w3 h.w3, read w.w4 h.w4, read w.wm h.wm) refl)
weights_line layout false line w h =
    let p = five w h in
    (p.0, of_fields layout Schedule line (codes "weights") (decimal w.w1 ∷ decimal w.w2 ∷ decimal w.w3 ∷ decimal w.w4 ∷ decimal w.wm ∷ []) p.0 p.1 (omega arith) ∙ rw (read w.w1 h.w1, read w.w2 h.w2, read w.w3 h.w3, read w.w4 h.w4, read w.wm h.wm) refl)

module _ (p : Placing) (r : p.reference < 65536) (b : p.block < 65536) where
  pair : Unparted (map as_written (placing_fields p)) × Short (map as_written (placing_fields p))
  pair = ((refl, (number p.reference r, (number p.block b, tt))), (omega arith, (seven p.reference r, (seven p.block b, tt))))

pub placing_line : (layout : List ℕ) (o : Bool) (line : ℕ) (p : Placing) → slice_get layout p.reference ≡ Some 65536 → p.reference < 256 → p.block < 65536
    → Unparted (map as_written (placing_fields p)) × (line_change layout (may_place o) line (body (map as_written (placing_fields p))) ≡ Ok (Lay p.reference p.block))
placing_line layout true line p e r b =
    let q = pair p (omega arith) b in
    (q.0, of_fields layout Refs line (codes "ref") (decimal p.reference ∷ decimal p.block ∷ []) q.0 q.1 (omega arith) ∙ rw (read p.reference (omega arith), read p.block b, e) refl)
placing_line layout false line p e r b =
    let q = pair p (omega arith) b in
    (q.0, of_fields layout Placement line (codes "ref") (decimal p.reference ∷ decimal p.block ∷ []) q.0 q.1 (omega arith) ∙ rw (read p.reference (omega arith), read p.block b, e) refl)

-- the sections in which a step may stand
abbrev pub may_step : Bool → Section
may_step true = Refs
may_step false = Steps

module _ (layout : List ℕ) (line : ℕ) (c : ℕ) (h : c < 65536) where
  one : (f : List ℕ) → unparted f ≡ true → length f ≤ 7 → Unparted (f ∷ decimal c ∷ []) × Short (f ∷ decimal c ∷ [])
  one f u l = ((u, (number c h, tt)), (l, (seven c h, tt)))

  module _ (r : ℕ) (low : r < 256) (is : slice_get layout r ≡ Some (get_or layout r 0)) (lies : get_or layout r 0 < 65536) where
    two : (f : List ℕ) → unparted f ≡ true → length f ≤ 7 → Unparted (f ∷ decimal c ∷ decimal r ∷ []) × Short (f ∷ decimal c ∷ decimal r ∷ [])
    two f u l = ((u, (number c h, (number r (omega arith), tt))), (l, (seven c h, (seven r (omega arith), tt))))

pub step_line : (layout : List ℕ) (o : Bool) (line : ℕ) (v : Verb) (c r : ℕ) → c < 65536 → NamesPlaced layout v r
    → Unparted (map as_written (step_fields_of v c r)) × (line_change layout (may_step o) line (body (map as_written (step_fields_of v c r))) ≡ Ok (Make (call_of v c (get_or layout r 0))))
step_line layout true line Read c r h n =
    let p = two layout line c h r n.0 n.1 n.2 (codes "read") refl (omega arith) in
    (p.0, of_fields layout Refs line (codes "read") (decimal c ∷ decimal r ∷ []) p.0 p.1 (omega arith) ∙ rw (read c h, read r (omega arith), n.1, below (get_or layout r 0) n.2) refl)
step_line layout false line Read c r h n =
    let p = two layout line c h r n.0 n.1 n.2 (codes "read") refl (omega arith) in
    (p.0, of_fields layout Steps line (codes "read") (decimal c ∷ decimal r ∷ []) p.0 p.1 (omega arith) ∙ rw (read c h, read r (omega arith), n.1, below (get_or layout r 0) n.2) refl)
step_line layout true line Write c r h n =
    let p = two layout line c h r n.0 n.1 n.2 (codes "write") refl (omega arith) in
    (p.0, of_fields layout Refs line (codes "write") (decimal c ∷ decimal r ∷ []) p.0 p.1 (omega arith) ∙ rw (read c h, read r (omega arith), n.1, below (get_or layout r 0) n.2) refl)
step_line layout false line Write c r h n =
    let p = two layout line c h r n.0 n.1 n.2 (codes "write") refl (omega arith) in
    (p.0, of_fields layout Steps line (codes "write") (decimal c ∷ decimal r ∷ []) p.0 p.1 (omega arith) ∙ rw (read c h, read r (omega arith), n.1, below (get_or layout r 0) n.2) refl)
step_line layout true line Commit c r h n =
    let p = two layout line c h r n.0 n.1 n.2 (codes "commit") refl (omega arith) in
    (p.0, of_fields layout Refs line (codes "commit") (decimal c ∷ decimal r ∷ []) p.0 p.1 (omega arith) ∙ rw (read c h, read r (omega arith), n.1, below (get_or layout r 0) n.2) refl)
step_line layout false line Commit c r h n =
    let p = two layout line c h r n.0 n.1 n.2 (codes "commit") refl (omega arith) in
    (p.0, of_fields layout Steps line (codes "commit") (decimal c ∷ decimal r ∷ []) p.0 p.1 (omega arith) ∙ rw (read c h, read r (omega arith), n.1, below (get_or layout r 0) n.2) refl)
step_line layout true line Flush c r h n =
    let p = two layout line c h r n.0 n.1 n.2 (codes "flush") refl (omega arith) in
    (p.0, of_fields layout Refs line (codes "flush") (decimal c ∷ decimal r ∷ []) p.0 p.1 (omega arith) ∙ rw (read c h, read r (omega arith), n.1, below (get_or layout r 0) n.2) refl)
step_line layout false line Flush c r h n =
    let p = two layout line c h r n.0 n.1 n.2 (codes "flush") refl (omega arith) in
    (p.0, of_fields layout Steps line (codes "flush") (decimal c ∷ decimal r ∷ []) p.0 p.1 (omega arith) ∙ rw (read c h, read r (omega arith), n.1, below (get_or layout r 0) n.2) refl)
step_line layout true line Fetch c r h n =
    let p = one layout line c h (codes "fetch") refl (omega arith) in
    (p.0, of_fields layout Refs line (codes "fetch") (decimal c ∷ []) p.0 p.1 (omega arith) ∙ rw (read c h) refl)
step_line layout false line Fetch c r h n =
    let p = one layout line c h (codes "fetch") refl (omega arith) in
    (p.0, of_fields layout Steps line (codes "fetch") (decimal c ∷ []) p.0 p.1 (omega arith) ∙ rw (read c h) refl)
step_line layout true line Resume c r h n =
    let p = one layout line c h (codes "resume") refl (omega arith) in
    (p.0, of_fields layout Refs line (codes "resume") (decimal c ∷ []) p.0 p.1 (omega arith) ∙ rw (read c h) refl)
step_line layout false line Resume c r h n =
    let p = one layout line c h (codes "resume") refl (omega arith) in
    (p.0, of_fields layout Steps line (codes "resume") (decimal c ∷ []) p.0 p.1 (omega arith) ∙ rw (read c h) refl)
