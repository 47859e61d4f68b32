-- What is known of a text while it is read.
use Rattle.std.proofs.Common.{◌≡◌, ℕ, ◌+◌, ◌≤◌, List, [], ◌∷◌, ◌++◌, length, slice_set, Some, None, Ok, Err, Option, Result, sym, refl, ap, ◌∙◌, arith}
use Rattle.std.proofs.lemmas.List.{append_assoc, append-nil}
use Rattle.std.proofs.lemmas.Bool.Decides.{nat_tests}
use Rattle.fields.specs.Parts.{parts}
use Rattle.fields.proofs.Cuts.{some}
use Rattle.protocol.specs.declared.call.Call.{Call}
use Rattle.protocol.specs.declared.weights.Prices.{Prices}
use Rattle.records.specs.declared.fault.TextFault.{TextFault}
use Rattle.records.specs.declared.keyword.Keyword.{Keyword}
use Rattle.records.specs.declared.keyword.Keyword.TheVariants.{Weights, Ref, Step}
use Rattle.records.specs.declared.keyword.Verb.{Verb}
use Rattle.records.specs.declared.keyword.Verb.TheVariants.{Read, Write, Commit, Flush, Fetch, Resume}
use Rattle.records.specs.declared.keyword.Section.{Section}
use Rattle.records.specs.declared.keyword.Section.TheVariants.{Steps}
use Rattle.records.specs.Keywords.{keyword_of}
use Rattle.records.specs.Lines.{Located, line_of, record_of, worded}
use Rattle.scenario.specs.declared.change.Change.{Change}
use Rattle.scenario.specs.declared.change.Change.TheVariants.{Weigh, Lay, Make}
use Rattle.scenario.specs.declared.fault.Fault.{Fault}
use Rattle.scenario.specs.Changes.{and_then, as_text, step_of, changed, change_of, line_change}
use Rattle.scenario.specs.Scan.{State, state, start, scan, text_of, changed_by, ended, after_weights}
use Rattle.scenario.specs.Reading.{a_read, read_of, section_of}
use Rattle.scenario.specs.Steps.{made, calls_from}
use Rattle.scenario.proofs.Anywhere.{anywhere}
use Rattle.scenario.proofs.Calls.{calls_first, calls_last}

-- ---- in the section of steps a line makes a call

ok_then : {A B E : Type 0} (r : Result A E) (f : A → Result B E) (y : B) → Ok y ≡ and_then r f → (x : A) × (Ok x ≡ r) × (Ok y ≡ f x)
ok_then (Ok x) f y e = (x, refl, e)
ok_then (Err e') f y e = grind arith

makes : {A : Type 0} (r : Result A Fault) (f : A → Call) (c : Change) → Ok c ≡ and_then r (λ t. Ok (Make (f t))) → (k : Call) × (c ≡ Make k)
makes r f c e = let s = ok_then r (λ t. Ok (Make (f t))) c e in (f s.0, grind (arith, s.2))

step_makes : (layout : List ℕ) (v : Verb) (fs : List Located) (c : Change) → Ok c ≡ step_of layout v fs → (k : Call) × (c ≡ Make k)
step_makes layout Read fs c e = makes _ _ c e
step_makes layout Write fs c e = makes _ _ c e
step_makes layout Commit fs c e = makes _ _ c e
step_makes layout Flush fs c e = makes _ _ c e
step_makes layout Fetch fs c e = makes _ _ c e
step_makes layout Resume fs c e = makes _ _ c e

step_word : (line : ℕ) (w : Option Keyword) (ps : List (List ℕ)) (r : Keyword × List Located) → Ok r ≡ worded Steps line w ps → (v : Verb) × (r.0 ≡ Step v)
step_word line None ps r e = grind arith
step_word line (Some Weights) ps r e = grind arith
step_word line (Some Ref) ps r e = grind arith
step_word line (Some (Step v)) ps r e = (v, grind arith)

step_record : (line : ℕ) (ps : List (List ℕ)) (r : Keyword × List Located) → Ok r ≡ record_of Steps line ps → (v : Verb) × (r.0 ≡ Step v)
step_record line [] r e = grind arith
step_record line (p ∷ ps) r e = step_word line (keyword_of p) ps r e

step_line : (line : ℕ) (bs : List ℕ) (r : Keyword × List Located) → Ok r ≡ line_of Steps line bs → (v : Verb) × (r.0 ≡ Step v)
step_line line bs r e = step_record line (parts 9 bs) r (grind (arith, e))

text_then : {A B : Type 0} (r : Result A TextFault) (f : A → Result B Fault) (y : B) → Ok y ≡ and_then (as_text r) f → (x : A) × (Ok x ≡ r) × (Ok y ≡ f x)
text_then (Ok x) f y e = (x, refl, e)
text_then (Err e') f y e = grind arith

-- a line that makes no call stands before the steps
pub makes_call : (layout : List ℕ) (line : ℕ) (bs : List ℕ) (c : Change) → Ok c ≡ line_change layout Steps line bs → (k : Call) × (c ≡ Make k)
unfolding line_change
makes_call layout line bs c e =
    let t = text_then (line_of Steps line bs) (change_of layout) c e in
    let v = step_line line bs t.0 t.1 in
    step_makes layout v.0 t.0.1 c (t.2 ∙ ap (λ w. changed layout w t.0.1) v.1)

-- ---- what was read so far

pub record Sofar (first : Section) (table text : List ℕ) (w : Prices) (layout : List ℕ) (s : Section) (line : ℕ) (rest : List ℕ) (from : List ℕ) : Type 0 where
  pub calls : List Call
  -- reading on from here comes to what reading the whole comes to
  pub whole : scan (start first table) 1 (parts 10 text) ≡ scan (state w layout calls s) line (parts 10 rest)
  -- reading the steps again gives the calls so far, and then those to come
  pub again : calls_from layout (parts 10 from) ≡ calls ++ calls_from layout (parts 10 rest)
  pub none_yet : (s ≡ Steps → ⊥) → calls ≡ []

scan-on : (st : State) (line : ℕ) (p : List ℕ) (ps : List (List ℕ)) → 1 ≤ length ps → scan st line (p ∷ ps) ≡ and_then (line_change st.layout st.section line p) (λ c. scan (changed_by st c) (line + 1) ps)
unfolding scan
scan-on st line p [] h = absurd (omega arith)
scan-on st line p (q ∷ ps) h = refl

module _ (first : Section) (table text : List ℕ) (w : Prices) (layout : List ℕ) (s : Section) (line : ℕ) (rest from : List ℕ)
    (sofar : Sofar first table text w layout s line rest from) (bytes more : List ℕ) (cut : parts 10 rest ≡ bytes ∷ parts 10 more) where
  so : scan (start first table) 1 (parts 10 text) ≡ and_then (line_change layout s line bytes) (λ c. scan (changed_by (state w layout sofar.calls s) c) (line + 1) (parts 10 more))
  so = sofar.whole ∙ ap (scan (state w layout sofar.calls s) line) cut ∙ scan-on (state w layout sofar.calls s) line bytes (parts 10 more) (some 10 more)

  pub stops : (e : Fault) → Err e ≡ line_change layout s line bytes → scan (start first table) 1 (parts 10 text) ≡ Err e
  stops e h = so ∙ ap (λ r. and_then r (λ c. scan (changed_by (state w layout sofar.calls s) c) (line + 1) (parts 10 more))) (sym h)

  goes : (c : Change) → Ok c ≡ line_change layout s line bytes → scan (start first table) 1 (parts 10 text) ≡ scan (changed_by (state w layout sofar.calls s) c) (line + 1) (parts 10 more)
  goes c h = so ∙ ap (λ r. and_then r (λ c'. scan (changed_by (state w layout sofar.calls s) c') (line + 1) (parts 10 more))) (sym h)

  before_steps : (c : Change) → Ok c ≡ line_change layout s line bytes → ((k : Call) → c ≡ Make k → ⊥) → sofar.calls ≡ []
  before_steps c h other = sofar.none_yet (λ e. let m = makes_call layout line bytes c (h ∙ ap (λ x. line_change layout x line bytes) e) in other m.0 m.1)

  pub weighs : (w' : Prices) → Ok (Weigh w') ≡ line_change layout s line bytes
      → Sofar first table text w' layout (after_weights s) (line + 1) more more
  weighs w' h =
      let none = before_steps (Weigh w') h (λ k e. grind (arith, e)) in
      record { calls = []; whole = goes (Weigh w') h ∙ ap (λ ks. scan (state w' layout ks (after_weights s)) (line + 1) (parts 10 more)) none; again = refl; none_yet = λ _. refl }

  pub lays : (r b : ℕ) → Ok (Lay r b) ≡ line_change layout s line bytes
      → Sofar first table text w (slice_set layout r b) s (line + 1) more more
  lays r b h =
      let none = before_steps (Lay r b) h (λ k e. grind (arith, e)) in
      record { calls = []; whole = goes (Lay r b) h ∙ ap (λ ks. scan (state w (slice_set layout r b) ks s) (line + 1) (parts 10 more)) none; again = refl; none_yet = λ _. refl }

  pub acts : (k : Call) → Ok (Make k) ≡ line_change layout s line bytes
      → Sofar first table text w layout Steps (line + 1) more from
  acts k h =
      record {
        calls = sofar.calls ++ k ∷ [];
        whole = goes (Make k) h;
        again = sofar.again ∙ ap (λ ks. sofar.calls ++ ks) (calls_first layout rest bytes more cut k (ap made (anywhere layout s line bytes k h))) ∙ sym (append_assoc sofar.calls (k ∷ []) (calls_from layout (parts 10 more)));
        none_yet = λ n. absurd (n refl);
      }

module _ (first : Section) (table text : List ℕ) (w : Prices) (layout : List ℕ) (s : Section) (line : ℕ) (rest from : List ℕ)
    (sofar : Sofar first table text w layout s line rest from) (cut : parts 10 rest ≡ rest ∷ []) where
  at_end : scan (start first table) 1 (parts 10 text) ≡ and_then (ended s line rest) (λ _. Ok (state w layout sofar.calls s))
  unfolding scan
  at_end = sofar.whole ∙ ap (scan (state w layout sofar.calls s) line) cut

  all_calls : calls_from layout (parts 10 from) ≡ sofar.calls
  all_calls = sofar.again ∙ ap (λ ks. sofar.calls ++ ks) (calls_last layout rest cut) ∙ append-nil sofar.calls

  pub ends : (o : Result (Unit {0}) Fault) → o ≡ ended s line rest → o ≡ Ok tt
      → scan (start first table) 1 (parts 10 text) ≡ Ok (state w layout (calls_from layout (parts 10 from)) s)
  ends o e f = at_end ∙ ap (λ r. and_then r (λ _. Ok (state w layout sofar.calls s))) (sym e ∙ f) ∙ ap (λ ks. Ok (state w layout ks s)) (sym all_calls)

  pub ends_badly : (e : Fault) → Err e ≡ ended s line rest → scan (start first table) 1 (parts 10 text) ≡ Err e
  ends_badly e h = at_end ∙ ap (λ r. and_then r (λ _. Ok (state w layout sofar.calls s))) (sym h)

-- ---- what the reader answers

module _ (first : Section) (table text : List ℕ) (short : length text ≤ 65536) where
  as_scan : text_of first table text ≡ scan (start first table) 1 (parts 10 text)
  as_scan = grind (arith, nat_tests)

  pub reads_not : (e : Fault) → scan (start first table) 1 (parts 10 text) ≡ Err e → Err e ≡ section_of first table text
  unfolding section_of
  reads_not e h = sym (ap (λ r. and_then r (λ st. Ok (read_of st))) (as_scan ∙ h))

  pub reads : (w : Prices) (layout from : List ℕ) (s : Section) → scan (start first table) 1 (parts 10 text) ≡ Ok (state w layout (calls_from layout (parts 10 from)) s)
      → Ok (a_read w layout (calls_from layout (parts 10 from))) ≡ section_of first table text
  unfolding section_of
  reads w layout from s h = sym (ap (λ r. and_then r (λ st. Ok (read_of st))) (as_scan ∙ h))
