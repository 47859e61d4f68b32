-- Playing and telling, one step after another.
use Rattle.std.proofs.Common.{◌≡◌, ℕ, ◌+◌, List, [], ◌∷◌, ◌++◌, Some, None, Ok, Err, Option, Result, OnOk, IsOk, IfSome, option_map, sym, refl, ap, ◌∙◌, subst, append_assoc, append-nil, arith}
use Rattle.std.specs.Io.KnownBytes.{Appends}
use Rattle.std.proofs.KnownBytes.{Appends-nil, Appends-trans}
use Rattle.protocol.specs.declared.call.Call.{Call}
use Rattle.memory.specs.Meaning.{MemoryMeaning}
use Rattle.row.specs.Cores.{CoreMeaning}
use Rattle.scenario.specs.declared.fault.Fault.{Fault}
use Rattle.scenario.specs.Reading.{Read}
use Rattle.study.specs.declared.quote.Quote.{Quote}
use Rattle.study.specs.Settling.{quote_of}
use Rattle.study.specs.declared.turn.Played.{Played}
use Rattle.study.specs.Run.{RunMeaning}
use Rattle.study.specs.Step.{step}
use Rattle.study.specs.Play.{played_of, played, history}
use Rattle.report.specs.Lines.{Field, line_of, text_of, fault_fields}
use Rattle.report.specs.Reading.{ReadsAs}
use Rattle.report.proofs.Reading.{reads_none, reads_both, text_of-append, text_of-one}
use Rattle.simulator.specs.Inner.{line_text}
use Rattle.simulator.specs.Report.{Form, in_full, line_if, turn_lines, study_lines, report_lines}

-- ---- what was written of some lines

pub appends_none : (c : Option (List ℕ)) → Appends c c []
appends_none c = Appends-nil c

pub on_both : {A E : Type 0} {P Q R : Type 0} (w w' : Result A E) → OnOk w P → OnOk w' (IsOk w × Q) → (P → Q → R) → OnOk w' R
on_both w (Err e) p q f = tt
on_both (Ok x) (Ok y) p q f = f p q.1
on_both (Err e) (Ok y) p q f = grind (arith, q.0)

pub on_one : {A E : Type 0} {P Q : Type 0} (w : Result A E) → OnOk w P → (P → Q) → OnOk w Q
on_one (Ok x) p f = f p
on_one (Err e) p f = tt

-- a line more
pub line_more : (a b c : Option (List ℕ)) (ls : List (List Field)) (fs : List Field) → Appends a b (text_of ls) → Appends b c (line_of fs) → Appends a c (text_of (ls ++ fs ∷ []))
line_more a b c ls fs g h = subst (Appends a c) (ap (λ t. text_of ls ++ t) (sym (text_of-one fs)) ∙ sym (text_of-append ls (fs ∷ []))) (Appends-trans a b c _ _ g h)

pub reads_more : (ls : List (List Field)) (fs : List Field) → ReadsAs (text_of ls) ls → ReadsAs (line_of fs) (fs ∷ []) → ReadsAs (text_of (ls ++ fs ∷ [])) (ls ++ fs ∷ [])
reads_more ls fs g h =
    subst (λ t. ReadsAs t (ls ++ fs ∷ [])) (ap (λ t. text_of ls ++ t) (sym (text_of-one fs)) ∙ sym (text_of-append ls (fs ∷ []))) (reads_both (text_of ls) (line_of fs) ls (fs ∷ []) g h)

-- perhaps a line more
line_if_more : (a b c : Option (List ℕ)) (ls : List (List Field)) (o : Option (List Field)) → Appends a b (text_of ls) → Appends b c (line_text (option_map line_of o)) → Appends a c (text_of (ls ++ line_if o))
line_if_more a b c ls None g h = subst (Appends a c) (append-nil (text_of ls) ∙ ap text_of (sym (append-nil ls))) (Appends-trans a b c _ _ g h)
line_if_more a b c ls (Some fs) g h = line_more a b c ls fs g h

reads_if_more : (ls : List (List Field)) (o : Option (List Field)) → ReadsAs (text_of ls) ls → IfSome o (λ fs. ReadsAs (line_of fs) (fs ∷ [])) → ReadsAs (text_of (ls ++ line_if o)) (ls ++ line_if o)
reads_if_more ls None g h = subst (λ l. ReadsAs (text_of l) l) (sym (append-nil ls)) g
reads_if_more ls (Some fs) g h = reads_more ls fs g h

-- ---- from the run r with the calls ks to come, where step n is the next, as from the run r₀ with the calls ks₀

pub record Told (f : Form) (r r₀ : RunMeaning) (ks ks₀ : List Call) (n : ℕ) : Type 0 where
  pub done : List (List Field)
  pub reads : ReadsAs (text_of done) done
  pub rest : done ++ turn_lines f n (history r ks) ≡ turn_lines f 1 (history r₀ ks₀)

pub told_none : (f : Form) (r : RunMeaning) (ks : List Call) (c : Option (List ℕ)) → (t : Told f r r ks ks 1) × Appends c c (text_of t.done)
unfolding text_of
told_none f r ks c = (record { done = []; reads = reads_none; rest = refl }, Appends-nil c)

module _ (r r' r₀ : RunMeaning) (k : Call) (ks ks' ks₀ : List Call) (next : ks ≡ k ∷ ks') (run : r' ≡ (step r k).run) where
  pub played_on : played r ks ≡ played r₀ ks₀ → played r' ks' ≡ played r₀ ks₀
  unfolding played
  played_on e = ap (λ x. played x ks') run ∙ sym (ap (played r) next) ∙ e

  module _ (f : Form) (n : ℕ) (p : Played) (is : p ≡ played_of r k) (t : Told f r r₀ ks ks₀ n) (plain : IfSome (f.turn n p) (λ fs. ReadsAs (line_of fs) (fs ∷ []))) where
    pub told_on : Told f r' r₀ ks' ks₀ (n + 1)
    unfolding history turn_lines
    told_on = record {
      done = t.done ++ line_if (f.turn n p);
      reads = reads_if_more t.done (f.turn n p) t.reads plain;
      rest = append_assoc t.done (line_if (f.turn n p)) (turn_lines f (n + 1) (history r' ks'))
          ∙ (λ j. t.done ++ (line_if (f.turn n (is j)) ++ turn_lines f (n + 1) (history (run j) ks')))
          ∙ ap (λ x. t.done ++ turn_lines f n (history r x)) (sym next)
          ∙ t.rest;
    }

    pub written_on : (c c' c₀ : Option (List ℕ)) (line : Option (List ℕ)) → line ≡ option_map line_of (f.turn n p)
        → Appends c₀ c (text_of t.done) → Appends c c' (line_text line) → Appends c₀ c' (text_of told_on.done)
    unfolding told_on
    written_on c c' c₀ line of g h = line_if_more c₀ c c' t.done (f.turn n p) g (subst (λ o. Appends c c' (line_text o)) of h)

module _ (r r₀ : RunMeaning) (ks ks₀ : List Call) (none : ks ≡ []) where
  pub played_all : played r ks ≡ played r₀ ks₀ → r ≡ played r₀ ks₀
  unfolding played
  played_all e = sym (ap (played r) none) ∙ e

  module _ (f : Form) (n : ℕ) (t : Told f r r₀ ks ks₀ n) where
    all : t.done ≡ turn_lines f 1 (history r₀ ks₀)
    unfolding history turn_lines
    all = sym (append-nil t.done) ∙ ap (λ x. t.done ++ turn_lines f n (history r x)) (sym none) ∙ t.rest

    pub told_all : ReadsAs (text_of (turn_lines f 1 (history r₀ ks₀))) (turn_lines f 1 (history r₀ ks₀))
    told_all = subst (λ ls. ReadsAs (text_of ls) ls) all t.reads

    pub written_all : (c c₀ : Option (List ℕ)) → Appends c₀ c (text_of t.done) → Appends c₀ c (text_of (turn_lines f 1 (history r₀ ks₀)))
    written_all c c₀ g = subst (λ ls. Appends c₀ c (text_of ls)) all g

-- ---- a whole report

module _ (f : Form) (o : Result RunMeaning Fault) (ks : List Call) where
  module _ (r : RunMeaning) (is : Ok r ≡ o) (q : Quote) (quote : q ≡ quote_of (played r ks).tally) (line : List ℕ) (of : line ≡ line_of (f.quote q)) where
    pub study_told : {E : Type 0} (w w' : Result (Unit {0}) E) (a b c : Option (List ℕ)) → OnOk w (Appends a b (text_of (turn_lines f 1 (history r ks)))) → OnOk w' (IsOk w × Appends b c line)
        → OnOk w' (Appends a c (text_of (study_lines f o ks)))
    study_told w w' a b c g h =
        subst (λ x. OnOk w' (Appends a c (text_of (study_lines f x ks)))) is
        (subst (λ x. OnOk w' (Appends a c (text_of (turn_lines f 1 (history r ks) ++ f.quote x ∷ [])))) quote
        (on_both w w' g h (λ x y. line_more a b c _ (f.quote q) x (subst (Appends b c) of y))))

    pub study_reads : ReadsAs (text_of (turn_lines f 1 (history r ks))) (turn_lines f 1 (history r ks)) → ReadsAs line (f.quote q ∷ []) → ReadsAs (text_of (study_lines f o ks)) (study_lines f o ks)
    study_reads g h =
        subst (λ x. ReadsAs (text_of (study_lines f x ks)) (study_lines f x ks)) is
        (subst (λ x. ReadsAs (text_of (turn_lines f 1 (history r ks) ++ f.quote x ∷ [])) (turn_lines f 1 (history r ks) ++ f.quote x ∷ [])) quote
        (reads_more _ (f.quote q) g (subst (λ t. ReadsAs t (f.quote q ∷ [])) of h)))

  module _ (e : Fault) (is : Err e ≡ o) (line : List ℕ) (of : line ≡ line_of (f.fault e)) where
    pub fault_told : {E : Type 0} (P : Type 0) (w : Result (Unit {0}) E) (a c : Option (List ℕ)) → OnOk w (P × Appends a c line) → OnOk w (Appends a c (text_of (study_lines f o ks)))
    fault_told P w a c h =
        subst (λ x. OnOk w (Appends a c (text_of (study_lines f x ks)))) is
        (on_one w h (λ x. subst (Appends a c) (of ∙ sym (text_of-one (f.fault e))) x.1))

    pub fault_reads : ReadsAs line (f.fault e ∷ []) → ReadsAs (text_of (study_lines f o ks)) (study_lines f o ks)
    fault_reads h =
        subst (λ x. ReadsAs (text_of (study_lines f x ks)) (study_lines f x ks)) is
        (subst (λ t. ReadsAs t (f.fault e ∷ [])) (of ∙ sym (text_of-one (f.fault e))) h)

-- a text with a fault
module _ (r : Result Read Fault) (cs : List CoreMeaning) (m : MemoryMeaning) (e : Fault) (is : Err e ≡ r) (line : List ℕ) (of : line ≡ line_of (fault_fields e)) where
  pub unread_told : {E : Type 0} (P : Type 0) (w : Result (Unit {0}) E) (a c : Option (List ℕ)) → OnOk w (P × Appends a c line) → OnOk w (Appends a c (text_of (report_lines in_full r cs m)))
  unread_told P w a c h = subst (λ x. OnOk w (Appends a c (text_of (report_lines in_full x cs m)))) is (fault_told in_full (Err e) [] e refl line of P w a c h)

  pub unread_reads : ReadsAs line (fault_fields e ∷ []) → ReadsAs (text_of (report_lines in_full r cs m)) (report_lines in_full r cs m)
  unread_reads h = subst (λ x. ReadsAs (text_of (report_lines in_full x cs m)) (report_lines in_full x cs m)) is (fault_reads in_full (Err e) [] e refl line of h)
