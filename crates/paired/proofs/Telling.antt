-- What is told of a pair.
use Rattle.std.proofs.Common.{◌≡◌, ℕ, List, [], ◌∷◌, ◌++◌, Err, Ok, Option, Result, OnOk, IsOk, sym, ap, ◌∙◌, subst, arith}
use Rattle.std.specs.Io.KnownBytes.{Appends}
use Rattle.std.proofs.KnownBytes.{Appends-trans}
use Rattle.memory.specs.Meaning.{MemoryMeaning}
use Rattle.row.specs.Cores.{CoreMeaning}
use Rattle.scenario.specs.declared.fault.FileFault.{FileFault}
use Rattle.scenario.specs.Texts.{single_of}
use Rattle.report.specs.declared.paired_lines.Side.{Side}
use Rattle.report.specs.Lines.{Field, line_of, text_of}
use Rattle.report.specs.Pairs.{side_fault_fields}
use Rattle.report.specs.Reading.{ReadsAs}
use Rattle.report.proofs.Reading.{reads_both, text_of-append, text_of-one}
use Rattle.simulator.proofs.Playing.{line_more, reads_more, on_one}
use Rattle.simulator.specs.Simulation.{schedule_of}
use Rattle.paired.specs.Single.{single_study_of, side_lines, side_study_lines}

-- a side with a fault of one of its files
module _ (s : Side) (p b : List ℕ) (cs : List CoreMeaning) (m : MemoryMeaning) (e : FileFault) (is : Err e ≡ single_of p b) (line : List ℕ) (of : line ≡ line_of (side_fault_fields s e.file e.fault)) where
  lines : side_fault_fields s e.file e.fault ∷ [] ≡ side_lines s p b cs m
  lines = ap (λ r. side_study_lines s (single_study_of r cs m) (schedule_of r)) is

  pub side_told : {E : Type 0} (w : Result (Unit {0}) E) (a c : Option (List ℕ)) → OnOk w (Appends a c line) → OnOk w (Appends a c (text_of (side_lines s p b cs m)))
  side_told w a c h = on_one w h (subst (Appends a c) (of ∙ sym (text_of-one (side_fault_fields s e.file e.fault)) ∙ ap text_of lines))

  pub side_reads : ReadsAs line (side_fault_fields s e.file e.fault ∷ []) → ReadsAs (text_of (side_lines s p b cs m)) (side_lines s p b cs m)
  side_reads h = subst (λ ls. ReadsAs (text_of ls) ls) lines (subst (λ t. ReadsAs t (side_fault_fields s e.file e.fault ∷ [])) (of ∙ sym (text_of-one (side_fault_fields s e.file e.fault))) h)

-- both sides, and a line after them
module _ (ls ls' : List (List Field)) (fs : List Field) (line : List ℕ) (of : line ≡ line_of fs) where
  after_both : {E : Type 0} {P Q : Type 0} (w w' w'' : Result (Unit {0}) E) → OnOk w P → OnOk w' Q → {R S : Type 0} → OnOk w'' (IsOk w × IsOk w' × R) → (P → Q → R → S) → OnOk w'' S
  after_both w w' (Err e) p q r f = tt
  after_both (Ok x) (Ok y) (Ok z) p q r f = f p q r.2
  after_both (Err e) w' (Ok z) p q r f = grind (arith, r.0)
  after_both (Ok x) (Err e) (Ok z) p q r f = grind (arith, r.1)

  pub both_told : {E : Type 0} (w w' w'' : Result (Unit {0}) E) (a b c d : Option (List ℕ)) → OnOk w (Appends a b (text_of ls)) → OnOk w' (Appends b c (text_of ls'))
      → OnOk w'' (IsOk w × IsOk w' × Appends c d line) → OnOk w'' (Appends a d (text_of (ls ++ (ls' ++ fs ∷ []))))
  both_told w w' w'' a b c d g h l =
      after_both w w' w'' g h l (λ x y z.
      subst (Appends a d) (sym (text_of-append ls (ls' ++ fs ∷ []))) (Appends-trans a b d _ _ x (line_more b c d ls' fs y (subst (Appends c d) of z))))

  pub both_read : ReadsAs (text_of ls) ls → ReadsAs (text_of ls') ls' → ReadsAs line (fs ∷ []) → ReadsAs (text_of (ls ++ (ls' ++ fs ∷ []))) (ls ++ (ls' ++ fs ∷ []))
  both_read g h l =
      subst (λ t. ReadsAs t (ls ++ (ls' ++ fs ∷ []))) (sym (text_of-append ls (ls' ++ fs ∷ [])))
      (reads_both (text_of ls) (text_of (ls' ++ fs ∷ [])) ls (ls' ++ fs ∷ []) g (reads_more ls' fs h (subst (λ t. ReadsAs t (fs ∷ [])) of l)))
