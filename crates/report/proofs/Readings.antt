-- What the lines of a report read back as.
use Rattle.std.proofs.Common.{◌≡◌, ℕ, ◌^◌, ◌<◌, true, false, cond, ltb, List, [], ◌∷◌, ◌++◌, codes, Some, None, Option, IfSome, lit<, refl, sym, subst, arith}
use Rattle.protocol.specs.declared.answer.Word.{Word}
use Rattle.protocol.specs.declared.answer.Word.TheVariants.{Waits, Brought, Read, Wrote, Flushed, Committed, Refused}
use Rattle.protocol.specs.Answers.{spelling as word_spelling}
use Rattle.protocol.specs.declared.refusal.Refusal.{Refusal}
use Rattle.protocol.specs.declared.refusal.Refusal.TheVariants.{TooManyCores, NoBlocks, WeightTooHigh, TooManySteps, NoSuchCore, NoSuchBlock, WrongState, StaleBlock, NotOwed}
use Rattle.protocol.specs.Refusals.{refusal_number}
use Rattle.scenario.specs.declared.fault.Layer.{Layer}
use Rattle.scenario.specs.declared.fault.Layer.TheVariants.{Text as TextLayer, Layout as LayoutLayer, Study as StudyLayer}
use Rattle.scenario.specs.Faults.{spelling as layer_spelling}
use Rattle.report.specs.declared.paired_lines.Side.{Side}
use Rattle.report.specs.declared.paired_lines.Side.TheVariants.{A, B}
use Rattle.scenario.specs.declared.fault.File.{File}
use Rattle.scenario.specs.declared.fault.File.TheVariants.{Placement, Schedule}
use Rattle.scenario.specs.Faults.{file_spelling}
use Rattle.report.specs.Lines.{Field, Number, Text, written, line_of, figure_field}
use Rattle.report.specs.Pairs.{side_spelling, refusal_fields, cheaper, difference_fields}
use Rattle.report.specs.Reading.{number_after, field_of, ReadsAs}
use Rattle.report.proofs.Reading.{IsPlain, ArePlain, one_more, reads_line}

word : (w : Word) → IsPlain (Text (word_spelling w))
unfolding field_of number_after
word Waits = (refl, refl)
word Brought = (refl, refl)
word Read = (refl, refl)
word Wrote = (refl, refl)
word Flushed = (refl, refl)
word Committed = (refl, refl)
word Refused = (refl, refl)

layer : (l : Layer) → IsPlain (Text (layer_spelling l))
unfolding field_of number_after
layer TextLayer = (refl, refl)
layer LayoutLayer = (refl, refl)
layer StudyLayer = (refl, refl)

quote_word : IsPlain (Text (codes "quote"))
unfolding field_of number_after
quote_word = (refl, refl)

fault_word : IsPlain (Text (codes "fault"))
unfolding field_of number_after
fault_word = (refl, refl)

refused_word : IsPlain (Text (codes "refused"))
unfolding field_of number_after
refused_word = (refl, refl)

none_word : IsPlain (Text (codes "-"))
unfolding field_of number_after
none_word = (refl, refl)

side : (s : Side) → IsPlain (Text (side_spelling s))
unfolding field_of number_after
side A = (refl, refl)
side B = (refl, refl)

file : (f : File) → IsPlain (Text (file_spelling f))
unfolding field_of number_after
file Placement = (refl, refl)
file Schedule = (refl, refl)

difference_word : IsPlain (Text (codes "difference"))
unfolding field_of number_after
difference_word = (refl, refl)

cheaper_word : (a b : ℕ) → IsPlain (Text (cheaper a b))
unfolding field_of number_after
cheaper_word a b = elim (ltb a b) as (λ x. IsPlain (Text (cond x (codes "a") (cond (ltb b a) (codes "b") (codes "equal"))))) [ true ↦ (refl, refl) | false ↦ elim (ltb b a) as (λ y. IsPlain (Text (cond y (codes "b") (codes "equal")))) [ true ↦ (refl, refl) | false ↦ (refl, refl) ] ]

figure : (o : Option ℕ) → IfSome o (λ f. f < 2 ^ 64) → IsPlain (figure_field o)
figure None h = none_word
figure (Some f) h = h

reads : (line : List ℕ) (f : Field) (fs : List Field) → line ≡ line_of (f ∷ fs) → ArePlain (f ∷ fs) → ReadsAs line ((f ∷ fs) ∷ [])
reads line f fs e h = subst (λ l. ReadsAs l ((f ∷ fs) ∷ [])) (sym e) (reads_line f fs h)

longer : (line rest : List ℕ) (f : Field) (fs : List Field) → line ≡ written f ++ 9 ∷ rest → IsPlain f → ReadsAs rest (fs ∷ []) → ReadsAs line ((f ∷ fs) ∷ [])
longer line rest f fs e p h = subst (λ l. ReadsAs l ((f ∷ fs) ∷ [])) (sym e) (one_more f rest fs p h)

-- ---- a report

pub step : (line : List ℕ) (n : ℕ) (w : Word) (v t : ℕ) → line ≡ line_of (Number n ∷ Text (word_spelling w) ∷ Number v ∷ Number t ∷ []) → n < 2 ^ 64 → v < 2 ^ 64 → t < 2 ^ 64
    → ReadsAs line ((Number n ∷ Text (word_spelling w) ∷ Number v ∷ Number t ∷ []) ∷ [])
step line n w v t e hn hv ht = reads line _ _ e (hn, (word w, (hv, (ht, tt))))

pub quote : (line : List ℕ) (a t : ℕ) (o : Option ℕ) → line ≡ line_of (Text (codes "quote") ∷ Number a ∷ Number t ∷ figure_field o ∷ []) → a < 2 ^ 64 → t < 2 ^ 64 → IfSome o (λ f. f < 2 ^ 64)
    → ReadsAs line ((Text (codes "quote") ∷ Number a ∷ Number t ∷ figure_field o ∷ []) ∷ [])
quote line a t o e ha ht ho = reads line _ _ e (quote_word, (ha, (ht, (figure o ho, tt))))

pub told : (line : List ℕ) (l : Layer) (at f n : ℕ) → line ≡ line_of (Text (layer_spelling l) ∷ Number at ∷ Number f ∷ Number n ∷ []) → at < 2 ^ 64 → f < 2 ^ 64 → n < 2 ^ 64
    → ReadsAs line ((Text (layer_spelling l) ∷ Number at ∷ Number f ∷ Number n ∷ []) ∷ [])
told line l at f n e ha hf hn = reads line _ _ e (layer l, (ha, (hf, (hn, tt))))

pub fault : (line rest : List ℕ) (fs : List Field) → line ≡ codes "fault" ++ 9 ∷ rest → ReadsAs rest (fs ∷ []) → ReadsAs line ((Text (codes "fault") ∷ fs) ∷ [])
fault line rest fs e h = longer line rest (Text (codes "fault")) fs e fault_word h

-- ---- a paired study

small : (r : Refusal) → refusal_number r < 2 ^ 64
small TooManyCores = lit< tt
small NoBlocks = lit< tt
small WeightTooHigh = lit< tt
small TooManySteps = lit< tt
small NoSuchCore = lit< tt
small NoSuchBlock = lit< tt
small WrongState = lit< tt
small StaleBlock = lit< tt
small NotOwed = lit< tt

pub refusal : (line : List ℕ) (n : ℕ) (r : Refusal) → line ≡ line_of (refusal_fields n r) → n < 2 ^ 64 → ReadsAs line (refusal_fields n r ∷ [])
refusal line n r e h = reads line _ _ e (refused_word, (h, (small r, tt)))

pub side_line : (line rest : List ℕ) (s : Side) (fs : List Field) → line ≡ side_spelling s ++ 9 ∷ rest → ReadsAs rest (fs ∷ []) → ReadsAs line ((Text (side_spelling s) ∷ fs) ∷ [])
side_line line rest s fs e h = longer line rest (Text (side_spelling s)) fs e (side s) h

pub side_fault : (line rest : List ℕ) (s : Side) (f : File) (fs : List Field) → line ≡ side_spelling s ++ 9 ∷ (codes "fault" ++ 9 ∷ (file_spelling f ++ 9 ∷ rest)) → ReadsAs rest (fs ∷ [])
    → ReadsAs line ((Text (side_spelling s) ∷ Text (codes "fault") ∷ Text (file_spelling f) ∷ fs) ∷ [])
side_fault line rest s f fs e h =
    longer line _ (Text (side_spelling s)) _ e (side s) (one_more (Text (codes "fault")) _ _ fault_word (one_more (Text (file_spelling f)) rest fs (file f) h))

pub difference : (line : List ℕ) (a b : ℕ) → line ≡ line_of (difference_fields (Some a) (Some b)) → a < 2 ^ 64 → b < 2 ^ 64 → ReadsAs line (difference_fields (Some a) (Some b) ∷ [])
difference line a b e ha hb = reads line _ _ e (difference_word, (omega arith, (cheaper_word a b, tt)))

pub no_difference : (line : List ℕ) → line ≡ line_of (Text (codes "difference") ∷ Text (codes "-") ∷ Text (codes "-") ∷ [])
    → ReadsAs line ((Text (codes "difference") ∷ Text (codes "-") ∷ Text (codes "-") ∷ []) ∷ [])
no_difference line e = reads line _ _ e (difference_word, (none_word, (none_word, tt)))
