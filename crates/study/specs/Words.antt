-- What the words of a history tell.
use Rattle.std.specs.Prelude.{ℕ, ◌+◌, Bool, true, false, cond, List, [], ◌∷◌, Some, None, Option, Result}
use Rattle.protocol.specs.declared.answer.Answer.{Answer}
use Rattle.protocol.specs.declared.answer.Word.{Word}
use Rattle.protocol.specs.declared.answer.Word.TheVariants.{Read, Wrote, Refused}
use Rattle.protocol.specs.declared.refusal.Refusal.{Refusal}
use Rattle.protocol.specs.Answers.{word_of}
use Rattle.study.specs.declared.turn.Played.{Played}
use Rattle.study.specs.declared.turn.Turn.{Turn}

abbrev pub is_accepted : Word → Bool
is_accepted Refused = false
is_accepted _ = true

abbrev pub is_read : Word → Bool
is_read Read = true
is_read _ = false

abbrev pub is_wrote : Word → Bool
is_wrote Wrote = true
is_wrote _ = false

-- read or wrote
abbrev pub is_access : Word → Bool
is_access w = cond (is_read w) true (is_wrote w)

-- the answer of a turn that was played
abbrev pub answered : Option Played → Option (Result Answer Refusal)
answered None = None
answered (Some p) = Some p.answer

-- 1 for an answer that has such a word
abbrev pub one_if : (Word → Bool) → Option (Result Answer Refusal) → ℕ
one_if p None = 0
one_if p (Some a) = cond (p (word_of a)) 1 0

-- how many answers of a history have such a word
unfoldable pub counted : (Word → Bool) → List Turn → ℕ
counted p [] = 0
counted p (t ∷ ts) = one_if p (answered t.played) + counted p ts
