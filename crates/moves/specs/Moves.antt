-- How a block moves in one tier.
use Rattle.std.specs.Prelude.{ℕ, Bool, cond, Some, None, Ok, Err, Option, Result, ◌==◌}
use Rattle.device.specs.Device.{after}
use Rattle.parts.specs.declared.mark.Mark.{Mark}
use Rattle.parts.specs.declared.mark.Mark.TheVariants.{Modified}
use Rattle.parts.specs.declared.line.Line.{Line}
use Rattle.parts.specs.declared.refusal.Refusal.{Refusal}
use Rattle.parts.specs.Marks.{mark_number, mark_of}
use Rattle.tier.specs.Meaning.{TierMeaning, put, take, touch, Holding, put_answer}

-- the line that a put gives out; none where it is refused
abbrev pub given : Result (Option Line) Refusal → Option Line
given (Ok o) = o
given (Err e) = None

-- a block is taken and put again with its mark and stamp, and what that put gives out
abbrev pub put_back : TierMeaning → ℕ → Option Mark → ℕ → TierMeaning
put_back m n None s = after m (take n)
put_back m n (Some k) s = after (after m (take n)) (put n k s)

abbrev pub put_back_out : TierMeaning → ℕ → Option Mark → ℕ → Option Line
put_back_out m n None s = None
put_back_out m n (Some k) s = given (put_answer (after m (take n)) n k s)

-- a held block is brought up: touched at level 1, else put again
abbrev pub raised : TierMeaning → ℕ → Holding → TierMeaning
raised m n h = cond (h.2 == 1) (after m (touch n)) (put_back m n (mark_of h.0) h.1)

abbrev pub raised_out : TierMeaning → ℕ → Holding → Option Line
raised_out m n h = cond (h.2 == 1) None (put_back_out m n (mark_of h.0) h.1)

-- whether a copy is modified, and the stamp of one that is
abbrev pub is_modified : Holding → Bool
is_modified h = h.0 == mark_number Modified

abbrev pub modified_stamp : Option Holding → Option ℕ
modified_stamp None = None
modified_stamp (Some h) = cond (is_modified h) (Some h.1) None
