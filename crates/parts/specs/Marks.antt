-- The mark of a copy: shared, or modified, which is newer than main memory. And the number of each.
use Rattle.std.specs.Prelude.{◌≡◌, ℕ, zero, suc, Some, None, Ok, Err, Option, Result}
use Rattle.parts.specs.declared.mark.Mark.{Mark}
use Rattle.parts.specs.declared.mark.Mark.TheVariants.{Shared, Modified}
use Rattle.parts.specs.declared.mark.UnknownMark.{UnknownMark}

abbrev pub mark_number : Mark → ℕ
mark_number Shared = 0
mark_number Modified = 1

abbrev pub mark_of : ℕ → Option Mark
mark_of zero = Some Shared
mark_of (suc zero) = Some Modified
mark_of (suc (suc n)) = None

-- the answer is the mark of the number, or an error with a number that has none
abbrev pub Reads : ℕ → Result Mark UnknownMark → Type 0
Reads n (Ok k) = mark_of n ≡ Some k
Reads n (Err e) = (mark_of n ≡ None) × (e.0 ≡ n)
