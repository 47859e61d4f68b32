-- What a cache line shows. A line holds a block with its mark and its stamp, the number of the write that the copy shows.
use Rattle.std.specs.Prelude.{ℕ}
use Rattle.parts.specs.declared.line.Line.{Line}
use Rattle.parts.specs.Marks.{mark_number}

-- the number of its mark, its stamp, and level 1, the only one of a tier of one level
abbrev pub shown_of : Line → ℕ × ℕ × ℕ
shown_of g = (mark_number g.mark, g.stamp, 1)
