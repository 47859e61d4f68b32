-- What a free-running tier of the code means.
use Rattle.examples.specs.declared.free_running.FreeRunning.{FreeRunning}
use Rattle.examples.specs.FreeRunning.{TwoLines, two_lines, free_running}
use Rattle.tier.specs.Meaning.{TierMeaning}

abbrev pub lines_of : FreeRunning → TwoLines
lines_of f = two_lines f.first f.second f.second_leaves

abbrev pub free_of : FreeRunning → TierMeaning
free_of f = free_running (lines_of f)
