-- What a run tells of a fetch and of a flush before they are made.
use Rattle.std.specs.Prelude.{◌≡◌, ℕ, ◌<◌, is_some}
use Rattle.memory.specs.Meaning.{size_of}
use Rattle.protocol.specs.declared.call.Call.TheVariants.{Fetch, Flush}
use Rattle.protocol.specs.Answers.{word_of}
use Rattle.row.specs.Cores.{count_of}
use Rattle.study.specs.Run.{RunMeaning, most_steps}
use Rattle.study.specs.Step.{fetchable, owed, step}
use Rattle.study.specs.Words.{is_accepted}

-- where the run has room for a step, and there is core c, a fetch of it is accepted just where the core can fetch
abbrev pub FetchForetold : RunMeaning → ℕ → Type 0
FetchForetold r c = r.tally.steps < most_steps → c < count_of r.cores → is_accepted (word_of (step r (Fetch c)).answer) ≡ is_some (fetchable r c)

-- and where there is block n too, a flush of it is accepted just where core c owes it
abbrev pub FlushForetold : RunMeaning → ℕ → ℕ → Type 0
FlushForetold r c n = r.tally.steps < most_steps → c < count_of r.cores → n < size_of r.memory
    → is_accepted (word_of (step r (Flush c n)).answer) ≡ is_some (owed r c n)
