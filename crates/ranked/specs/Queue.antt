-- What a queue means.
use Rattle.std.specs.Prelude.{false}
use Rattle.tier.specs.Meaning.{TierMeaning}
use Rattle.ranked.specs.declared.policy.Fifo.{Fifo}
use Rattle.ranked.specs.declared.ranked.Ranked.{Ranked}
use Rattle.ranked.specs.Ranked.{ranked_of}

-- touches do not count
abbrev pub queue_of : Ranked Fifo → TierMeaning
queue_of = ranked_of (λ _. false)
