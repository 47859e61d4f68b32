-- What a pile of the code means, by what its two tiers mean.
use Rattle.tier.specs.declared.pile.Pile.{Pile}
use Rattle.tier.specs.Meaning.{TierMeaning}
use Rattle.tier.specs.Pile.{pile}

abbrev pub pile_of : {U L : Type 0} → (U → TierMeaning) → (L → TierMeaning) → Pile U L → TierMeaning
pile_of upper lower p = pile (upper p.upper) (lower p.lower)
