-- What a set-associative tier means.
use Rattle.std.specs.Prelude.{vec_items}
use Rattle.tier.specs.Meaning.{TierMeaning}
use Rattle.assoc.specs.declared.set_associative.SetAssociative.{SetAssociative}
use Rattle.assoc.specs.Sets.{Sets, set_associative, lrus_of}

abbrev pub sets_of : SetAssociative → Sets
sets_of t = lrus_of (vec_items t.sets)

abbrev pub meaning_of : SetAssociative → TierMeaning
meaning_of t = set_associative (sets_of t)
