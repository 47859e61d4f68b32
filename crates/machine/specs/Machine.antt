-- The machine that the programs simulate.
use Rattle.std.specs.Prelude.{List, [], ◌∷◌}
use Rattle.protocol.specs.declared.access.CoreState.TheVariants.{Ready}
use Rattle.tier.specs.declared.pile.Pile.{Pile}
use Rattle.tier.specs.Meaning.{TierMeaning}
use Rattle.tier.specs.Pile.{pile}
use Rattle.tier.specs.Piled.{pile_of}
use Rattle.direct.specs.declared.direct.Direct.{Direct}
use Rattle.direct.specs.Direct.{direct_of}
use Rattle.direct.specs.Lines.{direct, empty}
use Rattle.assoc.specs.declared.set_associative.SetAssociative.{SetAssociative}
use Rattle.assoc.specs.SetAssociative.{meaning_of}
use Rattle.assoc.specs.Sets.{set_associative, empty as empty-sets}
use Rattle.row.specs.declared.one_core.Core.{Core}
use Rattle.row.specs.Cores.{CoreMeaning, core}
use Rattle.pair.specs.declared.Pair.{Pair}

-- a direct tier of 2 lines on a set-associative tier of 2 sets of 2 ways, both empty
abbrev pub two_levels : TierMeaning
two_levels = pile (direct (empty 2)) (set_associative (empty-sets 2 2))

-- two ready cores with such caches
abbrev pub two_cores : List CoreMeaning
two_cores = core two_levels Ready ∷ core two_levels Ready ∷ []

-- what caches of that shape mean, and two cores with them
abbrev pub caches_of : Pile Direct SetAssociative → TierMeaning
caches_of = pile_of direct_of meaning_of

abbrev pub core_of : Core (Pile Direct SetAssociative) → CoreMeaning
core_of c = core (caches_of c.tier) c.state

abbrev pub cores_of : Pair (Core (Pile Direct SetAssociative)) (Core (Pile Direct SetAssociative)) → List CoreMeaning
cores_of p = core_of p.first ∷ core_of p.second ∷ []
