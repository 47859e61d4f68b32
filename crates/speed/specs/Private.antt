-- What private functions say of the rows that they build.
use Rattle.std.specs.Prelude.{◌≡◌, IfOk, Result, List, [], ◌∷◌, ◌++◌}
use Rattle.tier.specs.declared.pile.Pile.{Pile}
use Rattle.tier.specs.Meaning.{TierMeaning}
use Rattle.tier.specs.Pile.{pile}
use Rattle.direct.specs.declared.direct.Direct.{Direct}
use Rattle.direct.specs.Direct.{direct_of}
use Rattle.assoc.specs.declared.set_associative.SetAssociative.{SetAssociative}
use Rattle.assoc.specs.SetAssociative.{meaning_of}
use Rattle.row.specs.declared.one_core.Core.{Core}
use Rattle.row.specs.Cores.{CoreMeaning, core}
use Rattle.pair.specs.declared.Pair.{Pair}

-- what caches of that shape mean: a direct tier on three set-associative ones
abbrev pub Caches : Type 0
Caches = Pile Direct (Pile SetAssociative (Pile SetAssociative SetAssociative))

unfoldable pub caches_of : Caches → TierMeaning
caches_of p = pile (direct_of p.upper) (pile (meaning_of p.lower.upper) (pile (meaning_of p.lower.lower.upper) (meaning_of p.lower.lower.lower)))

-- a core with such caches, and two rows side by side
abbrev pub cores_of : Core Caches → List CoreMeaning
cores_of c = core (caches_of c.tier) c.state ∷ []

abbrev pub both : {R : Type 0} → (R → List CoreMeaning) → Pair R R → List CoreMeaning
both cores p = cores p.first ++ cores p.second

-- of two rows of the same cores that were made, a pair has these cores twice
abbrev pub Beside : {R E : Type 0} → (R → List CoreMeaning) → Result R E → Result R E → Result (Pair R R) E → Type 0
Beside cores first second made = (cs : List CoreMeaning) → IfOk first (λ r. cores r ≡ cs) → IfOk second (λ r. cores r ≡ cs) → IfOk made (λ p. both cores p ≡ cs ++ cs)
