-- Eight cores with caches of four levels.
use Rattle.std.specs.Prelude.{List, replicate}
use Rattle.protocol.specs.declared.access.CoreState.TheVariants.{Ready}
use Rattle.tier.specs.Meaning.{TierMeaning}
use Rattle.tier.specs.Pile.{pile}
use Rattle.direct.specs.Lines.{direct, empty}
use Rattle.assoc.specs.Sets.{set_associative, empty as empty-sets}
use Rattle.row.specs.Cores.{CoreMeaning, core}

-- 2 lines on 2 sets of 2 ways, on 4 sets of 4 ways, on 8 sets of 4 ways, all empty
unfoldable pub four_levels : TierMeaning
four_levels = pile (direct (empty 2)) (pile (set_associative (empty-sets 2 2)) (pile (set_associative (empty-sets 4 4)) (set_associative (empty-sets 8 4))))

-- eight ready cores with empty caches
abbrev pub eight_cores : List CoreMeaning
eight_cores = replicate 8 (core four_levels Ready)
