-- What a ranked tier means.
use Rattle.std.specs.Prelude.{Bool, vec_items}
use Rattle.tier.specs.Meaning.{TierMeaning}
use Rattle.ranked.specs.declared.ranked.Ranked.{Ranked}
use Rattle.ranks.specs.Ranks.{ranked}

-- by whether the policy counts a touch as a use
abbrev pub ranked_of : {P : Type 0} → (P → Bool) → Ranked P → TierMeaning
ranked_of renewing r = ranked (renewing r.policy) r.ways (vec_items r.held)
