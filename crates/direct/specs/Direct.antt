-- What a direct tier means.
use Rattle.std.specs.Prelude.{vec_items}
use Rattle.direct.specs.declared.direct.Direct.{Direct}
use Rattle.direct.specs.Lines.{direct}
use Rattle.tier.specs.Meaning.{TierMeaning}

abbrev pub direct_of : Direct → TierMeaning
direct_of d = direct (vec_items d.lines)
