-- The law of direct mapping, of the tier that was built.
use Rattle.device.specs.Device.{Always}
use Rattle.tier.proofs.Builds.{builds_made, within_low}
use Rattle.direct.specs.Direct.{direct_of}
use Rattle.direct.specs.Mapped.{DirectMapped}
use Rattle.direct.proofs.Mapped.{direct_mapped}
use Rattle.direct.proofs.direct.Direct.new.Goals as goal

pub returns-clause-law : goal.returns-clause-law
returns-clause-law c =
    let lines = c.args.lines in
    builds_made direct_of (Always (DirectMapped lines)) _ c.sized.result c.sized.ensures (λ e. direct_mapped lines (within_low 1 64 lines e))
