-- An empty tier that is cleared stays as it is.
use Rattle.std.proofs.Common.{◌∙◌}
use Rattle.device.specs.Device.{after}
use Rattle.tier.specs.Meaning.{clear}
use Rattle.tier.specs.Pile.{pile}
use Rattle.machine.proofs.stack.Goals as goal

pub returns : goal.returns
returns c = c.new.ensures.cleared ∙ (λ i. pile (after (c.requires.upper_empty i) clear) (after (c.requires.lower_empty i) clear))
