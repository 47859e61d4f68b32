-- Empty tiers that are cleared stay as they are.
use Rattle.std.proofs.Common.{◌∙◌}
use Rattle.device.specs.Device.{after}
use Rattle.tier.specs.Meaning.{clear}
use Rattle.tier.specs.Pile.{pile}
use Rattle.speed.specs.Eight.{four_levels}
use Rattle.speed.specs.Private.{caches_of}
use Rattle.speed.proofs.eight.stack.Goals as goal

pub returns : goal.returns
unfolding caches_of four_levels
returns c =
    let lowest = c.new.ensures.cleared ∙ (λ i. pile (after (c.requires.third i) clear) (after (c.requires.fourth i) clear)) in
    let lower = c.new-2.ensures.cleared ∙ (λ i. pile (after (c.requires.second i) clear) (after (lowest i) clear)) in
    c.new-3.ensures.cleared ∙ (λ i. pile (after (c.requires.first i) clear) (after (lower i) clear))
