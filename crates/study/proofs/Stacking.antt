-- A pile of two lawful tiers is lawful, and made of two cleared tiers it stays stacked of them.
use Rattle.std.proofs.Common.{refl}
use Rattle.device.specs.Device.{after}
use Rattle.tier.specs.Meaning.{clear}
use Rattle.tier.specs.Pile.{pile}
use Rattle.tier.specs.PileLaws.{pile-lawful}
use Rattle.tier.proofs.Stacks.{cleared_stacked}
use Rattle.study.specs.Warrant.{Piles}

pub piles : Piles
piles u l hu hl = (pile-lawful u l hu hl, cleared_stacked u l (pile (after u clear) (after l clear)) hu hl refl)
