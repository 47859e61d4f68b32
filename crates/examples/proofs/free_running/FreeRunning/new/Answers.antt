-- The law of moving on, of the tier that was made.
use Rattle.std.proofs.Common.{sym, subst}
use Rattle.device.specs.Device.{Always}
use Rattle.examples.specs.MovesOn.{MovesOn}
use Rattle.examples.proofs.MovesOn.{moves-on}
use Rattle.examples.proofs.free_running.FreeRunning.new.Goals as goal

pub returns-clause-law : goal.returns-clause-law
returns-clause-law c = subst (Always MovesOn) (sym c.idle.ensures) moves-on
