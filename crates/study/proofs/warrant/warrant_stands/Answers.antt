use Rattle.study.proofs.Warranty.{warrant}
use Rattle.study.proofs.warrant.warrant_stands.Goals as goal

pub returns-clause-stands : goal.returns-clause-stands
returns-clause-stands c = warrant
