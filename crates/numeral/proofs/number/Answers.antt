-- Numbers are read as they are written.
use Rattle.numeral.proofs.Decimals.{reads_decimals}
use Rattle.numeral.proofs.number.Goals as goal

pub returns-clause-law : goal.returns-clause-law
returns-clause-law c = reads_decimals _ c.read.result c.read.ensures
