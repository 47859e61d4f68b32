-- The law of least recent use, of the tier that was built.
use Rattle.std.proofs.Common.{true, arith}
use Rattle.std.proofs.lemmas.Bool.Decides.{nat_tests}
use Rattle.tier.proofs.Builds.{builds_made}
use Rattle.ranked.specs.Ages.{OldestLeaves}
use Rattle.assoc.specs.SetAssociative.{meaning_of}
use Rattle.assoc.proofs.SetAges.{oldest_leaves}
use Rattle.assoc.proofs.set_associative.SetAssociative.new.Goals as goal

pub returns-clause-law : goal.returns-clause-law
returns-clause-law c =
    let sets = c.args.sets in
    builds_made meaning_of (OldestLeaves true sets c.args.ways) _ c.sized.result c.sized.ensures (λ e. oldest_leaves sets c.args.ways (grind (arith, nat_tests)) (grind (arith, nat_tests)))
