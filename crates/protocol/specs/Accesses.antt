-- The block of an access.
use Rattle.std.specs.Prelude.{ℕ}
use Rattle.protocol.specs.declared.access.Access.{Access}
use Rattle.protocol.specs.declared.access.Access.TheVariants.{Read, Write}

abbrev pub block_of : Access → ℕ
block_of (Read n) = n
block_of (Write n) = n
