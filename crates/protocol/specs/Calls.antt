-- What a call names.
use Rattle.std.specs.Prelude.{ℕ, Bool, true, nat_lt}
use Rattle.protocol.specs.declared.call.Call.{Call}
use Rattle.protocol.specs.declared.call.Call.TheVariants.{Read, Write, Fetch, Resume, Flush, Commit}

abbrev pub core_of : Call → ℕ
core_of (Read c n) = c
core_of (Write c n) = c
core_of (Fetch c) = c
core_of (Resume c) = c
core_of (Flush c n) = c
core_of (Commit c n) = c

-- a memory of that size has the block that the call names, if it names one
abbrev pub fits_in : ℕ → Call → Bool
fits_in size (Read c n) = nat_lt n size
fits_in size (Write c n) = nat_lt n size
fits_in size (Flush c n) = nat_lt n size
fits_in size (Commit c n) = nat_lt n size
fits_in size _ = true
