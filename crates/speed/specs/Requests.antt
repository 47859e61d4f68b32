-- What is passed to the library, and what is taken from it.
use Rattle.std.specs.Prelude.{cond, ◌==◌}
use Rattle.protocol.specs.declared.call.Call.{Call}
use Rattle.protocol.specs.declared.call.Call.TheVariants.{Read, Write, Fetch, Resume, Flush, Commit}
use Rattle.study.specs.declared.quote.Quote.{Quote}
use Rattle.speed.specs.declared.requests.Request.{Request}
use Rattle.speed.specs.declared.requests.Tally.{Tally}

-- the call that is asked for: kinds 0 to 4; every other kind is a commit
abbrev pub call_of : Request → Call
call_of q =
    cond (q.kind == 0) (Read q.core q.block)
    (cond (q.kind == 1) (Write q.core q.block)
    (cond (q.kind == 2) (Fetch q.core)
    (cond (q.kind == 3) (Resume q.core)
    (cond (q.kind == 4) (Flush q.core q.block) (Commit q.core q.block)))))

-- accesses and total of a study
abbrev pub tally_in : Quote → Tally
tally_in q = record { accesses = q.accesses; total = q.total }
