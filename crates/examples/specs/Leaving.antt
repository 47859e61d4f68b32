-- A study of two cores, each with two levels of two lines: a line that is hit at level 2 pushes a modified one out.
use Rattle.std.specs.Prelude.{ℕ, true, false, List, [], ◌∷◌, ◌++◌, take, replicate, Ok, Err, slice_set, codes}
use Rattle.memory.specs.declared.cell.Cell.{Cell}
use Rattle.memory.specs.declared.cell.State.TheVariants.{Valid, Stale}
use Rattle.tier.specs.Meaning.{TierMeaning}
use Rattle.tier.specs.Pile.{pile}
use Rattle.direct.specs.Lines.{direct, empty}
use Rattle.assoc.specs.Sets.{set_associative, empty as empty-sets}
use Rattle.protocol.specs.declared.access.CoreState.TheVariants.{Ready}
use Rattle.protocol.specs.declared.answer.Answer.TheVariants.{Waits, Brought, Read as WasRead, Wrote, Committed}
use Rattle.protocol.specs.declared.call.Call.{Call}
use Rattle.protocol.specs.declared.call.Call.TheVariants.{Read, Write, Fetch, Resume, Flush, Commit}
use Rattle.protocol.specs.declared.refusal.Refusal.TheVariants.{StaleBlock, NotOwed}
use Rattle.protocol.specs.declared.weights.Prices.{Prices}
use Rattle.protocol.specs.Prices.{prices}
use Rattle.row.specs.Cores.{CoreMeaning, core}
use Rattle.study.specs.declared.turn.Turn.{Turn}
use Rattle.study.specs.Run.{RunMeaning}
use Rattle.study.specs.Opening.{opened}
use Rattle.study.specs.Play.{played, calls_of}
use Rattle.examples.specs.Nine.{cell, blocks, turn}

-- one set of 2 ways, where touches count, on a direct tier of 2 lines: below, blocks 2 and 6 share a line, and so do 3 and 5
abbrev pub caches : TierMeaning
caches = pile (set_associative (empty-sets 1 2)) (direct (empty 2))

abbrev pub leaving_cores : List CoreMeaning
leaving_cores = core caches Ready ∷ core caches Ready ∷ []

-- no two are equal: 1 at level 1, 10 at level 2, 20 and 40 at levels that no core has, 100 to or from memory
abbrev pub leaving_weights : Prices
leaving_weights = prices 1 10 20 40 100

-- over the same 16 blocks as the nine calls
abbrev pub leaving_begun : ℕ → RunMeaning
leaving_begun a = opened leaving_cores (blocks a) leaving_weights

abbrev pub leaving : List Turn
leaving =
    -- core 0 asks to write block 2, and core 1 asks for it too; both have it brought
    turn (Write 0 2) (Ok (Waits 2)) 0
    ∷ turn (Fetch 0) (Ok (Brought 2)) 100
    ∷ turn (Write 1 2) (Ok (Waits 2)) 100
    ∷ turn (Fetch 1) (Ok (Brought 2)) 200
    -- core 0 writes it: core 1 loses its copy between fetch and resume
    ∷ turn (Resume 0) (Ok (Wrote 1)) 201
    -- core 1 is due, and not waiting: no flush is owed
    ∷ turn (Flush 0 2) (Err NotOwed) 201
    -- its copy is lost, so it writes nothing and waits again; and memory has no valid copy
    ∷ turn (Resume 1) (Ok (Waits 2)) 201
    ∷ turn (Fetch 1) (Err StaleBlock) 201
    -- core 0 has further blocks brought: 2 sinks to level 2 for 5, and 3 for 6
    ∷ turn (Write 0 3) (Ok (Waits 3)) 201
    ∷ turn (Fetch 0) (Ok (Brought 3)) 301
    ∷ turn (Resume 0) (Ok (Wrote 2)) 302
    ∷ turn (Read 0 5) (Ok (Waits 5)) 302
    ∷ turn (Fetch 0) (Ok (Brought 5)) 402
    ∷ turn (Resume 0) (Ok (WasRead 0)) 403
    ∷ turn (Write 0 6) (Ok (Waits 6)) 403
    ∷ turn (Fetch 0) (Ok (Brought 6)) 503
    ∷ turn (Resume 0) (Ok (Wrote 3)) 504
    -- 5 is touched, so 6 is now the one used longest ago
    ∷ turn (Read 0 5) (Ok (WasRead 0)) 505
    -- a commit stores 6, which is shared then, and a second has nothing to store; neither is a use, so 6 stays the one
    ∷ turn (Commit 0 6) (Ok (Committed true)) 605
    ∷ turn (Commit 0 6) (Ok (Committed false)) 605
    -- 3 is hit at level 2, for 10: 6 sinks for it, to the line of 2, which leaves modified and is stored, for 100 more
    ∷ turn (Read 0 3) (Ok (WasRead 2)) 715
    -- 3 kept its mark and stamp down and up again: there is a modified copy to store
    ∷ turn (Commit 0 3) (Ok (Committed true)) 815
    -- 2 is valid again, so core 1 has it brought, and writes it at last
    ∷ turn (Fetch 1) (Ok (Brought 2)) 915
    ∷ turn (Resume 1) (Ok (Wrote 4)) 916
    ∷ []

-- the scenario that asks for it, and its report: 7 accesses for 916, a mean of 130.857.., rounded down
abbrev pub leaving_text : List ℕ
leaving_text =
    codes "weights\t1\t10\t20\t40\t100\nref\t1\t2\nref\t2\t3\nref\t3\t5\nref\t4\t6\n"
    ++ codes "write\t0\t1\nfetch\t0\nwrite\t1\t1\nfetch\t1\nresume\t0\nflush\t0\t1\nresume\t1\nfetch\t1\n"
    ++ codes "write\t0\t2\nfetch\t0\nresume\t0\nread\t0\t3\nfetch\t0\nresume\t0\nwrite\t0\t4\nfetch\t0\nresume\t0\n"
    ++ codes "read\t0\t3\ncommit\t0\t4\ncommit\t0\t4\nread\t0\t2\ncommit\t0\t2\nfetch\t1\nresume\t1\n"

abbrev pub leaving_report_text : List ℕ
leaving_report_text =
    codes "1\twaits\t2\t0\n2\tbrought\t2\t100\n3\twaits\t2\t100\n4\tbrought\t2\t200\n5\twrote\t1\t201\n6\trefused\t9\t201\n7\twaits\t2\t201\n8\trefused\t8\t201\n"
    ++ codes "9\twaits\t3\t201\n10\tbrought\t3\t301\n11\twrote\t2\t302\n12\twaits\t5\t302\n13\tbrought\t5\t402\n14\tread\t0\t403\n15\twaits\t6\t403\n16\tbrought\t6\t503\n17\twrote\t3\t504\n"
    ++ codes "18\tread\t0\t505\n19\tcommitted\t1\t605\n20\tcommitted\t0\t605\n21\tread\t2\t715\n22\tcommitted\t1\t815\n23\tbrought\t2\t915\n24\twrote\t4\t916\n"
    ++ codes "quote\t7\t916\t13085\n"

-- where the references 1 to 4 lie
abbrev pub leaving_layout : List ℕ
leaving_layout = slice_set (slice_set (slice_set (slice_set (replicate 256 65536) 1 2) 2 3) 3 5) 4 6

-- the run after the calls
abbrev pub leaving_over : ℕ → RunMeaning
leaving_over a = played (leaving_begun a) (calls_of leaving)

-- block 2 was stored as it left, with stamp 1, and is stale since core 1 wrote it; 3 and 6 were committed
abbrev pub leaving_table : List Cell
leaving_table = slice_set (slice_set (slice_set (replicate 16 (cell Valid 0)) 2 (cell Stale 1)) 3 (cell Valid 2)) 6 (cell Valid 3)

-- the calls up to the hit at level 2, but without the touch of 5: then 5 sinks for 3, to the line that 3 has left, and nothing leaves
abbrev pub untouched : List Call
untouched = take 17 (calls_of leaving) ++ Commit 0 6 ∷ Commit 0 6 ∷ []
