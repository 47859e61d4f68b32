-- A study of nine calls on two cores that share 16 blocks.
use Rattle.std.specs.Prelude.{ℕ, List, [], ◌∷◌, replicate, Some, Ok, Err, Result, slice_set, codes}
use Rattle.memory.specs.declared.cell.Cell.{Cell}
use Rattle.memory.specs.declared.cell.State.{State}
use Rattle.memory.specs.declared.cell.State.TheVariants.{Valid, Stale}
use Rattle.memory.specs.Meaning.{MemoryMeaning}
use Rattle.memory.specs.Flat.{flat}
use Rattle.protocol.specs.declared.answer.Answer.{Answer}
use Rattle.protocol.specs.declared.answer.Answer.TheVariants.{Waits, Brought, Read as WasRead, Wrote, Flushed}
use Rattle.protocol.specs.declared.call.Call.{Call}
use Rattle.protocol.specs.declared.call.Call.TheVariants.{Read, Write, Fetch, Resume, Flush}
use Rattle.protocol.specs.declared.refusal.Refusal.{Refusal}
use Rattle.protocol.specs.declared.refusal.Refusal.TheVariants.{StaleBlock}
use Rattle.protocol.specs.declared.weights.Prices.{Prices}
use Rattle.protocol.specs.Prices.{prices}
use Rattle.machine.specs.Machine.{two_cores}
use Rattle.study.specs.declared.turn.Turn.{Turn}
use Rattle.study.specs.Run.{RunMeaning}
use Rattle.study.specs.Opening.{opened}
use Rattle.study.specs.Play.{played, calls_of}

abbrev pub cell : State → ℕ → Cell
cell x s = record { state = x; stamp = s }

-- free at level 1, 10 at the other levels, 100 to or from memory
abbrev pub weights : Prices
weights = prices 0 10 10 10 100

-- a table with other contents, lent under the name a
abbrev pub blocks : ℕ → MemoryMeaning
blocks a = flat a (replicate 16 (cell Stale 7))

abbrev pub begun : ℕ → RunMeaning
begun a = opened two_cores (blocks a) weights

-- a call, its answer, and the total after it
abbrev pub turn : Call → Result Answer Refusal → ℕ → Turn
turn k x t = record { call = k; played = Some (record { answer = x; total = t }) }

-- core 0 reads block 3 and writes it, and core 1 reads what was written
abbrev pub nine : List Turn
nine =
    turn (Read 0 3) (Ok (Waits 3)) 0
    ∷ turn (Fetch 0) (Ok (Brought 3)) 100
    ∷ turn (Resume 0) (Ok (WasRead 0)) 100
    ∷ turn (Write 0 3) (Ok (Wrote 1)) 100
    ∷ turn (Read 1 3) (Ok (Waits 3)) 100
    ∷ turn (Fetch 1) (Err StaleBlock) 100
    ∷ turn (Flush 0 3) (Ok (Flushed 3)) 200
    ∷ turn (Fetch 1) (Ok (Brought 3)) 300
    ∷ turn (Resume 1) (Ok (WasRead 1)) 300
    ∷ []

-- the scenario that asks for it, and its report
abbrev pub scenario_text : List ℕ
scenario_text = codes "weights\t0\t10\t10\t10\t100\nref\t1\t3\nread\t0\t1\nfetch\t0\nresume\t0\nwrite\t0\t1\nread\t1\t1\nfetch\t1\nflush\t0\t1\nfetch\t1\nresume\t1\n"

abbrev pub report_text : List ℕ
report_text = codes "1\twaits\t3\t0\n2\tbrought\t3\t100\n3\tread\t0\t100\n4\twrote\t1\t100\n5\twaits\t3\t100\n6\trefused\t8\t100\n7\tflushed\t3\t200\n8\tbrought\t3\t300\n9\tread\t1\t300\nquote\t3\t300\t10000\n"

-- reference 1 lies in block 3, and no other is placed
abbrev pub layout : List ℕ
layout = slice_set (replicate 256 65536) 1 3

-- the run after the nine calls
abbrev pub over : ℕ → RunMeaning
over a = played (begun a) (calls_of nine)

-- every block was zeroed, and block 3 was written once
abbrev pub table_after : List Cell
table_after = slice_set (replicate 16 (cell Valid 0)) 3 (cell Valid 1)
