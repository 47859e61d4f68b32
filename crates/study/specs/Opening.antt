-- How a run begins.
use Rattle.std.specs.Prelude.{ℕ, zero, suc, cond, List, Ok, Err, Result, ◌==◌, nat_lt}
use Rattle.device.specs.Device.{after}
use Rattle.memory.specs.Meaning.{MemoryMeaning, store, size_of}
use Rattle.protocol.specs.declared.refusal.Refusal.{Refusal}
use Rattle.protocol.specs.declared.refusal.Refusal.TheVariants.{TooManyCores, NoBlocks}
use Rattle.protocol.specs.declared.weights.Prices.{Prices}
use Rattle.row.specs.Cores.{CoreMeaning, most_cores, count_of, renewed}
use Rattle.study.specs.Run.{tally, RunMeaning, a_run}

-- stamp 0 is stored in each block below k, in rising order
unfoldable pub zeroed : ℕ → MemoryMeaning → MemoryMeaning
zeroed zero m = m
zeroed (suc k) m = after (zeroed k m) (store k 0)

abbrev pub opened : List CoreMeaning → MemoryMeaning → Prices → RunMeaning
opened cs m w = a_run (renewed cs) (zeroed (size_of m) m) w (tally 0 0 0 0)

-- a draft of these cores, this memory and these weights is opened: at most eight cores, and at least one block
abbrev pub opening : List CoreMeaning → MemoryMeaning → Prices → Result RunMeaning Refusal
opening cs m w = cond (nat_lt most_cores (count_of cs)) (Err TooManyCores) (cond (size_of m == 0) (Err NoBlocks) (Ok (opened cs m w)))

-- a draft is weighed and opened
abbrev pub started : Result Prices Refusal → List CoreMeaning → MemoryMeaning → Result RunMeaning Refusal
started (Ok w) cs m = opening cs m w
started (Err e) cs m = Err e
