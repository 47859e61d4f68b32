-- Coherence: what cores and memory have of each block agrees.
use Rattle.std.specs.Prelude.{◌≡◌, ℕ, ◌<◌, ◌≢◌, false, List, Some, None, Option}
use Rattle.parts.specs.declared.mark.Mark.{Mark}
use Rattle.parts.specs.declared.mark.Mark.TheVariants.{Modified}
use Rattle.parts.specs.Marks.{mark_number}
use Rattle.tier.specs.Meaning.{Holding, held_of, bare}
use Rattle.memory.specs.Meaning.{MemoryMeaning, size_of}
use Rattle.moves.specs.Moves.{is_modified}
use Rattle.row.specs.Cores.{CoreMeaning, tier_at, met}
use Rattle.study.specs.Run.{RunMeaning}
use Rattle.study.specs.Step.{valid, brought_up}

-- the copy that core c has of block n: the number of its mark, and its stamp
abbrev pub copy_of : List CoreMeaning → ℕ → ℕ → Option (ℕ × ℕ)
copy_of cs c n = bare (held_of (tier_at cs c) n)

-- core c holds block n with this mark and stamp
abbrev pub Holds : List CoreMeaning → ℕ → ℕ → Mark → ℕ → Type 0
Holds cs c n k s = copy_of cs c n ≡ Some (mark_number k, s)

-- core c holds block n with this stamp, by whatever mark
abbrev pub Has : List CoreMeaning → ℕ → ℕ → ℕ → Type 0
Has cs c n s = (k : ℕ) × (copy_of cs c n ≡ Some (k, s))

-- core c does not hold block n
abbrev pub Lacks : List CoreMeaning → ℕ → ℕ → Type 0
Lacks cs c n = copy_of cs c n ≡ None

pub record Coherent (cs : List CoreMeaning) (m : MemoryMeaning) : Type 0 where
  -- a block that one core holds modified is held by no other core
  pub alone : (n c d s : ℕ) → Holds cs c n Modified s → d ≢ c → Lacks cs d n
  -- and it is stale in memory
  pub behind : (n c s : ℕ) → Holds cs c n Modified s → valid m n ≡ None
  -- any other block of the memory is valid there, and every core that holds it has it with the memory's stamp
  pub agreed : (n : ℕ) → n < size_of m → ((c s : ℕ) → Holds cs c n Modified s → ⊥)
      → (i : ℕ) × (valid m n ≡ Some i) × ((c s : ℕ) → Has cs c n s → s ≡ i)
  -- no core holds a block that the memory lacks
  pub inside : (n c s : ℕ) → Has cs c n s → n < size_of m

-- the message by which a core becomes the only holder of a block that it holds shared meets no modified copy
abbrev pub Unmet : RunMeaning → Type 0
Unmet r = (c n : ℕ) (h : Holding) → held_of (tier_at r.cores c) n ≡ Some h → is_modified h ≡ false → met 0 c n (brought_up r c n h) ≡ None
