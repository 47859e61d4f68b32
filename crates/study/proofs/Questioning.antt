-- Why a call is refused: the first question that is answered by no, and the answers before it.
use Rattle.std.proofs.Common.{◌≡◌, ℕ, ◌<◌, ◌≤◌, true, false, sym, arith}
use mathlib.Core.Bool.{false≢true}
use Rattle.std.proofs.lemmas.Bool.{ltb-true, ltb-false}
use Rattle.memory.specs.Meaning.{MemoryMeaning, size_of}
use Rattle.protocol.specs.declared.call.Call.{Call}
use Rattle.protocol.specs.declared.call.Call.TheVariants.{Read, Write, Fetch, Resume, Flush, Commit}
use Rattle.protocol.specs.declared.refusal.Refusal.{Refusal}
use Rattle.protocol.specs.declared.refusal.Refusal.TheVariants.{TooManyCores, NoBlocks, WeightTooHigh, TooManySteps, NoSuchCore, NoSuchBlock, WrongState, StaleBlock, NotOwed}
use Rattle.protocol.specs.Refusals.{refusal_number}
use Rattle.protocol.specs.Calls.{fits_in}
use Rattle.study.specs.Run.{RunMeaning}
use Rattle.study.specs.Questions.{InMemory, Yes, Allowed, Because}

-- whether the memory has the block that a call names
pub in_memory : (k : Call) (m : MemoryMeaning) → fits_in (size_of m) k ≡ true → InMemory k m
in_memory (Read c n) m e = ltb-true n (size_of m) e
in_memory (Write c n) m e = ltb-true n (size_of m) e
in_memory (Fetch c) m e = tt
in_memory (Resume c) m e = tt
in_memory (Flush c n) m e = ltb-true n (size_of m) e
in_memory (Commit c n) m e = ltb-true n (size_of m) e

past_memory : (n : ℕ) (m : MemoryMeaning) → size_of m ≤ n → n < size_of m → ⊥
past_memory n m le lt = omega (arith, le, lt)

pub not_in_memory : (k : Call) (m : MemoryMeaning) → fits_in (size_of m) k ≡ false → InMemory k m → ⊥
not_in_memory (Read c n) m e = past_memory n m (ltb-false n (size_of m) e)
not_in_memory (Write c n) m e = past_memory n m (ltb-false n (size_of m) e)
not_in_memory (Fetch c) m e = λ _. false≢true (sym e)
not_in_memory (Resume c) m e = λ _. false≢true (sym e)
not_in_memory (Flush c n) m e = past_memory n m (ltb-false n (size_of m) e)
not_in_memory (Commit c n) m e = past_memory n m (ltb-false n (size_of m) e)

-- there is room for the call, and there are its core and its block
pub record Named (k : Call) (r : RunMeaning) : Type 0 where
  pub room : Yes TooManySteps k r
  pub core : Yes NoSuchCore k r
  pub block : Yes NoSuchBlock k r

-- no number is below itself or a smaller one
late : {P : Type 0} (i j : ℕ) → j ≤ i → i < j → P
late i j le lt = absurd (omega (arith, le, lt))

module _ (k : Call) (r : RunMeaning) where
  -- the questions with a number below i
  below : (i : ℕ) → (4 < i → Yes TooManySteps k r) → (5 < i → Yes NoSuchCore k r) → (6 < i → Yes NoSuchBlock k r)
      → (7 < i → Yes WrongState k r) → (8 < i → Yes StaleBlock k r) → (9 < i → Yes NotOwed k r)
      → (d : Refusal) → refusal_number d < i → Yes d k r
  below i a b c d e f TooManyCores h = tt
  below i a b c d e f NoBlocks h = tt
  below i a b c d e f WeightTooHigh h = tt
  below i a b c d e f TooManySteps h = a h
  below i a b c d e f NoSuchCore h = b h
  below i a b c d e f NoSuchBlock h = c h
  below i a b c d e f WrongState h = d h
  below i a b c d e f StaleBlock h = e h
  below i a b c d e f NotOwed h = f h

  pub no_room : (Yes TooManySteps k r → ⊥) → Because k r TooManySteps
  no_room denied = record {
    no = denied;
    before = below 4 (late 4 4 (omega arith)) (late 5 4 (omega arith)) (late 6 4 (omega arith))
        (late 7 4 (omega arith)) (late 8 4 (omega arith)) (late 9 4 (omega arith));
  }

  pub no_core : Yes TooManySteps k r → (Yes NoSuchCore k r → ⊥) → Because k r NoSuchCore
  no_core room denied = record {
    no = denied;
    before = below 5 (λ _. room) (late 5 5 (omega arith)) (late 6 5 (omega arith))
        (late 7 5 (omega arith)) (late 8 5 (omega arith)) (late 9 5 (omega arith));
  }

  pub no_block : Yes TooManySteps k r → Yes NoSuchCore k r → (Yes NoSuchBlock k r → ⊥) → Because k r NoSuchBlock
  no_block room core denied = record {
    no = denied;
    before = below 6 (λ _. room) (λ _. core) (late 6 6 (omega arith)) (late 7 6 (omega arith)) (late 8 6 (omega arith)) (late 9 6 (omega arith));
  }

  module _ (N : Named k r) where
    pub wrong_state : (Yes WrongState k r → ⊥) → Because k r WrongState
    wrong_state denied = record {
      no = denied;
      before = below 7 (λ _. N.room) (λ _. N.core) (λ _. N.block) (late 7 7 (omega arith)) (late 8 7 (omega arith)) (late 9 7 (omega arith));
    }

    module _ (state : Yes WrongState k r) where
      pub stale_block : (Yes StaleBlock k r → ⊥) → Because k r StaleBlock
      stale_block denied = record {
        no = denied;
        before = below 8 (λ _. N.room) (λ _. N.core) (λ _. N.block) (λ _. state) (late 8 8 (omega arith)) (late 9 8 (omega arith));
      }

      pub not_owed : Yes StaleBlock k r → (Yes NotOwed k r → ⊥) → Because k r NotOwed
      not_owed valid denied = record {
        no = denied;
        before = below 9 (λ _. N.room) (λ _. N.core) (λ _. N.block) (λ _. state) (λ _. valid) (late 9 9 (omega arith));
      }

      pub allowed : Yes StaleBlock k r → Yes NotOwed k r → Allowed k r
      allowed valid owed TooManyCores = tt
      allowed valid owed NoBlocks = tt
      allowed valid owed WeightTooHigh = tt
      allowed valid owed TooManySteps = N.room
      allowed valid owed NoSuchCore = N.core
      allowed valid owed NoSuchBlock = N.block
      allowed valid owed WrongState = state
      allowed valid owed StaleBlock = valid
      allowed valid owed NotOwed = owed
