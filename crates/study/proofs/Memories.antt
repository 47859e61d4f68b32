-- What is valid in memory after a store, after a block is made stale, and after a line has left a tier.
use Rattle.std.proofs.Common.{◌≡◌, ℕ, ◌<◌, ◌≤◌, Bool, true, false, cond, ltb, ◌≢◌, List, [], ◌∷◌, Some, None, Ok, Err, Option, refl, ap, ◌∙◌, ⊎_elim}
use Rattle.std.proofs.lemmas.Bool.{cases_lt, lt-ltb, le-ltb}
use Rattle.device.specs.Device.{after}
use Rattle.parts.specs.declared.mark.Mark.{Mark}
use Rattle.parts.specs.declared.mark.Mark.TheVariants.{Shared, Modified}
use Rattle.parts.specs.declared.line.Line.{Line}
use Rattle.parts.specs.Marks.{mark_number}
use Rattle.tier.specs.Meaning.{TierMeaning}
use Rattle.tier.specs.Options.{none-some}
use Rattle.memory.specs.declared.refusal.Refusal.TheVariants.{NoSuchBlock}
use Rattle.memory.specs.Meaning.{MemoryMeaning, MemoryCall, store, stale, size_of, stamp_of, cell_of, block_of, result, Lawful}
use Rattle.row.specs.Cores.{CoreMeaning, met}
use Rattle.study.specs.Step.{valid_of, valid, memory_taking_as, memory_taking, recalled, alone_memory}
use Rattle.study.proofs.Block.{Copy, Change, kept, dropped, stored}
use Rattle.study.proofs.Tiers.{held, Passed, stayed, gone}

pub valid-outside : (m : MemoryMeaning) (n : ℕ) → size_of m ≤ n → valid m n ≡ None
valid-outside m n h = ap (λ b. valid_of (cond b (Ok (stamp_of (cell_of m n))) (Err NoSuchBlock))) (le-ltb n (size_of m) h)

module _ (m : MemoryMeaning) (ok : Lawful m) (c : MemoryCall) where
  pub valid-named : block_of c < size_of m → valid (after m c) (block_of c) ≡ result c
  valid-named h =
      ap (λ b. valid_of (cond b (Ok (stamp_of (cell_of (after m c) (block_of c)))) (Err NoSuchBlock))) (lt-ltb (block_of c) (size_of m) h) ∙ (ok []).named c h

  pub valid-others : (j : ℕ) → j ≢ block_of c → valid (after m c) j ≡ valid m j
  valid-others j ne = ⊎_elim
      (λ h. ap (λ o. valid_of (cond (ltb j (size_of m)) (Ok o) (Err NoSuchBlock))) ((ok []).others c j h ne))
      (λ h. ap (λ x. valid x j) ((ok []).refused c h)) (cases_lt (block_of c) (size_of m))

-- a memory after calls that name block n alone
pub record Kept (n : ℕ) (m m' : MemoryMeaning) : Type 0 where
  pub lawful : Lawful m'
  pub size : size_of m' ≡ size_of m
  pub others : (j : ℕ) → j ≢ n → valid m' j ≡ valid m j

module _ (m : MemoryMeaning) (ok : Lawful m) where
  kept_still : (n : ℕ) → Kept n m m
  kept_still n = record { lawful = ok; size = refl; others = λ j ne. refl }

  pub kept-after : (c : MemoryCall) → Kept (block_of c) m (after m c)
  kept-after c = record { lawful = λ cs. ok (c ∷ cs); size = refl; others = valid-others m ok c }

  kept-recalled : (n : ℕ) (o : Option ℕ) → Kept n m (recalled n o m)
  kept-recalled n None = kept_still n
  kept-recalled n (Some s) = kept-after (store n s)

  -- memory when core c has become the only holder of block n
  pub alone-kept : (b : Bool) (c n : ℕ) (cs : List CoreMeaning) → Kept n m (alone_memory b c n cs m)
  alone-kept true c n cs = kept_still n
  alone-kept false c n cs =
      let k = kept-recalled n (met 0 c n cs) in
      let ok' = k.lawful in
      record { lawful = λ ds. ok' (stale n ∷ ds); size = k.size; others = λ j ne. valid-others (recalled n (met 0 c n cs) m) ok' (stale n) j ne ∙ k.others j ne }

  pub alone-stale : (b : Bool) (c n : ℕ) (cs : List CoreMeaning) → n < size_of m → (b ≡ true → valid m n ≡ None) → valid (alone_memory b c n cs m) n ≡ None
  alone-stale true c n cs h own = own refl
  alone-stale false c n cs h own =
      let k = kept-recalled n (met 0 c n cs) in
      valid-named (recalled n (met 0 c n cs) m) k.lawful (stale n) (rw k.size h)

  kept-left : (k : Mark) (n s : ℕ) → Kept n m (memory_taking_as k n s m)
  kept-left Shared n s = kept_still n
  kept-left Modified n s = kept-after (store n s)

  pub left-lawful : (o : Option Line) → Lawful (memory_taking o m)
  left-lawful None = ok
  left-lawful (Some g) = (kept-left g.mark g.block g.stamp).lawful

  pub left-size : (o : Option Line) → size_of (memory_taking o m) ≡ size_of m
  left-size None = refl
  left-size (Some g) = (kept-left g.mark g.block g.stamp).size

  pub left-others : (o : Option Line) (n : ℕ) → ((g : Line) → o ≡ Some g → n ≢ g.block) → valid (memory_taking o m) n ≡ valid m n
  left-others None n f = refl
  left-others (Some g) n f = (kept-left g.mark g.block g.stamp).others n (f g refl)

  left-named : (x x' : Option Copy) (k : Mark) (n s : ℕ) → n < size_of m → x ≡ Some (mark_number k, s) → x' ≡ None
      → Change x x' (valid m n) (valid (memory_taking_as k n s m) n)
  left-named x x' Shared n s h e f = dropped s e f refl
  left-named x x' Modified n s h e f = stored s e (λ y r. none-some x' y f r) (valid-named m ok (store n s) h)

  -- a block of a tier that has given out a line, and memory when the line has left
  pub left-change : (t t' : TierMeaning) (o : Option Line) (n : ℕ) → ((j : ℕ) (x : Copy) → held t j ≡ Some x → j < size_of m) → Passed t t' o n
      → Change (held t n) (held t' n) (valid m n) (valid (memory_taking o m) n)
  left-change t t' o n inside (stayed e f) = kept e (left-others o n f)
  left-change t t' o n inside (gone g e q a b) = rw (e, q) (left-named (held t g.block) (held t' g.block) g.mark g.block g.stamp (inside g.block _ a) a b)
