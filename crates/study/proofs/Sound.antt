-- Sound cores and memory: every block is consistent. What one core may do to its copies, and how a core makes a block its own.
use Rattle.std.proofs.Common.{◌≡◌, ℕ, ◌<◌, ◌≤◌, cond, eqb, ◌≢◌, List, length, Some, None, Option, refl, ap, ◌∙◌, subst, ⊎_elim, arith}
use native.Mathlib.Decide.{ℕ_discrete}
use Rattle.std.proofs.lemmas.Bool.{cases_lt, eq-eqb, ne_eqb}
use Rattle.tier.specs.Meaning.{Holding, bare, Lawful}
use Rattle.tier.specs.Options.{none-some}
use Rattle.memory.specs.Meaning.{MemoryMeaning, size_of, Lawful as LawfulMemory}
use Rattle.moves.specs.Moves.{modified_stamp}
use Rattle.row.specs.Cores.{CoreMeaning, tier_at, met}
use Rattle.study.specs.Step.{valid}
use Rattle.study.specs.Book.{but}
use Rattle.study.specs.Coherence.{copy_of}
use Rattle.study.proofs.Block.{Copy, shared, modified, AtMostShared, Consistent, owned, sharer, unchanged, Change, none_stays, changed}
use Rattle.study.proofs.Tiers.{held}
use Rattle.study.proofs.Memories.{valid-outside, Kept}
use Rattle.study.proofs.Rows.{at_place, Replaced, copy_here, copy_there, tiers-lawful, Alone, met-none}

-- num n is the number of block n
pub record Sound (cs : List CoreMeaning) (m : MemoryMeaning) (num : ℕ → ℕ) : Type 0 where
  pub short : length cs ≤ 8
  pub tiers : (d : ℕ) → d < length cs → Lawful (tier_at cs d)
  pub memory : LawfulMemory m
  pub blocks : (n : ℕ) → n < size_of m → Consistent (num n) (λ d. copy_of cs d n) (valid m n)
  pub outside : (n : ℕ) → size_of m ≤ n → (d : ℕ) → copy_of cs d n ≡ None

pub but_same : (f : ℕ → ℕ) (k v : ℕ) → but f k v k ≡ v
unfolding but
but_same f k v = rw (eq-eqb k k refl)

pub but-other : (f : ℕ → ℕ) (k v x : ℕ) → x ≢ k → but f k v x ≡ f x
unfolding but
but-other f k v x ne = rw (ne_eqb x k ne)

-- a shared copy has no modified stamp
pub at_most : (k : ℕ) (o : Option Holding) → AtMostShared k (bare o) → modified_stamp o ≡ None
at_most k None f = refl
at_most k (Some h) f =
    let z : h.0 ≡ 0 = ap (λ (y : Copy). y.0) (f (h.0, h.1) refl) in
    ap (λ i. cond (eqb i 1) (Some h.1) None) z

module _ (cs : List CoreMeaning) (m : MemoryMeaning) (num : ℕ → ℕ) (S : Sound cs m num) where
  -- a block that is held is in the memory
  pub inside : (c n : ℕ) (x : Copy) → copy_of cs c n ≡ Some x → n < size_of m
  inside c n x e = ⊎_elim (λ h. h) (λ h. none-some (copy_of cs c n) x (S.outside n h c) e) (cases_lt n (size_of m))

  -- the message of a core with a shared copy meets no modified one
  pub meets-none : (c n s : ℕ) → copy_of cs c n ≡ Some (shared s) → met 0 c n cs ≡ None
  meets-none c n s e = met-none 0 c n cs (λ d j q ne lt. at_most (num n) _ (subst (λ (x : CoreMeaning). AtMostShared (num n) (held x.tier n)) (at_place cs d S.short) (all d)))
    where
      all : (d : ℕ) → AtMostShared (num n) (copy_of cs d n)
      all = (sharer (num n) _ _ c s e (S.blocks n (inside c n _ e))).1

  -- core c is replaced by x, and each block changes as it may
  module _ (cs' : List CoreMeaning) (m' : MemoryMeaning) (c : ℕ) (x : CoreMeaning) (R : Replaced cs cs' c x) where
    abbrev Changes : Type 0
    Changes = (n : ℕ) → Change (copy_of cs c n) (held x.tier n) (valid m n) (valid m' n)

    pub change-sound : Lawful x.tier → LawfulMemory m' → size_of m' ≡ size_of m → Changes → Sound cs' m' num
    change-sound ok okm z f = record {
      short = rw R.size S.short;
      tiers = tiers-lawful cs cs' c x R ok (λ d ne. S.tiers d);
      memory = okm;
      blocks = λ n h. changed (num n) _ _ _ _ c (copy_there cs cs' c x R n) (rw (copy_here cs cs' c x R n) (f n)) (S.blocks n (rw z at h));
      outside = λ n h d. outside' n (rw z at h) d;
    }
      where
        outside' : (n : ℕ) → size_of m ≤ n → (d : ℕ) → copy_of cs' d n ≡ None
        outside' n h d = elim (ℕ_discrete d c) [
          | yes q ↦ rw q (copy_here cs cs' c x R n ∙ none_stays _ _ _ _ (f n) (S.outside n h c) (valid-outside m n h))
          | no ne ↦ copy_there cs cs' c x R n d ne ∙ S.outside n h d
        ]

  -- core c is the only holder of block n, which memory has as stale, and holds it modified with the stamp w
  module _ (cs₁ cs₂ : List CoreMeaning) (m' : MemoryMeaning) (c n w : ℕ) (x : CoreMeaning) (A : Alone cs cs₁ c n) (R : Replaced cs₁ cs₂ c x) where
    pub own-sound : Lawful x.tier → Kept n m m' → n < size_of m → valid m' n ≡ None
        → held x.tier n ≡ Some (modified w) → ((j : ℕ) → j ≢ n → held x.tier j ≡ copy_of cs c j) → Sound cs₂ m' (but num n w)
    own-sound ok K lt stale has rest = record {
      short = rw (R.size, A.size) S.short;
      tiers = tiers-lawful cs₁ cs₂ c x R ok (λ d ne h. (A.there d ne).lawful (S.tiers d (rw A.size at h)));
      memory = K.lawful;
      blocks = λ j h. elim (ℕ_discrete j n) [
        | yes q ↦ rw (q, but_same num n w) (owned c (copy_here cs₁ cs₂ c x R n ∙ has) (λ d ne. copy_there cs₁ cs₂ c x R n d ne ∙ (A.there d ne).empty) stale)
        | no ne ↦ rw (but-other num n w j ne) (unchanged (num j) _ _ _ _ (else j ne) (K.others j ne) (S.blocks j (rw K.size at h)))
      ];
      outside = λ j h d.
          let h' : size_of m ≤ j = rw K.size at h in
          else j (λ q. let p = lt in omega arith) d ∙ S.outside j h' d;
    }
      where
        -- any other block is as it was
        else : (j : ℕ) → j ≢ n → (d : ℕ) → copy_of cs₂ d j ≡ copy_of cs d j
        else j nn d = elim (ℕ_discrete d c) [
          | yes q ↦ rw q (copy_here cs₁ cs₂ c x R j ∙ rest j nn)
          | no ne ↦ copy_there cs₁ cs₂ c x R j d ne ∙ (A.there d ne).others j nn
        ]
