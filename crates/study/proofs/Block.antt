-- One block: the copies that cores have of it and what memory has agree on its number, and which changes of one copy keep that.
use Rattle.std.proofs.Common.{◌≡◌, ℕ, ◌≢◌, Some, None, Option, sym, ap, ◌∙◌, arith}
use native.Mathlib.Decide.{ℕ_discrete}
use Rattle.parts.specs.declared.mark.Mark.TheVariants.{Shared, Modified}
use Rattle.parts.specs.Marks.{mark_number}
use Rattle.tier.specs.Options.{none-some}

-- a copy: the number of its mark, and its stamp
abbrev pub Copy : Type 0
Copy = ℕ × ℕ

abbrev pub shared : ℕ → Copy
shared s = (mark_number Shared, s)

abbrev pub modified : ℕ → Copy
modified s = (mark_number Modified, s)

-- no copy, or a shared one with the stamp s
abbrev pub AtMostShared : ℕ → Option Copy → Type 0
AtMostShared s o = (x : Copy) → o ≡ Some x → x ≡ shared s

not_both : {P : Type 0} (s i : ℕ) → modified s ≡ shared i → P
not_both s i e = let z : ◌≡◌ {A = ℕ} 1 0 = ap (λ (x : Copy). x.0) e in absurd (omega arith)

-- the block's number is k: memory has it, and each copy is shared with that stamp; or one core has the only copy, a modified one
pub data Consistent (k : ℕ) (h : ℕ → Option Copy) (v : Option ℕ) : Type 0 where
  clean : v ≡ Some k → ((c : ℕ) → AtMostShared k (h c)) → Consistent k h v
  owned : (o : ℕ) → h o ≡ Some (modified k) → ((d : ℕ) → d ≢ o → h d ≡ None) → v ≡ None → Consistent k h v

pub unchanged : (k : ℕ) (h h' : ℕ → Option Copy) (v v' : Option ℕ) → ((d : ℕ) → h' d ≡ h d) → v' ≡ v → Consistent k h v → Consistent k h' v'
unchanged k h h' v v' e f (clean p q) = clean (f ∙ p) (λ c x r. q c x (sym (e c) ∙ r))
unchanged k h h' v v' e f (owned o p q z) = owned o (e o ∙ p) (λ d ne. e d ∙ q d ne) (f ∙ z)

-- every copy has the block's number
pub stamped : (k : ℕ) (h : ℕ → Option Copy) (v : Option ℕ) (c : ℕ) (x : Copy) → h c ≡ Some x → Consistent k h v → x.1 ≡ k
stamped k h v c x e (clean p q) = ap (λ (y : Copy). y.1) (q c x e)
stamped k h v c x e (owned o p q z) = elim (ℕ_discrete c o) [
  | yes r ↦ cc
  | no ne ↦ none-some (h c) x (q c ne) e
]

-- a core that has a modified copy
pub record Owner (k : ℕ) (h : ℕ → Option Copy) (v : Option ℕ) (c s : ℕ) : Type 0 where
  pub stamp : s ≡ k
  pub alone : (d : ℕ) → d ≢ c → h d ≡ None
  pub behind : v ≡ None

module _ (k : ℕ) (h : ℕ → Option Copy) (v : Option ℕ) (c s : ℕ) where
  pub owner : h c ≡ Some (modified s) → Consistent k h v → Owner k h v c s
  owner e (clean p q) = not_both s k (q c (modified s) e)
  owner e (owned o p q z) = elim (ℕ_discrete c o) [ yes r ↦ at r | no ne ↦ none-some (h c) (modified s) (q c ne) e ]
    where
      at : c ≡ o → Owner k h v c s
      at r = record { stamp = stamped k h v c (modified s) e (owned o p q z); alone = λ d ne. q d (λ t. ne (t ∙ sym r)); behind = z }

  -- where one copy is shared, memory has the block, and all are
  pub sharer : h c ≡ Some (shared s) → Consistent k h v → (v ≡ Some k) × ((d : ℕ) → AtMostShared k (h d))
  sharer e (clean p q) = (p, q)
  sharer e (owned o p q z) = elim (ℕ_discrete c o) [
    | yes r ↦ not_both k s (cc)
    | no ne ↦ none-some (h c) (shared s) (q c ne) e
  ]

-- what may become of one core's copy x and of memory's stamp v
pub data Change (x x' : Option Copy) (v v' : Option ℕ) : Type 0 where
  kept : x' ≡ x → v' ≡ v → Change x x' v v'
  -- a shared copy goes
  dropped : (s : ℕ) → x ≡ Some (shared s) → x' ≡ None → v' ≡ v → Change x x' v v'
  -- a shared copy is made of what memory has
  joined : (s : ℕ) → v ≡ Some s → x' ≡ Some (shared s) → v' ≡ v → Change x x' v v'
  -- memory takes a modified copy, which goes or is shared
  stored : (s : ℕ) → x ≡ Some (modified s) → AtMostShared s x' → v' ≡ Some s → Change x x' v v'

-- no copy comes of nothing
pub none_stays : (x x' : Option Copy) (v v' : Option ℕ) → Change x x' v v' → x ≡ None → v ≡ None → x' ≡ None
none_stays x x' v v' (kept e f) p q = e ∙ p
none_stays x x' v v' (dropped s e f g) p q = f
none_stays x x' v v' (joined s e f g) p q = none-some v s q e
none_stays x x' v v' (stored s e f g) p q = none-some x (modified s) p e

module _ (k : ℕ) (h h' : ℕ → Option Copy) (v v' : Option ℕ) (c : ℕ) (others : (d : ℕ) → d ≢ c → h' d ≡ h d) where
  all_shared : v' ≡ Some k → AtMostShared k (h' c) → ((d : ℕ) → d ≢ c → AtMostShared k (h d)) → Consistent k h' v'
  all_shared e here there = clean e at
    where
      at : (d : ℕ) → AtMostShared k (h' d)
      at d x r = elim (ℕ_discrete d c) [ yes q ↦ here x (sym (ap h' q) ∙ r) | no ne ↦ there d ne x (sym (others d ne) ∙ r) ]

  pub changed : Change (h c) (h' c) v v' → Consistent k h v → Consistent k h' v'
  changed (kept e f) w = unchanged k h h' v v' (λ d. elim (ℕ_discrete d c) [ yes q ↦ ap h' q ∙ e ∙ sym (ap h q) | no ne ↦ others d ne ]) f w
  changed (dropped s e f g) w =
      let z = sharer k h v c s e w in
      all_shared (g ∙ z.0) (λ x r. none-some (h' c) x f r) (λ d ne. z.1 d)
  changed (joined s e f g) (owned o p q z) = none-some v s z e
  changed (joined s e f g) (clean p q) = all_shared (g ∙ p) (λ x r. cc) (λ d ne. q d)
  changed (stored s e f g) w =
      let z = owner k h v c s e w in
      all_shared (g ∙ ap Some z.stamp) (λ x r. f x r ∙ ap shared z.stamp) (λ d ne x r. none-some (h d) x (z.alone d ne) r)
