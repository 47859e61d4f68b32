-- The table that a memory was lent, once one of its blocks was retired.
use Rattle.std.proofs.Common.{◌≡◌, ℕ, ◌+◌, List, [], ◌∷◌, length, refl, sym, ap, ◌∙◌, arith, length-set, get_or-set_same, set-set}
use Rattle.std.proofs.lemmas.Bool.Decides.{nat_tests}
use Rattle.device.specs.Device.{after}
use Rattle.memory.specs.declared.cell.Cell.{Cell}
use Rattle.memory.specs.Meaning.{MemoryMeaning, Lent, store, stale, lent_of}
use Rattle.memory.specs.Flat.{flat_step, flat}
use Rattle.window.specs.Window.{window}
use Rattle.lending.specs.Retired.{retired, retired_in}

-- where two memories show the same, and each was lent one table, that is the same
abbrev first : List Lent → Lent
first [] = record { name = 0; cells = [] }
first (x ∷ xs) = x

pub lent_same : (m w : MemoryMeaning) (x y : Lent) → m ≡ w → lent_of m ≡ x ∷ [] → lent_of w ≡ y ∷ [] → (x.name ≡ y.name) × (x.cells ≡ y.cells)
lent_same m w x y e p q =
    let same : x ∷ [] ≡ y ∷ [] = sym p ∙ ap (λ (v : MemoryMeaning). lent_of v) e ∙ q in
    (ap (λ (l : List Lent). (first l).name) same, ap (λ (l : List Lent). (first l).cells) same)

steps-retired : (t : List Cell) (n s : ℕ) → flat_step (flat_step t (store n s)) (stale n) ≡ retired t n s
steps-retired t n s =
    grind (arith, nat_tests, length-set, set-set, get_or-set_same)

memory-lent : (a : ℕ) (t : List Cell) (n s : ℕ) → lent_of (after (after (flat a t) (store n s)) (stale n)) ≡ record { name = a; cells = retired t n s } ∷ []
memory-lent a t n s = ap (λ (u : List Cell). record { name = a; cells = u } ∷ []) (steps-retired t n s)

window-lent : (start length a : ℕ) (t : List Cell) (n s : ℕ) → lent_of (after (after (window start length (flat a t)) (store n s)) (stale n)) ≡ record { name = a; cells = retired_in start length t n s } ∷ []
window-lent start length a t n s = let below = memory-lent a t (start + n) s in grind (arith, nat_tests)

-- a memory that shows what the retiring left holds the table that was lent, with the block retired
pub memory-back : (a b : ℕ) (t u : List Cell) (n s : ℕ)
    → flat b u ≡ after (after (flat a t) (store n s)) (stale n)
    → (b ≡ a) × (u ≡ retired t n s)
memory-back a b t u n s e = lent_same _ _ _ _ e refl (memory-lent a t n s)

pub window-back : (start length from upto a b : ℕ) (t u : List Cell) (n s : ℕ) (m : MemoryMeaning)
    → m ≡ window start length (flat a t)
    → window from upto (flat b u) ≡ after (after m (store n s)) (stale n)
    → (b ≡ a) × (u ≡ retired_in start length t n s)
window-back start length from upto a b t u n s m made shown =
    lent_same _ _ _ _ shown refl (rw made (window-lent start length a t n s))
