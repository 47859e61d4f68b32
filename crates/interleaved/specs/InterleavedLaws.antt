-- The laws of two memories in turn, from those of each.
use Rattle.std.specs.Prelude.{◌≡◌, refl, List, [], ◌∷◌, ◌++◌, map, Bool, true, false, cond, ℕ, ◌/◌, ◌≤◌, ◌<◌, nat_lt}
use Rattle.std.proofs.Common.{sym, ap, ◌∙◌, true≢false, arith, eqb-true, lt-ltb, le-ltb}
use Rattle.std.proofs.lemmas.Bool.{eqb-false}
use Rattle.device.specs.Device.{device}
use Rattle.device.specs.Laws.{device-after, device_always}
use Rattle.memory.specs.Meaning.{MemoryMeaning, MemoryCall, Lent, size_of, lent_of, stamp_of, block_of, on_block, result, MemoryLaws, Lawful}
use Rattle.memory.specs.Calls.{call_named, call_others}
use Rattle.interleaved.specs.Interleaved.{Halves, interleaved_size, is_even, half_step, half_cell, interleaved_step, interleaved_view, interleaved}

abbrev Good : Halves → Type 0
Good h = Lawful h.even × Lawful h.odd

abbrev names : List Lent → List ℕ
names = map (λ (t : Lent). t.name)

names-append : (xs ys : List Lent) → names (xs ++ ys) ≡ names xs ++ names ys
names-append [] ys = refl
names-append (x ∷ xs) ys = ap (λ ns. x.name ∷ ns) (names-append xs ys)

abbrev names_of : Halves → List ℕ
names_of h = names (lent_of h.even) ++ names (lent_of h.odd)

-- a call on one half
half_size : (b : Bool) (h : Halves) (c : MemoryCall) → interleaved_size (half_step b h c) ≡ interleaved_size h
half_size true h c = refl
half_size false h c = refl

half_good : (b : Bool) (h : Halves) (c : MemoryCall) → Good h → Good (half_step b h c)
half_good true h c good = ((λ cs. good.0 (c ∷ cs)), good.1)
half_good false h c good = (good.0, (λ cs. good.1 (c ∷ cs)))

half_loans : (b : Bool) (h : Halves) (c : MemoryCall) → Good h → names_of (half_step b h c) ≡ names_of h
half_loans true h c good = ap (λ ns. ns ++ names (lent_of h.odd)) ((good.0 []).loans c)
half_loans false h c good = ap (λ ns. names (lent_of h.even) ++ ns) ((good.1 []).loans c)

half_named : (b : Bool) (h : Halves) (c : MemoryCall) (k : ℕ) → Good h → k < size_of h.even → k < size_of h.odd → stamp_of (half_cell b (half_step b h (on_block k c)) k) ≡ result c
half_named true h c k good le lo = call_named h.even (good.0 []) c k le
half_named false h c k good le lo = call_named h.odd (good.1 []) c k lo

half_others : (b d : Bool) (h : Halves) (c : MemoryCall) (k j : ℕ) → Good h → k < size_of h.even → k < size_of h.odd → (b ≡ d → j ≡ k → ⊥) → stamp_of (half_cell d (half_step b h (on_block k c)) j) ≡ stamp_of (half_cell d h j)
half_others true true h c k j good le lo ne = call_others h.even (good.0 []) c k j le (ne refl)
half_others true false h c k j good le lo ne = refl
half_others false true h c k j good le lo ne = refl
half_others false false h c k j good le lo ne = call_others h.odd (good.1 []) c k j lo (ne refl)

-- two blocks of one half that differ do so there too
half_apart : (n k : ℕ) → (k ≡ n → ⊥) → is_even n ≡ is_even k → k / 2 ≡ n / 2 → ⊥
half_apart n k ne e same = go (is_even n) (is_even k) refl refl e
  where
    go : (b d : Bool) → is_even n ≡ b → is_even k ≡ d → b ≡ d → ⊥
    go true true p q r = ne (omega (arith, eqb-true _ _ p, eqb-true _ _ q))
    go true false p q r = true≢false r
    go false true p q r = true≢false (sym r)
    go false false p q r = ne (omega (arith, eqb-false _ _ p, eqb-false _ _ q))

-- a call on the two
abbrev on_half : Halves → MemoryCall → Halves
on_half h c = half_step (is_even (block_of c)) h (on_block (block_of c / 2) c)

interleaved-stays : (h : Halves) (c : MemoryCall) → interleaved_size (interleaved_step h c) ≡ interleaved_size h
interleaved-stays h c =
    elim (nat_lt (block_of c) (interleaved_size h)) as (λ b. interleaved_size (cond b (on_half h c) h) ≡ interleaved_size h) [ true ↦ half_size (is_even (block_of c)) h (on_block (block_of c / 2) c) | false ↦ refl ]

interleaved-good : (h : Halves) (c : MemoryCall) → Good h → Good (interleaved_step h c)
interleaved-good h c good =
    elim (nat_lt (block_of c) (interleaved_size h)) as (λ b. Good (cond b (on_half h c) h)) [ true ↦ half_good (is_even (block_of c)) h (on_block (block_of c / 2) c) good | false ↦ good ]

interleaved-loans : (h : Halves) (c : MemoryCall) → Good h → names_of (interleaved_step h c) ≡ names_of h
interleaved-loans h c good =
    elim (nat_lt (block_of c) (interleaved_size h)) as (λ b. names_of (cond b (on_half h c) h) ≡ names_of h) [ true ↦ half_loans (is_even (block_of c)) h (on_block (block_of c / 2) c) good | false ↦ refl ]

interleaved_does : (h : Halves) (c : MemoryCall) → block_of c < interleaved_size h → interleaved_step h c ≡ on_half h c
interleaved_does h c lt = ap (λ b. cond b (on_half h c) h) (lt-ltb _ _ lt)

interleaved-refused : (h : Halves) (c : MemoryCall) → interleaved_size h ≤ block_of c → interleaved_step h c ≡ h
interleaved-refused h c le = ap (λ b. cond b (on_half h c) h) (le-ltb _ _ le)

interleaved-laws : (h : Halves) → Good h → MemoryLaws (device interleaved_size interleaved_view interleaved_step h)
interleaved-laws h good = record {
  bounded = omega arith;
  named = λ c lt.
      ap (λ (v : Halves). stamp_of ((interleaved_view v).cell (block_of c))) (interleaved_does h c lt)
      ∙ half_named (is_even (block_of c)) h c (block_of c / 2) good (omega arith) (omega arith);
  others = λ c k lt ne.
      ap (λ (v : Halves). stamp_of ((interleaved_view v).cell k)) (interleaved_does h c lt)
      ∙ half_others (is_even (block_of c)) (is_even k) h c (block_of c / 2) (k / 2) good (omega arith) (omega arith) (half_apart (block_of c) k ne);
  refused = λ c le.
      sym (device-after interleaved_size interleaved_view interleaved_step interleaved-stays h c)
      ∙ ap (device interleaved_size interleaved_view interleaved_step) (interleaved-refused h c le);
  loans = λ c.
      names-append (lent_of (interleaved_step h c).even) (lent_of (interleaved_step h c).odd)
      ∙ interleaved-loans h c good
      ∙ sym (names-append (lent_of h.even) (lent_of h.odd));
}

pub interleaved-lawful : (even odd : MemoryMeaning) → Lawful even → Lawful odd → Lawful (interleaved even odd)
interleaved-lawful even odd p q =
    device_always interleaved_size interleaved_view interleaved_step interleaved-stays MemoryLaws Good interleaved-good interleaved-laws (record { even = even; odd = odd }) (p, q)
