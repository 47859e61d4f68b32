-- The laws of a window, from those of the memory below.
use Rattle.std.specs.Prelude.{◌≡◌, ℕ, ◌+◌, ◌<◌, ◌≤◌, true, false, cond, [], ◌∷◌, map, nat_lt, refl}
use Rattle.std.proofs.Common.{sym, ap, ◌∙◌, arith, lt-ltb, le-ltb}
use Rattle.device.specs.Device.{after}
use Rattle.device.specs.Laws.{device-after, device_always}
use Rattle.memory.specs.Meaning.{MemoryMeaning, MemoryCall, Lent, lent_of, cell_of, stamp_of, block_of, on_block, MemoryLaws, Lawful}
use Rattle.memory.specs.Calls.{call_named, call_others}
use Rattle.window.specs.Window.{window_size, window_step, window_view, window}

module _ (start length : ℕ) where
  -- the call, as the memory below sees it
  abbrev below : MemoryMeaning → MemoryCall → MemoryMeaning
  below m c = after m (on_block (start + block_of c) c)

  window-stays : (m : MemoryMeaning) (c : MemoryCall) → window_size start length (window_step start length m c) ≡ window_size start length m
  window-stays m c =
      elim (nat_lt (block_of c) (window_size start length m)) as (λ b. window_size start length (cond b (below m c) m) ≡ window_size start length m) [ true ↦ refl | false ↦ refl ]

  window-good : (m : MemoryMeaning) (c : MemoryCall) → Lawful m → Lawful (window_step start length m c)
  window-good m c h =
      elim (nat_lt (block_of c) (window_size start length m)) as (λ b. Lawful (cond b (below m c) m)) [ true ↦ (λ cs. h (on_block (start + block_of c) c ∷ cs)) | false ↦ h ]

  window_does : (m : MemoryMeaning) (c : MemoryCall) → block_of c < window_size start length m → window_step start length m c ≡ below m c
  window_does m c h = ap (λ b. cond b (below m c) m) (lt-ltb _ _ h)

  window-refused : (m : MemoryMeaning) (c : MemoryCall) → window_size start length m ≤ block_of c → window_step start length m c ≡ m
  window-refused m c h = ap (λ b. cond b (below m c) m) (le-ltb _ _ h)

  window-loans : (m : MemoryMeaning) (c : MemoryCall) → MemoryLaws m → map (λ (t : Lent). t.name) (lent_of (window_step start length m c)) ≡ map (λ (t : Lent). t.name) (lent_of m)
  window-loans m c laws =
      elim (nat_lt (block_of c) (window_size start length m)) as (λ b. map (λ (t : Lent). t.name) (lent_of (cond b (below m c) m)) ≡ map (λ (t : Lent). t.name) (lent_of m)) [ true ↦ laws.loans (on_block (start + block_of c) c) | false ↦ refl ]

  window-laws : (m : MemoryMeaning) → Lawful m → MemoryLaws (window start length m)
  window-laws m h = record {
    bounded = omega (arith, (h []).bounded);
    named = λ c lt.
        ap (λ (v : MemoryMeaning). stamp_of (cell_of v (start + block_of c))) (window_does m c lt)
        ∙ call_named m (h []) c (start + block_of c) (omega arith);
    others = λ c k lt ne.
        ap (λ (v : MemoryMeaning). stamp_of (cell_of v (start + k))) (window_does m c lt)
        ∙ call_others m (h []) c (start + block_of c) (start + k) (omega arith) (λ e. ne (omega arith));
    refused = λ c le.
        sym (device-after (window_size start length) (window_view start) (window_step start length) window-stays m c)
        ∙ ap (window start length) (window-refused m c le);
    loans = λ c. window-loans m c (h []);
  }

  pub window-lawful : (m : MemoryMeaning) → Lawful m → Lawful (window start length m)
  window-lawful = device_always (window_size start length) (window_view start) (window_step start length) window-stays MemoryLaws Lawful window-good window-laws
