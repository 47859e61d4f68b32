-- No call exchanges the tables that were lent to a memory for others.
use Rattle.std.proofs.Common.{◌≡◌, ℕ, zero, suc, List, [], ◌∷◌, map, refl, ◌∙◌}
use Rattle.device.specs.Device.{after}
use Rattle.memory.specs.Meaning.{MemoryMeaning, MemoryCall, store, Lent, size_of, lent_of, Lawful as LawfulMemory}
use Rattle.protocol.specs.declared.call.Call.{Call}
use Rattle.protocol.specs.declared.weights.Prices.{Prices}
use Rattle.row.specs.Cores.{CoreMeaning}
use Rattle.study.specs.Run.{RunMeaning, Outcome}
use Rattle.study.specs.Step.{step}
use Rattle.study.specs.Opening.{zeroed, opened}
use Rattle.study.specs.Play.{played}
use Rattle.study.proofs.Outcomes.{of_step}

-- what each call of a memory keeps, each call of a run keeps
module _ (P : MemoryMeaning → Type 0) (next : (m : MemoryMeaning) (c : MemoryCall) → P m → P (after m c)) where
  pub step_keeps : (r : RunMeaning) (k : Call) → P r.memory → P (step r k).run.memory
  step_keeps r k h = of_step P next r h (λ (o : Outcome). P o.run.memory) (λ e. h) (λ room cs m p a b x q. p) k

  pub played-keeps : (ks : List Call) (r : RunMeaning) → P r.memory → P (played r ks).memory
  unfolding played
  played-keeps [] r h = h
  played-keeps (k ∷ ks) r h = played-keeps ks (step r k).run (step_keeps r k h)

  pub zeroed-keeps : (k : ℕ) (m : MemoryMeaning) → P m → P (zeroed k m)
  unfolding zeroed
  zeroed-keeps zero m h = h
  zeroed-keeps (suc k) m h = next (zeroed k m) (store k 0) (zeroed-keeps k m h)

  pub opened-keeps : (cs : List CoreMeaning) (m : MemoryMeaning) (w : Prices) (ks : List Call) → P m → P (played (opened cs m w) ks).memory
  opened-keeps cs m w ks h = played-keeps ks (opened cs m w) (zeroed-keeps (size_of m) m h)

abbrev names : MemoryMeaning → List ℕ
names m = map (λ (t : Lent). t.name) (lent_of m)

pub loans-kept : (cs : List CoreMeaning) (m : MemoryMeaning) (w : Prices) (ks : List Call) → LawfulMemory m
    → map (λ (t : Lent). t.name) (lent_of (played (opened cs m w) ks).memory) ≡ map (λ (t : Lent). t.name) (lent_of m)
loans-kept cs m w ks ok =
    (opened-keeps (λ (n : MemoryMeaning). LawfulMemory n × (names n ≡ names m)) (λ n c h. (λ ds. h.0 (c ∷ ds), (h.0 []).loans c ∙ h.1)) cs m w ks (ok, refl)).1
