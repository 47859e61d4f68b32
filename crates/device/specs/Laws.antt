-- How a law of a device is proved: by a fact of its states that every call keeps.
use Rattle.std.specs.Prelude.{◌≡◌, refl, List, [], ◌∷◌}
use Rattle.std.proofs.Common.{ap, subst}
use Rattle.device.specs.Device.{Device, after, reach, seen, Always, run, device}

-- what is seen after a list of calls
pub seen-reach : {K C V : Type 0} (d : Device K C V) (cs : List C) → seen (reach d cs) ≡ d.shows cs
seen-reach d [] = refl
seen-reach d (c ∷ cs) = seen-reach (after d c) cs

module _ {S K C V : Type 0} (fixed : S → K) (view : S → V) (step : S → C → S) (stays : (s : S) (c : C) → fixed (step s c) ≡ fixed s) where
  -- the device of the next state is the device after the call
  pub device-after : (s : S) (c : C) → device fixed view step (step s c) ≡ after (device fixed view step s) c
  device-after s c =
      let with-fixed : K → Device K C V = λ k. record { fixed = k; shows = λ cs. view (run step (step s c) cs) } in
      ap with-fixed (stays s c)

  -- what holds of the device at each good state holds always, if calls keep states good
  pub device_always : (P : Device K C V → Type 0) (Good : S → Type 0)
      → ((s : S) (c : C) → Good s → Good (step s c))
      → ((s : S) → Good s → P (device fixed view step s))
      → (s : S) → Good s → Always P (device fixed view step s)
  device_always P Good keeps holds s good [] = holds s good
  device_always P Good keeps holds s good (c ∷ cs) =
      let Q : Device K C V → Type 0 = λ d. P (reach d cs) in
      subst Q (device-after s c) (device_always P Good keeps holds (step s c) (keeps s c good) cs)
