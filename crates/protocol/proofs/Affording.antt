-- What weights that are taken cost at most.
use Rattle.std.specs.Prelude.{◌≡◌, ℕ, ◌≤◌, Bool, true, false, cond, ◌||◌, Ok, Err}
use Rattle.std.proofs.Common.{eqb, ltb, sym, refl, ◌∙◌, arith, ltb-true, ltb-false}
use mathlib.Core.Bool.{false≢true}
use Rattle.std.proofs.lemmas.Bool.{or_parts}
use Rattle.protocol.specs.declared.weights.Movement.{Movement}
use Rattle.protocol.specs.declared.weights.Movement.TheVariants.{Still, FromLevel, Memory}
use Rattle.protocol.specs.declared.weights.Prices.{Prices}
use Rattle.protocol.specs.declared.refusal.Refusal.TheVariants.{WeightTooHigh}
use Rattle.protocol.specs.Prices.{is_dear, weighing, Affordable, Fair, WeighingTold, price}

-- the five weights one by one
within : (w : Prices) → Affordable w → Fair w
unfolding is_dear
within w h =
    let p1 = or_parts (ltb 1000 w.w1) _ h in
    let p2 = or_parts (ltb 1000 w.w2) _ p1.1 in
    let p3 = or_parts (ltb 1000 w.w3) _ p2.1 in
    let p4 = or_parts (ltb 1000 w.w4) _ p3.1 in
    record {
      w1 = ltb-false 1000 w.w1 p1.0;
      w2 = ltb-false 1000 w.w2 p2.0;
      w3 = ltb-false 1000 w.w3 p3.0;
      w4 = ltb-false 1000 w.w4 p4.0;
      wm = ltb-false 1000 w.wm p4.1;
    }

-- no movement costs more than 1,000
pub priced : (w : Prices) → Affordable w → (a : Movement) → price w a ≤ 1000
priced w h Still = omega arith
priced w h Memory = (within w h).wm
priced w h (FromLevel l) = let x = within w h in either (eqb l 1) _ _ x.w1 (either (eqb l 2) _ _ x.w2 (either (eqb l 3) _ _ x.w3 x.w4))
  where
    either : (b : Bool) (i j : ℕ) → i ≤ 1000 → j ≤ 1000 → cond b i j ≤ 1000
    either true i j p q = p
    either false i j p q = q

-- what weighing says is so: weights within the limit are not dear
low : (x : ℕ) → x ≤ 1000 → ltb 1000 x ≡ false
low x h = go (ltb 1000 x) refl
  where
    go : (b : Bool) → ltb 1000 x ≡ b → ltb 1000 x ≡ false
    go false e = e
    go true e = let z = ltb-true 1000 x e in absurd (omega (arith, z, h))

fair : (w : Prices) → Fair w → is_dear w ≡ false
unfolding is_dear
fair w h = rw (low w.w1 h.w1, low w.w2 h.w2, low w.w3 h.w3, low w.w4 h.w4, low w.wm h.wm) refl

pub weighing_told : (w : Prices) → WeighingTold w (weighing w)
weighing_told w = go (is_dear w) refl
  where
    go : (b : Bool) → is_dear w ≡ b → WeighingTold w (cond b (Err WeightTooHigh) (Ok w))
    go true e = (λ h. false≢true (sym (fair w h) ∙ e), refl)
    go false e = (within w e, refl)
