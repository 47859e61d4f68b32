-- What each movement of a block costs.
use Rattle.std.specs.Prelude.{◌≡◌, ℕ, ◌≤◌, Bool, false, cond, ◌||◌, Ok, Err, Result, ◌==◌, nat_lt}
use Rattle.protocol.specs.declared.refusal.Refusal.{Refusal}
use Rattle.protocol.specs.declared.refusal.Refusal.TheVariants.{WeightTooHigh}
use Rattle.protocol.specs.declared.weights.Movement.{Movement}
use Rattle.protocol.specs.declared.weights.Movement.TheVariants.{Still, FromLevel, Memory}
use Rattle.protocol.specs.declared.weights.Prices.{Prices}

-- the weights of the four levels and of main memory
abbrev pub prices : ℕ → ℕ → ℕ → ℕ → ℕ → Prices
prices a b c d m = record { w1 = a; w2 = b; w3 = c; w4 = d; wm = m }

abbrev pub none : Prices
none = prices 0 0 0 0 0

-- the weight of a level
abbrev pub level_price : Prices → ℕ → ℕ
level_price w l = cond (l == 1) w.w1 (cond (l == 2) w.w2 (cond (l == 3) w.w3 w.w4))

abbrev pub price : Prices → Movement → ℕ
price w Still = 0
price w (FromLevel l) = level_price w l
price w Memory = w.wm

-- the largest weight
abbrev pub most_weight : ℕ
most_weight = 1000

-- one of the five weights is above it
unfoldable pub is_dear : Prices → Bool
is_dear w = nat_lt most_weight w.w1 || (nat_lt most_weight w.w2 || (nat_lt most_weight w.w3 || (nat_lt most_weight w.w4 || nat_lt most_weight w.wm)))

-- all five weights are set, or none if one is too high
abbrev pub weighing : Prices → Result Prices Refusal
weighing w = cond (is_dear w) (Err WeightTooHigh) (Ok w)

-- weights that weighing takes: none is above it
abbrev pub Affordable : Prices → Type 0
Affordable w = is_dear w ≡ false

-- no weight is above 1,000
pub record Fair (w : Prices) : Type 0 where
  pub w1 : w.w1 ≤ 1000
  pub w2 : w.w2 ≤ 1000
  pub w3 : w.w3 ≤ 1000
  pub w4 : w.w4 ≤ 1000
  pub wm : w.wm ≤ 1000

-- weights are taken, as they are, just where none is above 1,000, and refused by 3 where one is
abbrev pub WeighingTold : Prices → Result Prices Refusal → Type 0
WeighingTold w (Ok p) = Fair w × (p ≡ w)
WeighingTold w (Err e) = (Fair w → ⊥) × (e ≡ WeightTooHigh)
