-- An option that is no value is none.
use Rattle.std.proofs.Common.{◌≡◌, ℕ, false, is_some, Some, None, Option, refl, arith}

pub not_some : {X : Type 0} (o : Option X) → is_some o ≡ false → o ≡ None
not_some None h = refl
not_some (Some x) h = let z : ◌≡◌ {A = ℕ} 0 1 = cc in absurd (omega arith)
