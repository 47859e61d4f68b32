-- Cases of an option.
use Rattle.std.specs.Prelude.{◌≡◌, ℕ, true, is_some, Some, None, Option, refl}
use Rattle.std.proofs.Common.{ap, arith}

module _ {X : Type 0} where
  pub never : {P : Type 0} (x : X) → ◌≡◌ {A = Option X} None (Some x) → P
  never x e = let z : ◌≡◌ {A = ℕ} 0 1 = cc in absurd (omega arith)

  pub none-some : {P : Type 0} (o : Option X) (x : X) → o ≡ None → o ≡ Some x → P
  none-some o x p q = let z : ◌≡◌ {A = ℕ} 0 1 = cc in absurd (omega arith)

  pub is_some_lem : (o : Option X) (x : X) → o ≡ Some x → is_some o ≡ true
  is_some_lem o x e = ap is_some e

  pub some_of : (o : Option X) → is_some o ≡ true → (x : X) × (o ≡ Some x)
  some_of None h = let z : ◌≡◌ {A = ℕ} 0 1 = cc in absurd (omega arith)
  some_of (Some x) h = (x, refl)
