-- What is held, and by which mark.
use Rattle.std.specs.Prelude.{◌≡◌, ◌≤◌, true, is_some, Some, None, Option, refl}
use Rattle.std.proofs.Common.{sym, ap, arith}
use Rattle.parts.specs.declared.mark.Mark.{Mark}
use Rattle.parts.specs.declared.mark.Mark.TheVariants.{Shared, Modified}
use Rattle.parts.specs.Marks.{mark_number}
use Rattle.tier.specs.Meaning.{Holding, if_held, bare}
use Rattle.tier.specs.Options.{never, some_of}

pub held-some : {X : Type 0} (o : Option Holding) (x y : X) → is_some o ≡ true → if_held o x y ≡ x
held-some o x y h = ap (λ p. if_held p x y) (some_of o h).1

pub held_none : {X : Type 0} (o : Option Holding) (x y : X) → o ≡ None → if_held o x y ≡ y
held_none o x y h = ap (λ p. if_held p x y) h

pub bare-none : (a : Option Holding) → bare a ≡ None → a ≡ None
bare-none None e = refl
bare-none (Some x) e = never (x.0, x.1) (sym e)

pub bare-held : (a : Option Holding) → is_some (bare a) ≡ is_some a
bare-held None = refl
bare-held (Some h) = refl

pub mark_low : (k : Mark) → mark_number k ≤ 1
mark_low Shared = omega arith
mark_low Modified = omega arith
