-- The first bytes of an input.
use Rattle.std.proofs.Common.{◌≡◌, ℕ, List, [], ◌++◌, take, Some, None, Option, option_map, IfSome, ap, ◌∙◌, arith}
use Rattle.std.proofs.lemmas.List.{take-take}

pub taken : (given : Option (List ℕ)) (n : ℕ) (bytes cut : List ℕ) → cut ≡ take n bytes → IfSome (option_map (take n) given) (λ xs. bytes ≡ [] ++ xs) → IfSome given (λ xs. cut ≡ take n xs)
taken None n bytes cut e h = tt
taken (Some xs) n bytes cut e h = e ∙ ap (take n) h ∙ take-take n n xs (omega arith)
