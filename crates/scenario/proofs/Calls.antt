-- The calls of a text whose first line is cut off.
use Rattle.std.proofs.Common.{◌≡◌, ℕ, ◌≤◌, List, [], ◌∷◌, length, Some, None, sym, refl, ap, ◌∙◌, arith}
use Rattle.fields.specs.Parts.{parts}
use Rattle.fields.proofs.Cuts.{some}
use Rattle.protocol.specs.declared.call.Call.{Call}
use Rattle.records.specs.declared.keyword.Section.TheVariants.{Steps}
use Rattle.scenario.specs.Changes.{line_change}
use Rattle.scenario.specs.Steps.{made, onto, calls_from}

more : (layout : List ℕ) (p : List ℕ) (ps : List (List ℕ)) → 1 ≤ length ps → calls_from layout (p ∷ ps) ≡ onto (made (line_change layout Steps 1 p)) (calls_from layout ps)
unfolding calls_from
more layout p [] h = absurd (omega arith)
more layout p (q ∷ ps) h = refl

module _ (layout : List ℕ) (bs p rest : List ℕ) (cut : parts 10 bs ≡ p ∷ parts 10 rest) where
  calls_more : calls_from layout (parts 10 bs) ≡ onto (made (line_change layout Steps 1 p)) (calls_from layout (parts 10 rest))
  calls_more = ap (calls_from layout) cut ∙ more layout p (parts 10 rest) (some 10 rest)

  pub calls_first : (k : Call) → Some k ≡ made (line_change layout Steps 1 p) → calls_from layout (parts 10 bs) ≡ k ∷ calls_from layout (parts 10 rest)
  calls_first k e = calls_more ∙ ap (λ o. onto o (calls_from layout (parts 10 rest))) (sym e)

  pub calls_end : None ≡ made (line_change layout Steps 1 p) → calls_from layout (parts 10 bs) ≡ []
  calls_end e = calls_more ∙ ap (λ o. onto o (calls_from layout (parts 10 rest))) (sym e)

pub calls_last : (layout : List ℕ) (bs : List ℕ) → parts 10 bs ≡ bs ∷ [] → calls_from layout (parts 10 bs) ≡ []
unfolding calls_from
calls_last layout bs e = ap (calls_from layout) e
