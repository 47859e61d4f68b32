-- A message to two rows: the first row gets it, then the second, numbered on from the first.
use Rattle.std.proofs.Common.{◌≡◌, ℕ, suc, ◌+◌, ◌≤◌, min, false, ◌||◌, ◌&&◌, List, [], ◌∷◌, ◌++◌, length, None, refl, arith}
use Rattle.std.specs.Option.{option_or}
use Rattle.row.specs.Cores.{CoreMeaning, count_of, reaches, dropped, invalidated, later, met_by, met, awaits, awaited, renewed}

-- the number of the second row's first core, if the first row is numbered from i; it stops at the largest number
abbrev pub after_row : ℕ → List CoreMeaning → ℕ
after_row i xs = min 65535 (i + count_of xs)

module _ (sender n : ℕ) where
  -- no message reaches a core from number 8 on

  unreached : (i : ℕ) → 8 ≤ i → reaches sender i ≡ false
  unreached i h = grind arith

  invalidated_far : (i : ℕ) (xs : List CoreMeaning) → 8 ≤ i → invalidated i sender n xs ≡ xs
  unfolding invalidated
  invalidated_far i [] h = refl
  invalidated_far i (x ∷ xs) h = λ t. dropped (unreached i h t) n x ∷ invalidated_far (suc i) xs (omega arith) t

  met_far : (i : ℕ) (xs : List CoreMeaning) → 8 ≤ i → met i sender n xs ≡ None
  unfolding met
  met_far i [] h = refl
  met_far i (x ∷ xs) h = λ t. later (met_by (unreached i h t) n x) (met_far (suc i) xs (omega arith) t)

  awaited_far : (i : ℕ) (xs : List CoreMeaning) → 8 ≤ i → awaited i sender n xs ≡ false
  unfolding awaited
  awaited_far i [] h = refl
  awaited_far i (x ∷ xs) h = λ t. (unreached i h t && awaits n x.state) || awaited_far (suc i) xs (omega arith) t

  -- so any number that agrees up to 8 serves

  pub invalidated_on : (i j : ℕ) (xs ys : List CoreMeaning) → min 8 j ≡ min 8 (i + length xs) → invalidated i sender n (xs ++ ys) ≡ invalidated i sender n xs ++ invalidated j sender n ys
  unfolding invalidated
  invalidated_on i j [] ys e = grind (arith, invalidated_far)
  invalidated_on i j (x ∷ xs) ys e = grind (arith, invalidated_on (suc i) j xs ys (omega arith))

  pub met_on : (i j : ℕ) (xs ys : List CoreMeaning) → min 8 j ≡ min 8 (i + length xs) → met i sender n (xs ++ ys) ≡ option_or (met j sender n ys) (met i sender n xs)
  unfolding met
  met_on i j [] ys e = grind (arith, met_far)
  met_on i j (x ∷ xs) ys e = grind (arith, met_on (suc i) j xs ys (omega arith))

  pub awaited_on : (i j : ℕ) (xs ys : List CoreMeaning) → min 8 j ≡ min 8 (i + length xs) → awaited i sender n (xs ++ ys) ≡ (awaited i sender n xs || awaited j sender n ys)
  unfolding awaited
  awaited_on i j [] ys e = grind (arith, awaited_far)
  awaited_on i j (x ∷ xs) ys e = grind (arith, awaited_on (suc i) j xs ys (omega arith))

  module _ (i : ℕ) (xs ys : List CoreMeaning) where
    pub invalidated_both : invalidated i sender n (xs ++ ys) ≡ invalidated i sender n xs ++ invalidated (after_row i xs) sender n ys
    invalidated_both = invalidated_on i (after_row i xs) xs ys (omega arith)

    pub met_both : met i sender n (xs ++ ys) ≡ option_or (met (after_row i xs) sender n ys) (met i sender n xs)
    met_both = met_on i (after_row i xs) xs ys (omega arith)

    pub awaited_both : awaited i sender n (xs ++ ys) ≡ (awaited i sender n xs || awaited (after_row i xs) sender n ys)
    awaited_both = awaited_on i (after_row i xs) xs ys (omega arith)

pub renewed_both : (xs ys : List CoreMeaning) → renewed (xs ++ ys) ≡ renewed xs ++ renewed ys
unfolding renewed
renewed_both [] ys = refl
renewed_both (x ∷ xs) ys = grind (arith, renewed_both xs ys)

-- what the calls that every core gets come to
pub ruleset by_row = (invalidated_both, met_both, awaited_both, renewed_both)
