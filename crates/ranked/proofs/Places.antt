-- Where a block stands: what follows for the ranks from the first place that has it.
use Rattle.std.proofs.Common.{◌≡◌, ℕ, suc, ◌+◌, ◌<◌, ◌≤◌, Bool, true, false, not, cond, eqb, ltb, [], ◌∷◌, length, get_or, set, Some, None, sym, refl, ap, ◌∙◌, arith, ltb-true, ltb-false}
use Rattle.std.proofs.lemmas.Bool.Decides.{nat_tests}
use Rattle.std.specs.List.{remove, position, position_or_len}
use Rattle.parts.specs.declared.line.Line.{Line}
use Rattle.ranks.specs.Ranks.{Ranks, find, without, renewed, apart}
use Rattle.ranked.specs.Private.{no_line, Place}
use Rattle.ranks.proofs.RanksLemmas.{find-block, find-gone, without-none, apart-without, renewed-none, apart-renewed}

abbrev pub has : ℕ → Line → Bool
has n g = eqb g.block n

module _ (n : ℕ) where
  abbrev place : Ranks → ℕ
  place = position_or_len (has n)

  find_past : (ls : Ranks) → length ls ≤ place ls → find ls n ≡ None
  find_past [] le = refl
  find_past (g ∷ gs) le = let ih = find_past gs in grind (arith, nat_tests)

  find_at : (ls : Ranks) → place ls < length ls → find ls n ≡ Some (get_or ls (place ls) no_line)
  find_at [] lt = absurd (omega arith)
  find_at (g ∷ gs) lt = let ih = find_at gs in grind (arith, nat_tests)

  remove_at : (ls : Ranks) → place ls < length ls → remove ls (place ls) ≡ without ls n
  remove_at [] lt = absurd (omega arith)
  remove_at (g ∷ gs) lt = go (remove_at gs) (has n g) lt
    where
      go : (place gs < length gs → remove gs (place gs) ≡ without gs n) → (b : Bool) → cond (not b) (1 + place gs) 0 < length (g ∷ gs)
          → remove (g ∷ gs) (cond (not b) (1 + place gs) 0) ≡ cond b gs (g ∷ without gs n)
      go ih true lt = refl
      go ih false lt = let more : 1 + place gs ≡ suc (place gs) = omega arith in ap (remove (g ∷ gs)) more ∙ ap (λ xs. g ∷ xs) (ih (omega arith))

  set_at : (ls : Ranks) (x : Line) → x.block ≡ n → place ls < length ls → set ls (place ls) x ≡ renewed ls x
  set_at [] x e lt = absurd (omega arith)
  set_at (g ∷ gs) x e lt = let ih = set_at gs x e in grind (arith, nat_tests)

  placed : (ls : Ranks) (b : Bool) → apart ls ≡ true → ltb (place ls) (length ls) ≡ b → Place ls n (cond b (Some (place ls)) None)
  placed ls true a e =
      let lt = ltb-true (place ls) (length ls) e in
      let is = find_at ls lt in
      let cut = remove_at ls lt in
      record {
        within = lt;
        is = is;
        own = find-block ls n _ is;
        cut = cut;
        cut_alone = ap apart cut ∙ apart-without ls n a;
        cut_gone = ap (λ xs. find xs n) cut ∙ find-gone ls n a;
        new = λ x q. set_at ls x q lt;
        new_alone = λ x q. ap apart (set_at ls x q lt) ∙ apart-renewed ls x a;
      }
  placed ls false a e =
      let is = find_past ls (ltb-false (place ls) (length ls) e) in
      record { is = is; cut = without-none ls n is; new = λ x q. sym (renewed-none ls x (ap (find ls) q ∙ is)) }

  pub first_place : (ls : Ranks) → apart ls ≡ true → Place ls n (position (has n) ls)
  first_place ls a = placed ls (ltb (place ls) (length ls)) a refl
