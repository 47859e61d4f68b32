-- A set of lines gives one out just where all its ways are taken.
use Rattle.std.proofs.Common.{◌≡◌, ℕ, ◌%◌, ◌≤◌, Bool, true, false, cond, ◌&&◌, List, [], ◌∷◌, length, map, is_some, Some, refl, sym, ap, ◌∙◌, arith, nat_eq, nat_le, ◌==◌, true≢false}
use Rattle.std.proofs.lemmas.List.{length-map}
use Rattle.std.proofs.lemmas.Bool.Decides.{nat_tests}
use Rattle.std.specs.List.{AllByRecursion, IsDistinct}
use Rattle.std.specs.Set.{is_member}
use Rattle.parts.specs.declared.mark.Mark.{Mark}
use Rattle.parts.specs.declared.line.Line.{Line}
use Rattle.tier.specs.Meaning.{TierMeaning, look_of, out_of}
use Rattle.ranks.specs.Ranks.{Ranks, find, ousted, apart}
use Rattle.ranked.specs.Ages.{LeavesWhenFull}

abbrev pub blocks : Ranks → List ℕ
blocks = map (λ (g : Line). g.block)

pub member_found : (ls : Ranks) (b : ℕ) → is_member nat_eq (blocks ls) b ≡ is_some (find ls b)
member_found [] b = refl
member_found (g ∷ gs) b = let ih = member_found gs b in grind (arith, nat_tests)

-- a block that is not found is none of the blocks
absent : (ls : Ranks) (n : ℕ) → is_some (find ls n) ≡ false → AllByRecursion (λ y. nat_eq n y ≡ false) (blocks ls)
absent [] n e = tt
absent (g ∷ gs) n e = go (absent gs n) (g.block == n) refl e
  where
    go : (is_some (find gs n) ≡ false → AllByRecursion (λ y. nat_eq n y ≡ false) (blocks gs)) → (b : Bool) → (g.block == n) ≡ b → is_some (cond b (Some g) (find gs n)) ≡ false
        → (nat_eq n g.block ≡ false) × AllByRecursion (λ y. nat_eq n y ≡ false) (blocks gs)
    go rest true q r = absurd (true≢false r)
    go rest false q r = (grind (arith, nat_tests), rest r)

distinct : (ls : Ranks) → apart ls ≡ true → IsDistinct nat_eq (blocks ls)
unfolding IsDistinct
distinct [] a = tt
distinct (g ∷ gs) a = go (distinct gs) (is_some (find gs g.block)) refl a
  where
    go : (apart gs ≡ true → IsDistinct nat_eq (blocks gs)) → (b : Bool) → is_some (find gs g.block) ≡ b → cond b false (apart gs) ≡ true
        → AllByRecursion (λ y. nat_eq g.block y ≡ false) (blocks gs) × IsDistinct nat_eq (blocks gs)
    go rest true e q = absurd (true≢false (sym q))
    go rest false e q = (absent gs g.block e, rest q)

full_ways : (ways : ℕ) (ls : Ranks) → 1 ≤ ways → is_some (ousted ways ls) ≡ nat_le ways (length (blocks ls))
full_ways ways [] h = grind (arith, nat_tests)
full_ways ways (g ∷ gs) h = grind (arith, nat_tests, length-map)

-- the lines ls are those of the set of block n
pub full_set : (sets ways : ℕ) (m : TierMeaning) (n : ℕ) (ls : Ranks) → 1 ≤ ways → apart ls ≡ true
    → ((b : ℕ) → is_some (find ls b) ≡ (is_some (look_of m b) && b % sets == n % sets))
    → ((k : Mark) (s : ℕ) → out_of m n k s ≡ ousted ways ls)
    → LeavesWhenFull sets ways m n
full_set sets ways m n ls some ok held out = record {
  blocks = blocks ls;
  held = λ b. member_found ls b ∙ held b;
  once = distinct ls ok;
  full = λ k s. ap is_some (out k s) ∙ full_ways ways ls some;
}
