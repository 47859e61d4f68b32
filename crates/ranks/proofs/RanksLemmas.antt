-- Lines by age: what is found in them after an edit, and that no block stands twice.
use Rattle.std.specs.Prelude.{◌≡◌, ℕ, suc, true, cond, [], ◌∷◌, ◌++◌, length, Some, None, ◌≢◌, refl}
use Rattle.std.proofs.Common.{ap, arith, eq-eqb}
use Rattle.std.proofs.lemmas.Bool.Decides.{nat_tests}
use Rattle.parts.specs.declared.line.Line.{Line}
use Rattle.tier.specs.Options.{never}
use Rattle.tier.proofs.Options.{not_some}
use Rattle.ranks.specs.Ranks.{Ranks, find, without, renewed, oldest, younger, apart}

pub find-block : (ls : Ranks) (n : ℕ) (g : Line) → find ls n ≡ Some g → g.block ≡ n
find-block [] n g e = never g e
find-block (h ∷ hs) n g e = let ih = find-block hs n g in grind (arith, nat_tests)

-- ---- without a block

pub find-without : (ls : Ranks) (n b : ℕ) → (b ≢ n) → find (without ls n) b ≡ find ls b
find-without [] n b ne = refl
find-without (h ∷ hs) n b ne = let ih = find-without hs n b ne in grind (arith, nat_tests)

pub find-gone : (ls : Ranks) (n : ℕ) → apart ls ≡ true → find (without ls n) n ≡ None
find-gone [] n a = refl
find-gone (h ∷ hs) n a = let ih = find-gone hs n in grind (arith, nat_tests, not_some)

pub without-none : (ls : Ranks) (n : ℕ) → find ls n ≡ None → ls ≡ without ls n
without-none [] n e = refl
without-none (h ∷ hs) n e = let ih = without-none hs n in grind (arith, nat_tests)

pub apart-without : (ls : Ranks) (n : ℕ) → apart ls ≡ true → apart (without ls n) ≡ true
apart-without [] n a = refl
apart-without (h ∷ hs) n a = let ih = apart-without hs n in let fw = find-without hs n h.block in grind (arith, nat_tests)

pub length_without : (ls : Ranks) (n : ℕ) (g : Line) → find ls n ≡ Some g → suc (length (without ls n)) ≡ length ls
length_without [] n g e = never g e
length_without (h ∷ hs) n g e = let ih = length_without hs n g in grind (arith, nat_tests)

-- ---- with one line more

pub find-push : (ls : Ranks) (x : Line) → find ls x.block ≡ None → find (ls ++ x ∷ []) x.block ≡ Some x
find-push [] x e = ap (λ b. cond b (Some x) None) (eq-eqb x.block x.block refl)
find-push (h ∷ hs) x e = let ih = find-push hs x in grind (arith, nat_tests)

pub find-push-other : (ls : Ranks) (x : Line) (b : ℕ) → (b ≢ x.block) → find (ls ++ x ∷ []) b ≡ find ls b
find-push-other [] x b ne = grind (arith, nat_tests)
find-push-other (h ∷ hs) x b ne = let ih = find-push-other hs x b ne in grind (arith, nat_tests)

pub apart-push : (ls : Ranks) (x : Line) → apart ls ≡ true → find ls x.block ≡ None → apart (ls ++ x ∷ []) ≡ true
apart-push [] x a e = refl
apart-push (h ∷ hs) x a e = let ih = apart-push hs x in let fw = find-push-other hs x h.block in grind (arith, nat_tests)

-- ---- with a line renewed

pub find-renewed : (ls : Ranks) (x g : Line) → find ls x.block ≡ Some g → find (renewed ls x) x.block ≡ Some x
find-renewed [] x g e = never g e
find-renewed (h ∷ hs) x g e = let ih = find-renewed hs x g in grind (arith, nat_tests)

pub find-renewed-other : (ls : Ranks) (x : Line) (b : ℕ) → (b ≢ x.block) → find (renewed ls x) b ≡ find ls b
find-renewed-other [] x b ne = refl
find-renewed-other (h ∷ hs) x b ne = let ih = find-renewed-other hs x b ne in grind (arith, nat_tests)

pub renewed-none : (ls : Ranks) (x : Line) → find ls x.block ≡ None → renewed ls x ≡ ls
renewed-none [] x e = refl
renewed-none (h ∷ hs) x e = let ih = renewed-none hs x in grind (arith, nat_tests)

pub apart-renewed : (ls : Ranks) (x : Line) → apart ls ≡ true → apart (renewed ls x) ≡ true
apart-renewed [] x a = refl
apart-renewed (h ∷ hs) x a = let ih = apart-renewed hs x in let fw = find-renewed-other hs x h.block in grind (arith, nat_tests)

pub length-renewed : (ls : Ranks) (x : Line) → length (renewed ls x) ≡ length ls
length-renewed [] x = refl
length-renewed (h ∷ hs) x = let ih = length-renewed hs x in grind (arith, nat_tests)

-- ---- without the oldest

pub oldest_found : (ls : Ranks) (g : Line) → oldest ls ≡ Some g → find ls g.block ≡ Some g
oldest_found [] g e = never g e
oldest_found (h ∷ hs) g e = grind (arith, nat_tests)

pub younger-gone : (ls : Ranks) (g : Line) → apart ls ≡ true → oldest ls ≡ Some g → find (younger ls) g.block ≡ None
younger-gone [] g a e = refl
younger-gone (h ∷ hs) g a e = grind (arith, nat_tests, not_some)

pub younger-rest : (ls : Ranks) (b : ℕ) → ((g : Line) → oldest ls ≡ Some g → g.block ≢ b) → find (younger ls) b ≡ find ls b
younger-rest [] b h = refl
younger-rest (g ∷ gs) b h = let ne = h g refl in grind (arith, nat_tests)

pub younger-none : (ls : Ranks) (b : ℕ) → find ls b ≡ None → find (younger ls) b ≡ None
younger-none [] b e = e
younger-none (h ∷ hs) b e = grind (arith, nat_tests)

pub apart-younger : (ls : Ranks) → apart ls ≡ true → apart (younger ls) ≡ true
apart-younger [] a = a
apart-younger (h ∷ hs) a = grind (arith, nat_tests)
