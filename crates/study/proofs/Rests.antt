-- What is left of a tier and of memory when a line has left for a block: no other block is gone. And what its leaving costs.
use Rattle.std.proofs.Common.{◌≡◌, ℕ, ◌<◌, ◌≤◌, ◌≢◌, Some, None, Option, sym, refl, ap, ◌∙◌, subst}
use Rattle.std.proofs.lemmas.Option.{same_Some}
use Rattle.parts.specs.declared.mark.Mark.{Mark}
use Rattle.parts.specs.declared.mark.Mark.TheVariants.{Shared, Modified}
use Rattle.parts.specs.declared.line.Line.{Line}
use Rattle.parts.specs.Marks.{mark_number}
use Rattle.tier.specs.Meaning.{TierMeaning}
use Rattle.memory.specs.Meaning.{MemoryMeaning, store, size_of, Lawful as LawfulMemory}
use Rattle.protocol.specs.declared.weights.Prices.{Prices}
use Rattle.protocol.specs.Prices.{level_price, price}
use Rattle.row.specs.Cores.{tier_at}
use Rattle.study.specs.Run.{RunMeaning}
use Rattle.study.specs.Step.{valid, memory_taking_as, memory_taking, movement_as, movement_of}
use Rattle.study.specs.Coherence.{copy_of}
use Rattle.study.specs.Told.{Keeps, taking_as, taking, LevelWeight, leaving_as, leaving_price, unless_modified, Leaves, Rest}
use Rattle.study.proofs.Block.{Copy}
use Rattle.study.proofs.Tiers.{held, Passed, stayed, gone}
use Rattle.study.proofs.Memories.{valid-named, left-others}

-- what the leaving of a line costs, and what memory takes of it
pub leaving_cost : (w : Prices) (o : Option Line) → price w (movement_of o) ≡ leaving_price w o
leaving_cost w None = refl
leaving_cost w (Some g) = go g.mark
  where
    go : (k : Mark) → price w (movement_as k) ≡ leaving_as w k
    go Shared = refl
    go Modified = refl

pub takes : (o : Option Line) (m : MemoryMeaning) → memory_taking o m ≡ taking o m
takes None m = refl
takes (Some g) m = go g.mark
  where
    go : (k : Mark) → memory_taking_as k g.block g.stamp m ≡ taking_as k g.block g.stamp m
    go Shared = refl
    go Modified = refl

-- each level has its weight
pub level_weight : (w : Prices) (l : ℕ) → 1 ≤ l → l ≤ 4 → LevelWeight w l (level_price w l)
level_weight w l low high = record { low = low; high = high; first = λ e. ap (level_price w) e; second = λ e. ap (level_price w) e; third = λ e. ap (level_price w) e; fourth = λ e. ap (level_price w) e }

-- core c of the run r gives out o for block n, and its tier is then t, but for that block
module _ (r r' : RunMeaning) (c n : ℕ) (t : TierMeaning) (o : Option Line) (ok : LawfulMemory r.memory)
    (inside : (b : ℕ) (x : Copy) → copy_of r.cores c b ≡ Some x → b < size_of r.memory)
    (copies : (b : ℕ) → b ≢ n → copy_of r'.cores c b ≡ held t b)
    (memory : (b : ℕ) → b ≢ n → valid r'.memory b ≡ valid (memory_taking o r.memory) b)
    (passed : (b : ℕ) → b ≢ n → Passed (tier_at r.cores c) t o b)
    (stays : (g : Line) → o ≡ Some g → n ≢ g.block) where
  pub keeps : (b : ℕ) → b ≢ n → ((g : Line) → o ≡ Some g → b ≢ g.block) → Passed (tier_at r.cores c) t o b → Keeps c b r r'
  keeps b ne not (stayed e f) = (copies b ne ∙ e, memory b ne ∙ left-others r.memory ok o b f)
  keeps b ne not (gone g e q x y) = absurd (not g e q)

  stored : (k : Mark) (b s : ℕ) → b < size_of r.memory → valid (memory_taking_as k b s r.memory) b ≡ unless_modified k s (valid r.memory b)
  stored Shared b s h = refl
  stored Modified b s h = valid-named r.memory ok (store b s) h

  pub leaves : (g : Line) → o ≡ Some g → Leaves c n g r r'
  leaves g e = go (passed g.block apart)
    where
      apart : g.block ≢ n
      apart q = stays g e (sym q)

      go : Passed (tier_at r.cores c) t o g.block → Leaves c n g r r'
      go (stayed x f) = absurd (f g e refl)
      go (gone g' e' q x y) =
          let same : g' ≡ g = same_Some g' g (sym e' ∙ e) in
          let here : copy_of r.cores c g.block ≡ Some (mark_number g.mark, g.stamp) =
          subst (λ (z : Line). held (tier_at r.cores c) z.block ≡ Some (mark_number z.mark, z.stamp)) same x in
          record {
            other = apart;
            held = here;
            gone = copies g.block apart ∙ ap (held t) q ∙ y;
            memory = memory g.block apart ∙ ap (λ i. valid (memory_taking i r.memory) g.block) e ∙ stored g.mark g.block g.stamp (inside g.block _ here);
          }

  abbrev pub rest-of : Rest c n r r'
  rest-of = record { leaver = o; left = leaves; kept = λ b ne not. keeps b ne not (passed b ne) }
