-- The sets of the code, each of least recent use: they are good, and what a call of one comes to.
use Rattle.std.specs.Prelude.{ℕ, zero, suc, ◌<◌, true, List, [], ◌∷◌, length, vec_items}
use Rattle.std.proofs.Common.{arith}
use Rattle.std.proofs.lemmas.List.{length-map, map-set, get_or-map}
use Rattle.tier.specs.Meaning.{Lawful}
use Rattle.ranked.specs.declared.policy.Lru.{Lru}
use Rattle.ranked.specs.declared.ranked.Ranked.{Ranked}
use Rattle.ranked.specs.RankedLaws.{ranked-lawful}
use Rattle.assoc.specs.declared.set_associative.SetAssociative.{SetAssociative}
use Rattle.assoc.specs.Sets.{nth, lru_of, lrus_of}
use Rattle.assoc.specs.SetAssociative.{sets_of}
use Rattle.assoc.specs.SetsLaws.{Good}

lrus_lawful : (ts : List (Ranked Lru)) (i : ℕ) → i < length ts → Lawful (nth (lrus_of ts) i)
lrus_lawful [] i lt = absurd (omega arith)
lrus_lawful (t ∷ ts) zero lt = ranked-lawful true t.ways (vec_items t.held) t.alone
lrus_lawful (t ∷ ts) (suc i) lt = lrus_lawful ts i (omega arith)

pub good_of : (t : SetAssociative) → Good (sets_of t)
good_of t =
    let len = length-map (vec_items t.sets) lru_of in
    let ok = t.sets.ok.0 in
    record {
      some = let h = t.some in omega arith;
      lawful = λ i lt. lrus_lawful (vec_items t.sets) i (omega arith);
      placed = t.placed;
    }

-- the meaning of one set, and of all after a call of one
pub ruleset set_means = (length-map, map-set, get_or-map)
