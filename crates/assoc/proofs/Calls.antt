-- What the calls of the sets do to the tier.
use Rattle.std.proofs.Common.{◌≡◌, ℕ, ◌+◌, ◌%◌, ◌<◌, ◌≤◌, List, ◌++◌, map, length, get_or, set, take, drop, vec_items, vec_len, sym, ap, subst, ◌∙◌, mod-lt, arith}
use Rattle.std.proofs.lemmas.List.{append-nil, get_or-map, length-map, map-set, take_all, drop_all, with_items_is}
use Rattle.std.proofs.lemmas.List.Edits.{map_over_more}
use Rattle.std.specs.Vec.{with_items}
use Rattle.device.specs.Device.{after}
use Rattle.tier.specs.Meaning.{TierMeaning, TierCall, clear}
use Rattle.ranked.specs.declared.policy.Lru.{Lru}
use Rattle.ranked.specs.declared.ranked.Ranked.{Ranked}
use Rattle.assoc.specs.declared.set_associative.SetAssociative.{SetAssociative}
use Rattle.assoc.specs.Sets.{Sets, lru, nth, called, index, sets_step, Placed, lru_of, lrus_of}
use Rattle.assoc.specs.SetAssociative.{sets_of}
use Rattle.assoc.specs.SetsLaws.{keeps}
use Rattle.assoc.specs.Lrus.{good_of}

-- after a call each set still holds blocks of its own only
pub stays-placed : (t : SetAssociative) (ts : List (Ranked Lru)) (c : TierCall) → lrus_of ts ≡ sets_step (sets_of t) c → Placed (lrus_of ts)
stays-placed t ts c e = subst (λ (ms : Sets). Placed ms) (sym e) (keeps (sets_of t) (good_of t) c).placed

-- the set x of block n becomes y
pub set-placed : (t : SetAssociative) (n : ℕ) (c : TierCall) {i : ℕ} {x : Ranked Lru} (y : Ranked Lru) → sets_step (sets_of t) c ≡ called (sets_of t) (index (sets_of t) n) c
    → i ≡ index (sets_of t) n → x ≡ get_or (vec_items t.sets) i x → lru_of y ≡ after (lru_of x) c → Placed (lrus_of (set (vec_items t.sets) i y))
set-placed t n c {i} {x} y step at is did =
    let ts = vec_items t.sets in
    let count : vec_len t.sets ≡ length (sets_of t) = t.sets.ok.0 ∙ sym (length-map ts lru_of) in
    let lt : i < vec_len t.sets = subst (λ (j : ℕ). j < vec_len t.sets) (ap (λ j. n % j) count ∙ sym at) (mod-lt n t.some) in
    let was : lru_of x ≡ nth (sets_of t) i = ap lru_of is ∙ sym (get_or-map lru_of ts i x (lru 1) (omega (arith, t.sets.ok.0))) in
    stays-placed t _ c (map-set lru_of ts i y ∙ ap (set (sets_of t) i) (did ∙ ap (λ m. after m c) was) ∙ ap (λ j. called (sets_of t) j c) at ∙ sym step)

-- ---- all sets, one after another

abbrev cleared : TierMeaning → TierMeaning
cleared m = after m clear

-- the sets ts are those of t, the first i of them cleared
abbrev pub Cleared : SetAssociative → ℕ → List (Ranked Lru) → Type 0
Cleared t i ts = lrus_of ts ≡ map cleared (take i (sets_of t)) ++ drop i (sets_of t)

pub cleared_more : (t : SetAssociative) (ts : List (Ranked Lru)) (i : ℕ) (d y : Ranked Lru) → i < vec_len t.sets → length ts ≡ vec_len t.sets → Cleared t i ts
    → lru_of y ≡ cleared (lru_of (get_or ts i d)) → Cleared t (i + 1) (set ts i y)
cleared_more t ts i d y lt len h did =
    let all = length-map (vec_items t.sets) lru_of in
    map-set lru_of ts i y ∙ ap (set (lrus_of ts) i) did
    ∙ map_over_more cleared (sets_of t) (lrus_of ts) i _ (omega (arith, t.sets.ok.0)) h (sym (get_or-map lru_of ts i d _ (omega arith)))

pub cleared_all : (t : SetAssociative) (ts : List (Ranked Lru)) (i : ℕ) → vec_len t.sets ≤ i → length ts ≡ vec_len t.sets → Cleared t i ts
    → lrus_of (vec_items (with_items t.sets ts)) ≡ sets_step (sets_of t) clear
cleared_all t ts i le len h =
    let all = length-map (vec_items t.sets) lru_of in
    let past : length (sets_of t) ≤ i = omega (arith, t.sets.ok.0) in
    ap lrus_of (with_items_is t.sets ts len) ∙ h ∙ grind (arith, take_all i (sets_of t) past, drop_all i (sets_of t) past, append-nil)
