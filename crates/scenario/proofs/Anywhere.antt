-- The call of a step does not depend on where its line stands.
use Rattle.std.proofs.Common.{◌≡◌, ℕ, ◌+◌, Bool, true, false, cond, List, [], ◌∷◌, length, slice_get, nat_lt, ◌==◌, Some, None, Ok, Err, Option, Result, sym, refl, subst, ap, ◌∙◌, arith}
use Rattle.fields.specs.Parts.{parts}
use Rattle.numeral.specs.declared.BadNumber.{BadNumber}
use Rattle.numeral.specs.Number.{number_of}
use Rattle.protocol.specs.declared.call.Call.{Call}
use Rattle.protocol.specs.declared.weights.Prices.{Prices}
use Rattle.records.specs.declared.fault.Place.{Place}
use Rattle.records.specs.declared.fault.TextFault.{TextFault}
use Rattle.records.specs.declared.fault.TextFault.TheVariants.{Unended, Misplaced}
use Rattle.records.specs.declared.keyword.Keyword.{Keyword}
use Rattle.records.specs.declared.keyword.Keyword.TheVariants.{Weights, Ref, Step}
use Rattle.records.specs.declared.keyword.Verb.{Verb}
use Rattle.records.specs.declared.keyword.Verb.TheVariants.{Read, Write, Commit, Flush, Fetch, Resume}
use Rattle.records.specs.declared.keyword.Section.{Section}
use Rattle.records.specs.declared.keyword.Section.TheVariants.{Steps}
use Rattle.records.specs.Keywords.{keyword_of, allows}
use Rattle.records.specs.Lines.{numbered, numbers_after, places, counted, or_miscounted, worded, record_of}
use Rattle.scenario.specs.declared.change.Change.{Change}
use Rattle.scenario.specs.declared.change.Change.TheVariants.{Weigh, Lay, Make}
use Rattle.scenario.specs.declared.fault.Fault.{Fault}
use Rattle.scenario.specs.Changes.{and_then, as_text, as_layout, at, place_at, numbers, numbers_of, target, step_of, changed, change_of, line_change}
use Rattle.scenario.specs.declared.fault.LayoutFault.TheVariants.{Unplaced}
use Rattle.scenario.specs.Layouts.{free, block_at}

-- what goes well step by step in one place, and so in another
then_ok : {A B E : Type 0} (r r' : Result A E) (f f' : A → Result B E) (y : B) → Ok y ≡ and_then r f → ((x : A) → Ok x ≡ r → Ok x ≡ r') → ((x : A) → Ok y ≡ f x → Ok y ≡ f' x) → Ok y ≡ and_then r' f'
then_ok (Ok x) r' f f' y e g h = h x e ∙ ap (λ q. and_then q f') (g x refl)
then_ok (Err e') r' f f' y e g h = grind arith

text_ok : {A : Type 0} (r r' : Result A TextFault) (y : A) → Ok y ≡ as_text r → ((x : A) → Ok x ≡ r → Ok x ≡ r') → Ok y ≡ as_text r'
text_ok (Ok x) r' y e g = e ∙ ap as_text (g x refl)
text_ok (Err e') r' y e g = grind arith

number_any : (p p' : Place) (r : Result ℕ BadNumber) (n : ℕ) → Ok n ≡ numbered p r → Ok n ≡ numbered p' r
number_any p p' (Ok m) n e = e
number_any p p' (Err e') n e = grind arith

module _ (l l' : ℕ) where
  numbers_any : (k : ℕ) (ps : List (List ℕ)) (ns : List ℕ) → Ok ns ≡ numbers (places l k ps) → Ok ns ≡ numbers (places l' k ps)
  numbers_any k [] ns e = e
  numbers_any k (p ∷ ps) ns e = then_ok _ _ _ _ ns e (λ n. number_any _ _ (number_of p) n) (λ n h. then_ok _ _ _ _ ns h (numbers_any (k + 1) ps) (λ ms h'. h'))

  block_any : (p p' : Place) (o : Option ℕ) (n : ℕ) → Ok n ≡ as_layout (block_at p o) → Ok n ≡ as_layout (block_at p' o)
  block_any p p' None n e = grind arith
  block_any p p' (Some m) n e = elim (nat_lt m 65536) as (λ b. Ok n ≡ as_layout (cond b (Ok m) (Err (Unplaced p))) → Ok n ≡ as_layout (cond b (Ok m) (Err (Unplaced p')))) [ true ↦ λ h. h | false ↦ λ h. grind arith ] e

  module _ (layout : List ℕ) (ps : List (List ℕ)) where
    ns_any : (ns : List ℕ) → Ok ns ≡ numbers_of (places l 2 ps) → Ok ns ≡ numbers_of (places l' 2 ps)
    ns_any ns e = text_ok _ _ ns e (numbers_any 2 ps)

    target_any : (t : ℕ × ℕ) → Ok t ≡ target layout (places l 2 ps) → Ok t ≡ target layout (places l' 2 ps)
    target_any t e = then_ok _ _ _ _ t e ns_any (λ ns h. then_ok _ _ _ (λ x. Ok (at ns 0, x)) t h (block_any (place_at (places l 2 ps) 1) (place_at (places l' 2 ps) 1) (slice_get layout (at ns 1))) (λ n h'. h'))

    step_any : (v : Verb) (c : Change) → Ok c ≡ step_of layout v (places l 2 ps) → Ok c ≡ step_of layout v (places l' 2 ps)
    step_any Read c e = then_ok _ _ _ _ c e target_any (λ t h. h)
    step_any Write c e = then_ok _ _ _ _ c e target_any (λ t h. h)
    step_any Commit c e = then_ok _ _ _ _ c e target_any (λ t h. h)
    step_any Flush c e = then_ok _ _ _ _ c e target_any (λ t h. h)
    step_any Fetch c e = then_ok _ _ _ _ c e ns_any (λ ns h. h)
    step_any Resume c e = then_ok _ _ _ _ c e ns_any (λ ns h. h)

-- weights and placements are no steps
no_weights : (r : Result Prices Fault) (k : Call) → Ok (Make k) ≡ and_then r (λ w. Ok (Weigh w)) → ⊥
no_weights (Ok w) k e = grind (arith, e)
no_weights (Err e') k e = grind (arith, e)

no_place : (r : Result (Unit {0}) Fault) (n b : ℕ) (k : Call) → Ok (Make k) ≡ and_then r (λ _. Ok (Lay n b)) → ⊥
no_place (Ok x) n b k e = grind (arith, e)
no_place (Err e') n b k e = grind (arith, e)

no_placement : (r : Result (List ℕ) Fault) (free_at : List ℕ → Result (Unit {0}) Fault) (k : Call) → Ok (Make k) ≡ and_then r (λ ns. and_then (free_at ns) (λ _. Ok (Lay (at ns 0) (at ns 1)))) → ⊥
no_placement (Ok ns) free_at k e = no_place (free_at ns) _ _ k e
no_placement (Err e') free_at k e = grind (arith, e)

module _ (layout : List ℕ) (l : ℕ) (ps : List (List ℕ)) (k : Call) where
  changed_any : (w : Keyword) → Ok (Make k) ≡ changed layout w (places l 2 ps) → (v : Verb) × (w ≡ Step v) × (Ok (Make k) ≡ step_of layout v (places 1 2 ps))
  changed_any Weights e = absurd (no_weights _ k e)
  changed_any Ref e = absurd (no_placement _ (λ ns. as_layout (free (place_at (places l 2 ps) 0) (slice_get layout (at ns 0)))) k e)
  changed_any (Step v) e = (v, refl, step_any l 1 layout ps v (Make k) e)

  -- a good step of n fields is a good step anywhere
  step_anywhere : (v : Verb) → true ≡ (length ps == numbers_after (Step v)) → Ok (Make k) ≡ step_of layout v (places 1 2 ps)
      → Ok (Make k) ≡ and_then (as_text (worded Steps 1 (Some (Step v)) ps)) (change_of layout)
  step_anywhere v is e = e ∙ ap (λ x. and_then (as_text (or_miscounted 1 (cond x (Some (Step v, places 1 2 ps)) None))) (change_of layout)) is

  counted_any : (w : Keyword) (b : Bool) → b ≡ (length ps == numbers_after w) → Ok (Make k) ≡ and_then (as_text (or_miscounted l (cond b (Some (w, places l 2 ps)) None))) (change_of layout)
      → Ok (Make k) ≡ and_then (as_text (worded Steps 1 (Some w) ps)) (change_of layout)
  counted_any w false is e = grind (arith, e)
  counted_any w true is e =
      let c = changed_any w e in
      subst (λ x. Ok (Make k) ≡ and_then (as_text (worded Steps 1 (Some x) ps)) (change_of layout)) (sym c.1) (step_anywhere c.0 (is ∙ ap (λ x. length ps == numbers_after x) c.1) c.2)

  worded_any : (s : Section) (w : Option Keyword) → Ok (Make k) ≡ and_then (as_text (worded s l w ps)) (change_of layout) → Ok (Make k) ≡ and_then (as_text (worded Steps 1 w ps)) (change_of layout)
  worded_any s None e = grind (arith, e)
  worded_any s (Some w) e =
      elim (allows s w) as (λ b. Ok (Make k) ≡ and_then (as_text (cond b (or_miscounted l (counted w l ps)) (Err (Misplaced l)))) (change_of layout)
      → Ok (Make k) ≡ and_then (as_text (worded Steps 1 (Some w) ps)) (change_of layout)) [ true ↦ λ h. counted_any w _ refl h | false ↦ λ h. grind (arith, h) ] e

record_any : (layout : List ℕ) (l : ℕ) (k : Call) (s : Section) (ps : List (List ℕ)) → Ok (Make k) ≡ and_then (as_text (record_of s l ps)) (change_of layout) → Ok (Make k) ≡ and_then (as_text (record_of Steps 1 ps)) (change_of layout)
record_any layout l k s [] e = grind (arith, e)
record_any layout l k s (p ∷ ps) e = worded_any layout l ps k s (keyword_of p) e

pub anywhere : (layout : List ℕ) (s : Section) (l : ℕ) (bs : List ℕ) (k : Call) → Ok (Make k) ≡ line_change layout s l bs → Ok (Make k) ≡ line_change layout Steps 1 bs
unfolding line_change
anywhere layout s l bs k e =
    elim (nat_lt 80 (length bs)) as (λ b. Ok (Make k) ≡ and_then (as_text (cond b (Err (Unended l)) (record_of s l (parts 9 bs)))) (change_of layout)
    → Ok (Make k) ≡ and_then (as_text (cond b (Err (Unended 1)) (record_of Steps 1 (parts 9 bs)))) (change_of layout)) [ true ↦ λ h. grind (arith, h) | false ↦ λ h. record_any layout l k s (parts 9 bs) h ] e
