-- Which blocks are held after a call.
use Rattle.std.proofs.Common.{◌≡◌, ℕ, true, [], is_some, Some, None, Option, sym, refl, ap, ◌∙◌}
use native.Mathlib.Decide.{ℕ_discrete}
use Rattle.std.specs.Option.{option_map}
use Rattle.std.proofs.lemmas.Option.{same_Some}
use Rattle.device.specs.Device.{after}
use Rattle.parts.specs.declared.mark.Mark.{Mark}
use Rattle.parts.specs.declared.line.Line.{Line}
use Rattle.tier.specs.Meaning.{TierMeaning, put, change, touch, Holding, look_of, out_of, Lawful}
use Rattle.tier.specs.Options.{never, is_some_lem, some_of}
use Rattle.tier.specs.Holdings.{bare-held}

-- the same blocks are held
abbrev pub SameBlocks : TierMeaning → TierMeaning → Type 0
SameBlocks m m' = (b : ℕ) → is_some (look_of m' b) ≡ is_some (look_of m b)

module _ (m : TierMeaning) (ok : Lawful m) where
  pub change-same : (n : ℕ) (k : Mark) (s : ℕ) → SameBlocks m (after m (change n k s))
  change-same n k s b = elim (ℕ_discrete b n) [ no q ↦ ap is_some ((ok []).change_rest n k s b q) | yes q ↦ go (look_of m n) refl q ]
    where
      go : (o : Option Holding) → look_of m n ≡ o → b ≡ n → is_some (look_of (after m (change n k s)) b) ≡ is_some (look_of m b)
      go None e q = ap (λ i. is_some (look_of (after m (change n k s)) i)) q ∙ ap is_some ((ok []).change_free n k s e) ∙ sym (ap is_some (ap (look_of m) q ∙ e))
      go (Some h) e q = ap (λ i. is_some (look_of (after m (change n k s)) i)) q ∙ ap is_some ((ok []).change_in n k s h e) ∙ sym (ap is_some (ap (look_of m) q ∙ e))

  pub touch-same : (n : ℕ) → SameBlocks m (after m (touch n))
  touch-same n b = ap is_some ((ok []).touch_look n b)

  -- a block that is held after a put of another was held before
  pub put-within : (n : ℕ) (k : Mark) (s b : ℕ) → (b ≡ n → ⊥) → is_some (look_of (after m (put n k s)) b) ≡ true → is_some (look_of m b) ≡ true
  put-within n k s b ne h = go (look_of m n) (out_of m n k s) refl refl
    where
      kept : look_of m n ≡ None → (option_map (λ (g : Line). g.block) (out_of m n k s) ≡ Some b → ⊥) → is_some (look_of m b) ≡ true
      kept e nw = sym (bare-held (look_of m b)) ∙ sym (ap is_some ((ok []).put_rest n k s b e ne nw)) ∙ bare-held (look_of (after m (put n k s)) b) ∙ h

      go : (o : Option Holding) (w : Option Line) → look_of m n ≡ o → out_of m n k s ≡ w → is_some (look_of m b) ≡ true
      go (Some x) w e q = sym (ap is_some ((ok []).put_held n k s b (is_some_lem (look_of m n) x e))) ∙ h
      go None None e q = kept e (λ r. never b (sym (ap (option_map (λ (g : Line). g.block)) q) ∙ r))
      go None (Some g) e q = elim (ℕ_discrete g.block b) [
        | yes z ↦ never _ (sym (ap (look_of (after m (put n k s))) (sym z) ∙ (ok []).out_gone n k s g e q) ∙ (some_of (look_of (after m (put n k s)) b) h).1)
        | no z ↦ kept e (λ r. z (same_Some g.block b (sym (ap (option_map (λ (x : Line). x.block)) q) ∙ r)))
      ]
