-- A direct tier is direct-mapped.
use Rattle.std.specs.Prelude.{◌≡◌, ℕ, ◌%◌, ◌≤◌, true, get_or, is_some, Some, None, Option, ◌≢◌, refl}
use Rattle.std.proofs.Common.{sym, ap, ◌∙◌}
use Rattle.std.proofs.lemmas.List.{length-replicate}
use Rattle.std.specs.Option.{option_map}
use Rattle.std.proofs.lemmas.Option.{same_Some}
use Rattle.device.specs.Device.{Always}
use Rattle.device.specs.Laws.{device_always}
use Rattle.parts.specs.declared.line.Line.{Line}
use Rattle.parts.specs.Lines.{shown_of}
use Rattle.tier.specs.Meaning.{Holding}
use Rattle.tier.specs.Options.{is_some_lem, some_of}
use Rattle.direct.specs.Lines.{Lines, slot, at, shows, direct_view, direct_step, direct, empty}
use Rattle.direct.specs.Mapped.{DirectMapped}
use Rattle.direct.specs.DirectLaws.{Sound, keeps, shown-own, empty-placed, there}

module _ (lines : ℕ) (ls : Lines) (ok : Sound lines ls) where
  abbrev look : Lines → ℕ → Option Holding
  look ms n = shows (at ms n) n

  line_of : (b : ℕ) → is_some (look ls b) ≡ true → (g : Line) × (at ls b ≡ Some g) × (g.block ≡ b)
  line_of b h = let x = some_of (look ls b) h in let r = shown-own (at ls b) b x.0 x.1 in (r.0, r.1, r.2)

  slots : (a b : ℕ) → a % lines ≡ b % lines → slot ls a ≡ slot ls b
  slots a b e = ap (λ m. a % m) ok.1 ∙ e ∙ sym (ap (λ m. b % m) ok.1)

  mapped_so : DirectMapped lines (direct ls)
  mapped_so = record {
    one_level = record { depth = refl; level = λ n h e. ap (λ (x : Holding). x.2) (sym (shown-own (at ls n) n h e).3) };
    alone = λ a b ha hb e.
        let x = line_of a ha in
        let y = line_of b hb in
        let g : x.0 ≡ y.0 = same_Some x.0 y.0 (sym x.1 ∙ ap (λ i. get_or ls i None) (slots a b e) ∙ y.1) in
        sym x.2 ∙ ap (λ (z : Line). z.block) g ∙ y.2;
    ousted = λ n k s b h e.
        let x = line_of b h in
        ap (option_map (λ (g : Line). g.block)) (ap (λ i. get_or ls i None) (sym (slots b n e)) ∙ x.1) ∙ ap Some x.2;
    spared = λ n k s h. go n h (at ls n) refl;
    untouched = λ n. refl;
  }
    where
      go : (n : ℕ) → ((b : ℕ) → is_some (look ls b) ≡ true → b % lines ≢ n % lines) → (o : Option Line) → at ls n ≡ o → at ls n ≡ None
      go n h None e = e
      go n h (Some g) e =
          let r = there lines ls ok n g e in
          absurd (h g.block (is_some_lem (look ls g.block) (shown_of g) r.1) (sym (ap (λ m. g.block % m) ok.1) ∙ r.0 ∙ ap (λ m. n % m) ok.1))

pub direct_mapped : (lines : ℕ) → 1 ≤ lines → Always (DirectMapped lines) (direct (empty lines))
direct_mapped lines h =
    device_always (λ _. 1) direct_view direct_step (λ s c. refl) (DirectMapped lines) (Sound lines) (λ s c i. keeps lines s i c) (mapped_so lines) (empty lines)
    (h, length-replicate lines None, empty-placed (empty lines) lines refl)
