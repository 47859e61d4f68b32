-- A free-running tier moves on.
use Rattle.std.specs.Prelude.{◌≡◌, ◌≢◌, ℕ, Bool, true, false, not, cond, is_some, Some, None, Option, refl}
use Rattle.std.specs.Option.{option_or, option_map}
use Rattle.std.proofs.Common.{◌⊎◌, inl, inr, sym, ap, ap₂, ◌∙◌, arith}
use Rattle.std.proofs.lemmas.Option.{same_Some}
use Rattle.device.specs.Device.{Always}
use Rattle.device.specs.Laws.{device_always}
use Rattle.parts.specs.declared.line.Line.{Line}
use Rattle.parts.specs.Lines.{shown_of}
use Rattle.tier.specs.Meaning.{TierCall, put, take, change, touch, clear, Holding, line, if_held}
use Rattle.tier.specs.Options.{never, none-some, is_some_lem, some_of}
use Rattle.examples.specs.FreeRunning.{TwoLines, two_lines, shows, look, takes_second, leaver, placed, free_view, free_step, free_running, cleared, Apart}
use Rattle.examples.specs.FreeRunningLaws.{shows_own, has, instead-block, line-block, Sound, keeps, low}
use Rattle.examples.specs.MovesOn.{MovesOn}

abbrev block : Line → ℕ
block g = g.block

abbrev held : TwoLines → ℕ → Type 0
held l n = is_some (look l n) ≡ true

-- the line of a held block
line_of : (x y : Option Line) (n : ℕ) → is_some (option_or (shows x n) (shows y n)) ≡ true → (g : Line) × (g.block ≡ n) × ((x ≡ Some g) ⊎ (y ≡ Some g))
line_of x y n h = go (shows x n) (shows y n) refl refl h
  where
    go : (p q : Option Holding) → shows x n ≡ p → shows y n ≡ q → is_some (option_or p q) ≡ true → (g : Line) × (g.block ≡ n) × ((x ≡ Some g) ⊎ (y ≡ Some g))
    go None None e f h = let z = some_of {X = Holding} None h in never z.0 z.1
    go None (Some v) e f h = let r = has y n v f in (r.0, r.2, inr r.1)
    go (Some u) q e f h = let r = has x n u e in (r.0, r.2, inl r.1)

-- two held blocks stand in the two lines
pub record Both (l : TwoLines) (a b : ℕ) : Type 0 where
  pub g : Line
  pub h : Line
  pub first : l.first ≡ Some g
  pub second : l.second ≡ Some h
  pub blocks : ((g.block ≡ a) × (h.block ≡ b)) ⊎ ((g.block ≡ b) × (h.block ≡ a))

both : (l : TwoLines) (a b : ℕ) → a ≢ b → held l a → held l b → Both l a b
both l a b ne ha hb =
    let p = line_of l.first l.second a ha in
    let q = line_of l.first l.second b hb in
    go p.0 q.0 p.1 q.1 p.2 q.2
  where
    go : (g h : Line) → g.block ≡ a → h.block ≡ b → (l.first ≡ Some g) ⊎ (l.second ≡ Some g) → (l.first ≡ Some h) ⊎ (l.second ≡ Some h) → Both l a b
    go g h eg eh (inl x) (inl y) = absurd (ne (sym eg ∙ ap block (same_Some g h (sym x ∙ y)) ∙ eh))
    go g h eg eh (inl x) (inr y) = record { g = g; h = h; first = x; second = y; blocks = inl (eg, eh) }
    go g h eg eh (inr x) (inl y) = record { g = h; h = g; first = y; second = x; blocks = inr (eh, eg) }
    go g h eg eh (inr x) (inr y) = absurd (ne (sym eg ∙ ap block (same_Some g h (sym x ∙ y)) ∙ eh))

abbrev leaves : TwoLines → Option ℕ
leaves l = option_map block (leaver l)

-- of two lines that are taken the one leaves whose turn it is
leaves_full : (l : TwoLines) (a b : ℕ) (w : Both l a b) → leaves l ≡ option_map block (cond l.second_leaves (Some w.h) (Some w.g))
leaves_full l a b w = ap₂ (λ x y. leaves (two_lines x y l.second_leaves)) w.first w.second

held_own : (x y : Option Line) (g : Line) → (x ≡ Some g) ⊎ (y ≡ Some g) → is_some (option_or (shows x g.block) (shows y g.block)) ≡ true
held_own x y g (inl e) = ap (λ o. is_some (option_or o (shows y g.block))) (ap (λ z. shows z g.block) e ∙ shows_own g g.block refl)
held_own x y g (inr e) = go (shows x g.block)
  where
    go : (o : Option Holding) → is_some (option_or o (shows y g.block)) ≡ true
    go None = is_some_lem (shows y g.block) (shown_of g) (ap (λ z. shows z g.block) e ∙ shows_own g g.block refl)
    go (Some u) = refl

-- what stands in the first line after a call stood there before, or is new
first_kept : (l : TwoLines) (c : TierCall) (g : Line) → (free_step l c).first ≡ Some g → (option_map block l.first ≡ Some g.block) ⊎ (look l g.block ≡ None)
first_kept l (put n k s) g e = go (look l n) refl e
  where
    new : (t : Bool) → look l n ≡ None → (cond t (two_lines l.first (Some (line n k s)) l.second_leaves) (two_lines (Some (line n k s)) l.second l.second_leaves)).first ≡ Some g
        → (option_map block l.first ≡ Some g.block) ⊎ (look l g.block ≡ None)
    new true f e = inl (ap (option_map block) e)
    new false f e = inr (ap (look l) (line-block n k s g e) ∙ f)

    go : (o : Option Holding) → look l n ≡ o → (if_held o l (placed l (Some (line n k s)))).first ≡ Some g → (option_map block l.first ≡ Some g.block) ⊎ (look l g.block ≡ None)
    go None f e = new (takes_second l) f e
    go (Some h) f e = inl (ap (option_map block) e)
first_kept l (take n) g e = let r = instead-block l.first n None g (λ y z. never y z) e in inl (ap (option_map block) r.1 ∙ ap Some r.2)
first_kept l (change n k s) g e = let r = instead-block l.first n (Some (line n k s)) g (line-block n k s) e in inl (ap (option_map block) r.1 ∙ ap Some r.2)
first_kept l (touch n) g e = inl (ap (option_map block) e)
first_kept l clear g e = never g e

turn_same : (l : TwoLines) (c : TierCall) → (free_step l c).second_leaves ≡ not l.second_leaves
turn_same l (put n k s) = go (look l n)
  where
    new : (t : Bool) → not (cond t (two_lines l.first (Some (line n k s)) l.second_leaves) (two_lines (Some (line n k s)) l.second l.second_leaves)).second_leaves ≡ not l.second_leaves
    new true = refl
    new false = refl

    go : (o : Option Holding) → not (if_held o l (placed l (Some (line n k s)))).second_leaves ≡ not l.second_leaves
    go None = new (takes_second l)
    go (Some h) = refl
turn_same l (take n) = refl
turn_same l (change n k s) = refl
turn_same l (touch n) = refl
turn_same l clear = refl

other : (t : Bool) (a b : ℕ) (g h g' h' : Line) → a ≢ b → g'.block ≡ g.block → ((g.block ≡ a) × (h.block ≡ b)) ⊎ ((g.block ≡ b) × (h.block ≡ a))
    → ((g'.block ≡ a) × (h'.block ≡ b)) ⊎ ((g'.block ≡ b) × (h'.block ≡ a))
    → option_map block (cond t (Some h) (Some g)) ≡ Some a → option_map block (cond (not t) (Some h') (Some g')) ≡ Some b
other true a b g h g' h' ne same p q e = let r = same_Some h.block a e in ap Some (grind arith)
other false a b g h g' h' ne same p q e = let r = same_Some g.block a e in ap Some (grind arith)

room : (x y : Option Line) (t : Bool) → Apart x y → (b : ℕ) → ((a : ℕ) → is_some (option_or (shows x a) (shows y a)) ≡ true → a ≡ b) → leaver (two_lines x y t) ≡ None
room None y t ok b h = refl
room (Some g) None t ok b h = refl
room (Some g) (Some i) t ok b h =
    absurd (ok g i refl refl (h g.block (held_own (Some g) (Some i) g (inl refl)) ∙ sym (h i.block (held_own (Some g) (Some i) i (inr refl)))))

full : (l : TwoLines) (a b : ℕ) → a ≢ b → held l a → held l b → leaves l ≢ Some a → leaves l ≡ Some b
full l a b ne ha hb no-a =
    let w = both l a b ne ha hb in
    leaves_full l a b w ∙ go l.second_leaves w.g w.h w.blocks (λ e. no-a (leaves_full l a b w ∙ e))
  where
    go : (t : Bool) (g h : Line) → ((g.block ≡ a) × (h.block ≡ b)) ⊎ ((g.block ≡ b) × (h.block ≡ a)) → option_map block (cond t (Some h) (Some g)) ≢ Some a
        → option_map block (cond t (Some h) (Some g)) ≡ Some b
    go true g h (inl p) no-a = ap Some p.1
    go true g h (inr p) no-a = absurd (no-a (ap Some p.1))
    go false g h (inl p) no-a = absurd (no-a (ap Some p.0))
    go false g h (inr p) no-a = ap Some p.0

moves : (l : TwoLines) (c : TierCall) (a b : ℕ) → a ≢ b → held l a → held l b → held (free_step l c) a → held (free_step l c) b → leaves l ≡ Some a → leaves (free_step l c) ≡ Some b
moves l c a b ne ha hb ha' hb' e =
    let w = both l a b ne ha hb in
    let w' = both (free_step l c) a b ne ha' hb' in
    leaves_full (free_step l c) a b w'
    ∙ ap (λ t. option_map block (cond t (Some w'.h) (Some w'.g))) (turn_same l c)
    ∙ other l.second_leaves a b w.g w.h w'.g w'.h ne (same w w' (first_kept l c w'.g w'.first)) w.blocks w'.blocks (sym (leaves_full l a b w) ∙ e)
  where
    held-either : (g : Line) (h : Line) → ((g.block ≡ a) × (h.block ≡ b)) ⊎ ((g.block ≡ b) × (h.block ≡ a)) → held l g.block
    held-either g h (inl p) = ap (λ n. is_some (look l n)) p.0 ∙ ha
    held-either g h (inr p) = ap (λ n. is_some (look l n)) p.0 ∙ hb

    same : (w : Both l a b) (w' : Both (free_step l c) a b) → (option_map block l.first ≡ Some w'.g.block) ⊎ (look l w'.g.block ≡ None) → w'.g.block ≡ w.g.block
    same w w' (inl q) = same_Some w'.g.block w.g.block (sym q ∙ ap (option_map block) w.first)
    same w w' (inr q) = let z = some_of (look l w'.g.block) (held-either w'.g w'.h w'.blocks) in none-some (look l w'.g.block) z.0 q z.1

pub moves-on : Always MovesOn (free_running cleared)
moves-on =
    device_always (λ _. 1) free_view free_step (λ s c. refl) MovesOn Sound (λ l c ok. keeps l ok c)
    (λ l ok. record {
      one_level = record { depth = refl; level = λ n h e. (low l ok n h e).1 };
      room = λ n k s b h. room l.first l.second l.second_leaves ok b h;
      full = λ n k s a b. full l a b;
      moves = λ c n k s a b. moves l c a b;
    })
    cleared
    (λ g h e. never g e)
