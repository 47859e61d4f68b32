-- A tier of sets keeps the laws of a tier, where its sets do.
use Rattle.std.specs.Prelude.{◌≡◌, ℕ, zero, suc, ◌%◌, ◌<◌, ◌≤◌, Bool, true, false, [], ◌∷◌, map, length, set, is_some, Some, None, Option, ◌≢◌, nat_lt, slice_set, refl}
use Rattle.std.proofs.Common.{sym, ap, subst, ◌∙◌, mod-lt, arith, length-set, get_or-set_same, get_or-set_other, ltb-true, ltb-false}
use Rattle.std.proofs.lemmas.List.{length-map, get_or-map}
use Rattle.std.proofs.Math.Decide.{ℕ_discrete}
use Rattle.device.specs.Device.{after}
use Rattle.device.specs.Laws.{device_always}
use Rattle.parts.specs.declared.mark.Mark.{Mark}
use Rattle.parts.specs.declared.line.Line.{Line}
use Rattle.tier.specs.Meaning.{TierMeaning, TierCall, put, take, change, touch, clear, Holding, look_of, out_of, bare, TierLaws, Lawful}
use Rattle.tier.specs.Options.{never, some_of}
use Rattle.tier.specs.Holdings.{bare-held}
use Rattle.tier.proofs.Holds.{put-within, change-same, touch-same}
use Rattle.assoc.specs.Sets.{Sets, lru, nth, called, index, sets_view, sets_step, set_associative, Placed}

set-nth : (ms : Sets) (i : ℕ) → slice_set ms i (nth ms i) ≡ ms
set-nth [] i = refl
set-nth (m ∷ ms) zero = refl
set-nth (m ∷ ms) (suc i) = ap (λ xs. m ∷ xs) (set-nth ms i)

pub nth_past : (ms : Sets) (i : ℕ) → length ms ≤ i → nth ms i ≡ lru 1
nth_past [] i le = refl
nth_past (m ∷ ms) zero le = absurd (omega arith)
nth_past (m ∷ ms) (suc i) le = nth_past ms i (omega arith)

-- each set is lawful, and holds blocks of its own only
pub record Good (ms : Sets) : Type 0 where
  pub some : 1 ≤ length ms
  pub lawful : (i : ℕ) → i < length ms → Lawful (nth ms i)
  pub placed : Placed ms

module _ (ms : Sets) (ok : Good ms) where
  pub within : (n : ℕ) → index ms n < length ms
  within n = mod-lt n ok.some

  abbrev home : ℕ → TierMeaning
  home n = nth ms (index ms n)

  at : (n : ℕ) → TierLaws (home n)
  at n = ok.lawful (index ms n) (within n) []

  abbrev look : Sets → ℕ → Option Holding
  look xs b = look_of (nth xs (index xs b)) b

  -- ---- after a call of the set of block n

  module _ (n : ℕ) (c : TierCall) where
    abbrev next : Sets
    next = called ms (index ms n) c

    pub same_count : length next ≡ length ms
    same_count = length-set ms (index ms n) (after (home n) c)

    pub nth-own : nth next (index ms n) ≡ after (home n) c
    nth-own = get_or-set_same ms (index ms n) (after (home n) c) (lru 1) (within n)

    pub nth-other : (i : ℕ) → (i ≢ index ms n) → nth next i ≡ nth ms i
    nth-other i ne = get_or-set_other ms (index ms n) i (after (home n) c) (lru 1) ne

    look-own : (b : ℕ) → index ms b ≡ index ms n → look next b ≡ look_of (after (home n) c) b
    look-own b e = ap (λ i. look_of (nth next (b % i)) b) same_count ∙ ap (λ i. look_of (nth next i) b) e ∙ ap (λ m. look_of m b) nth-own

    look-other : (b : ℕ) → (index ms b ≢ index ms n) → look next b ≡ look ms b
    look-other b ne = ap (λ i. look_of (nth next (b % i)) b) same_count ∙ ap (λ m. look_of m b) (nth-other (index ms b) ne)

    -- a block of the set of n
    mate : (b : ℕ) → index ms b ≡ index ms n → look ms b ≡ look_of (home n) b
    mate b e = ap (λ i. look_of (nth ms i) b) e

    -- what the call leaves in the set, it leaves in the tier
    rest : {R : Type 0} (f : Option Holding → R) (b : ℕ) → f (look_of (after (home n) c) b) ≡ f (look_of (home n) b) → f (look next b) ≡ f (look ms b)
    rest f b e = elim (ℕ_discrete (index ms b) (index ms n)) [
      | yes q ↦ ap f (look-own b q) ∙ e ∙ ap f (sym (mate b q))
      | no q ↦ ap f (look-other b q)
    ]

    same_sets : after (home n) c ≡ home n → set_associative next ≡ set_associative ms
    same_sets e = ap set_associative (ap (set ms (index ms n)) e ∙ set-nth ms (index ms n))

    good-next : ((b : ℕ) → (b ≢ n) → is_some (look_of (after (home n) c) b) ≡ true → is_some (look_of (home n) b) ≡ true) → Good next
    good-next only = record {
      some = subst (λ (i : ℕ). 1 ≤ i) (sym same_count) ok.some;
      lawful = λ i lt. elim (ℕ_discrete i (index ms n)) [
        | yes q ↦ subst (λ (m : TierMeaning). Lawful m) (sym (ap (nth next) q ∙ nth-own)) (λ cs. ok.lawful (index ms n) (within n) (c ∷ cs))
        | no q ↦ subst (λ (m : TierMeaning). Lawful m) (sym (nth-other i q)) (ok.lawful i (subst (λ (j : ℕ). i < j) same_count lt))
      ];
      placed = λ i b h. ap (λ j. b % j) same_count ∙ elim (ℕ_discrete i (index ms n)) [
        | yes q ↦ own i b q h
        | no q ↦ ok.placed i b (sym (ap (λ m. is_some (look_of m b)) (nth-other i q)) ∙ h)
      ];
    }
      where
        own : (i b : ℕ) → i ≡ index ms n → is_some (look_of (nth next i) b) ≡ true → b % length ms ≡ i
        own i b q h = elim (ℕ_discrete b n) [
          | yes r ↦ ap (index ms) r ∙ sym q
          | no r ↦ ok.placed (index ms n) b (only b r (sym (ap (λ m. is_some (look_of m b)) (ap (nth next) q ∙ nth-own)) ∙ h)) ∙ sym q
        ]

  pub count-clear : length (map (λ m. after m clear) ms) ≡ length ms
  count-clear = length-map ms (λ m. after m clear)

  pub nth-clear : (i : ℕ) → i < length ms → nth (map (λ m. after m clear) ms) i ≡ after (nth ms i) clear
  nth-clear i lt = get_or-map (λ m. after m clear) ms i (lru 1) (lru 1) lt

  gone : (i b : ℕ) (t : Bool) → nat_lt i (length ms) ≡ t → look_of (nth (map (λ m. after m clear) ms) i) b ≡ None
  gone i b true e = let lt = ltb-true i (length ms) e in ap (λ m. look_of m b) (nth-clear i lt) ∙ (ok.lawful i lt []).clear_gone b
  gone i b false e = let le = ltb-false i (length ms) e in let c = count-clear in ap (λ m. look_of m b) (nth_past (map (λ m. after m clear) ms) i (omega arith))

  good-clear : Good (map (λ m. after m clear) ms)
  good-clear =
      let down : (i : ℕ) → i < length (map (λ m. after m clear) ms) → i < length ms = λ i lt. subst (λ (j : ℕ). i < j) count-clear lt in
      record {
        some = subst (λ (i : ℕ). 1 ≤ i) (sym count-clear) ok.some;
        lawful = λ i lt. subst (λ (m : TierMeaning). Lawful m) (sym (nth-clear i (down i lt))) (λ cs. ok.lawful i (down i lt) (clear ∷ cs));
        placed = λ i b h. never _ (sym (gone i b (nat_lt i (length ms)) refl) ∙ (some_of _ h).1);
      }

  pub keeps : (c : TierCall) → Good (sets_step ms c)
  keeps (put n k s) = good-next n (put n k s) (λ b ne h. put-within (home n) (ok.lawful (index ms n) (within n)) n k s b ne h)
  keeps (take n) = good-next n (take n) (λ b ne h. sym (ap is_some ((at n).take_rest n b ne)) ∙ h)
  keeps (change n k s) = good-next n (change n k s) (λ b ne h. sym (change-same (home n) (ok.lawful (index ms n) (within n)) n k s b) ∙ h)
  keeps (touch n) = good-next n (touch n) (λ b ne h. sym (touch-same (home n) (ok.lawful (index ms n) (within n)) n b) ∙ h)
  keeps clear = good-clear

  -- what the set of n gives out is a block of that set
  pub out-mate : (n : ℕ) (k : Mark) (s : ℕ) (g : Line) → look ms n ≡ None → out_of (home n) n k s ≡ Some g → index ms g.block ≡ index ms n
  out-mate n k s g e o = ok.placed (index ms n) g.block (sym (bare-held (look_of (home n) g.block)) ∙ ap is_some ((at n).out_held n k s g e o))

  laws : TierLaws (set_associative ms)
  laws = record {
    depth_low = omega arith;
    depth_high = omega arith;
    marks = λ n h e. (at n).marks n h e;
    levels = λ n h e. (at n).levels n h e;
    put_in = λ n k s e. look-own n (put n k s) n refl ∙ (at n).put_in n k s e;
    put_rest = λ n k s b e ne no-out. rest n (put n k s) bare b ((at n).put_rest n k s b e ne no-out);
    out_held = λ n k s g e o. ap bare (mate n clear g.block (out-mate n k s g e o)) ∙ (at n).out_held n k s g e o;
    out_gone = λ n k s g e o. look-own n (put n k s) g.block (out-mate n k s g e o) ∙ (at n).out_gone n k s g e o;
    take_gone = λ n. look-own n (take n) n refl ∙ (at n).take_gone n;
    take_rest = λ n b ne. rest n (take n) (λ o. o) b ((at n).take_rest n b ne);
    change_in = λ n k s h e. look-own n (change n k s) n refl ∙ (at n).change_in n k s h e;
    change_rest = λ n k s b ne. rest n (change n k s) (λ o. o) b ((at n).change_rest n k s b ne);
    touch_look = λ n b. rest n (touch n) (λ o. o) b ((at n).touch_look n b);
    clear_gone = λ n.
        ap (λ i. look_of (nth (map (λ m. after m clear) ms) (n % i)) n) count-clear
        ∙ ap (λ m. look_of m n) (nth-clear (index ms n) (within n)) ∙ (at n).clear_gone n;
    put_held = λ n k s b h. rest n (put n k s) (λ o. o) b ((at n).put_held n k s b h);
    change_free = λ n k s e. look-own n (change n k s) n refl ∙ (at n).change_free n k s e;
  }

pub sets_lawful : (ms : Sets) → Good ms → Lawful (set_associative ms)
sets_lawful = device_always (λ _. 1) sets_view sets_step (λ s c. refl) TierLaws Good (λ s c i. keeps s i c) laws
