-- An access hits just where its block was accessed before and has not left since.
use Rattle.std.proofs.Common.{◌≡◌, ℕ, Bool, true, false, cond, eqb, List, [], ◌∷◌, is_some, Some, None, Option, sym, refl, ap, ◌∙◌, subst, arith}
use Rattle.std.proofs.lemmas.Bool.Decides.{nat_tests}
use Rattle.device.specs.Device.{after}
use Rattle.parts.specs.declared.mark.Mark.{Mark}
use Rattle.parts.specs.declared.mark.Mark.TheVariants.{Shared}
use Rattle.parts.specs.declared.line.Line.{Line}
use Rattle.parts.specs.Marks.{mark_of}
use Rattle.tier.specs.Meaning.{TierMeaning, put, take, touch, clear, Holding, look_of, out_of, put_answer, Lawful}
use Rattle.tier.specs.Holdings.{bare-held}
use Rattle.moves.specs.Moves.{given, put_back, put_back_out}
use Rattle.profiling.specs.declared.Access.{Access}
use Rattle.profiling.specs.Access.{access, next_by, answer_by, accessed, answer, place_of}
use Rattle.profiling.specs.Resident.{noted, HitsTold}

abbrev held : TierMeaning → ℕ → Bool
held m b = is_some (look_of m b)

-- what is cached after a put
module _ (m : TierMeaning) (ok : Lawful m) (n : ℕ) (k : Mark) (s : ℕ) (free : look_of m n ≡ None) (level : Option ℕ) (b : ℕ) where
  put_out : (o : Option Line) → out_of m n k s ≡ o → noted (held m) n (access level o) b ≡ held (after m (put n k s)) b
  put_out None e = grind (arith, nat_tests, (ok []).put_in n k s free, (ok []).put_rest n k s b free, bare-held)
  put_out (Some g) e = grind (arith, nat_tests, (ok []).put_in n k s free, (ok []).put_rest n k s b free, (ok []).out_gone n k s g free e, bare-held)

  put-noted : noted (held m) n (access level (given (put_answer m n k s))) b ≡ held (after m (put n k s)) b
  put-noted = grind (arith, free, put_out (out_of m n k s) refl)

-- the tier stays lawful, the answer tells whether the block was cached, and what is cached is noted
pub record Told (m : TierMeaning) (n : ℕ) (m' : TierMeaning) (a : Access) : Type 0 where
  pub lawful : Lawful m'
  pub placed : is_some (place_of a.level) ≡ true
  pub hit : is_some a.level ≡ held m n
  pub noted_so : (b : ℕ) → noted (held m) n a b ≡ held m' b

module _ (m : TierMeaning) (ok : Lawful m) (n : ℕ) where
  module _ (h : Holding) (e : look_of m n ≡ Some h) where
    low : is_some (place_of (Some h.2)) ≡ true
    low = grind (arith, nat_tests, (ok []).levels n h e)

    touched : Told m n (after m (touch n)) (access (Some h.2) None)
    touched = record {
      lawful = λ cs. ok (touch n ∷ cs);
      placed = low;
      hit = sym (ap is_some e);
      noted_so = λ b. grind (arith, nat_tests, (ok []).touch_look n b, e);
    }

    moved : (o : Option Mark) → mark_of h.0 ≡ o → Told m n (put_back m n o h.1) (access (Some h.2) (put_back_out m n o h.1))
    moved None q = grind (arith, (ok []).marks n h e, q)
    moved (Some k) q = record {
      lawful = λ cs. ok (take n ∷ (put n k h.1 ∷ cs));
      placed = low;
      hit = sym (ap is_some e);
      noted_so = λ b. grind (arith, nat_tests, put-noted (after m (take n)) (λ cs. ok (take n ∷ cs)) n k h.1 ((ok []).take_gone n) (Some h.2) b, (ok []).take_rest n b);
    }

    go : (t : Bool) → Told m n (cond t (after m (touch n)) (put_back m n (mark_of h.0) h.1)) (access (Some h.2) (cond t None (put_back_out m n (mark_of h.0) h.1)))
    go true = touched
    go false = moved (mark_of h.0) refl

  told_by : (o : Option Holding) → look_of m n ≡ o → Told m n (next_by m n o) (answer_by m n o)
  told_by None e = record {
    lawful = λ cs. ok (put n Shared 0 ∷ cs);
    placed = refl;
    hit = sym (ap is_some e);
    noted_so = put-noted m ok n Shared 0 e None;
  }
  told_by (Some h) e = go h e (eqb h.2 1)

  pub told : Told m n (accessed m n) (answer m n)
  told = told_by (look_of m n) refl

-- every list of accesses
hits_told : (ns : List ℕ) (m : TierMeaning) → Lawful m → (cached : ℕ → Bool) → ((b : ℕ) → cached b ≡ held m b) → HitsTold m cached ns
hits_told [] m ok cached same = tt
hits_told (n ∷ ns) m ok cached same =
    let t = told m ok n in
    (t.hit ∙ sym (same n), hits_told ns (accessed m n) t.lawful (noted cached n (answer m n)) (λ b. grind (arith, same b, t.noted_so b)))

-- from a tier that was cleared
pub cleared : (m x : TierMeaning) → Lawful m → x ≡ after m clear → Lawful x
cleared m x ok e = subst Lawful (sym e) (λ cs. ok (clear ∷ cs))

pub cleared_told : (m x : TierMeaning) → Lawful m → x ≡ after m clear → (ns : List ℕ) → HitsTold x (λ _. false) ns
cleared_told m x ok e ns = hits_told ns x (cleared m x ok e) (λ _. false) (λ b. grind (arith, (ok []).clear_gone b, e))
