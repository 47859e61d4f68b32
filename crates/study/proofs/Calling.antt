-- After any calls of a run, each core's tier is what some calls of it made of the tier as it was.
use Rattle.std.proofs.Common.{◌≡◌, ℕ, ◌++◌, Bool, true, false, cond, eqb, ◌≢◌, List, [], ◌∷◌, Ok, Err, Result, sym, refl, ap, ◌∙◌}
use native.Mathlib.Decide.{ℕ_discrete}
use Rattle.device.specs.Device.{Device, after, reach}
use Rattle.parts.specs.declared.mark.Mark.{Mark}
use Rattle.parts.specs.declared.mark.Mark.TheVariants.{Shared, Modified}
use Rattle.tier.specs.Meaning.{TierMeaning, put, take, change, touch}
use Rattle.protocol.specs.declared.answer.Answer.{Answer}
use Rattle.protocol.specs.declared.answer.Answer.TheVariants.{Waits, Brought, Read, Wrote, Flushed, Committed}
use Rattle.protocol.specs.declared.call.Call.{Call}
use Rattle.protocol.specs.declared.refusal.Refusal.{Refusal}
use Rattle.protocol.specs.Calls.{core_of}
use Rattle.row.specs.Cores.{CoreMeaning, tier_at}
use Rattle.study.specs.Run.{RunMeaning}
use Rattle.study.specs.Told.{OthersStay, served, given_up, NowClean, Answered, Told}
use Rattle.study.specs.Warrant.{Becomes}

module _ {K C V : Type 0} where
  reach_both : (a b : List C) (d : Device K C V) → reach d (a ++ b) ≡ reach (reach d a) b
  reach_both [] b d = refl
  reach_both (c ∷ a) b d = reach_both a b (after d c)

  pub still : (d : Device K C V) → Becomes d d
  still d = ([], refl)

  pub then_becomes : (d e f : Device K C V) → Becomes d e → Becomes e f → Becomes d f
  then_becomes d e f p q = (p.0 ++ q.0, q.1 ∙ ap (λ x. reach x q.0) p.1 ∙ sym (reach_both p.0 q.0 d))

-- a tier that has served a block, and one that has given it up
serves : (t u : TierMeaning) (n : ℕ) (k : Mark) (s l : ℕ) → u ≡ served t n k s l → Becomes t u
serves t u n k s l = go (eqb l 1)
  where
    go : (b : Bool) → u ≡ cond b (after t (touch n)) (after (after t (take n)) (put n k s)) → Becomes t u
    go true e = (touch n ∷ [], e)
    go false e = (take n ∷ put n k s ∷ [], e)

gives_up : (t u : TierMeaning) (n : ℕ) (k : Mark) → u ≡ given_up k n t → Becomes t u
gives_up t u n Shared e = (take n ∷ [], e)
gives_up t u n Modified e = ([], e)

module _ (r r' : RunMeaning) (d : ℕ) where
  abbrev Turns : Type 0
  Turns = Becomes (tier_at r.cores d) (tier_at r'.cores d)

  -- core c's tier turns so, and every other core stays
  of_core : (c : ℕ) → Becomes (tier_at r.cores c) (tier_at r'.cores c) → (d ≢ c → Turns) → Turns
  of_core c here there = elim (ℕ_discrete d c) [ yes q ↦ rw q here | no ne ↦ there ne ]

  stays : (c : ℕ) → OthersStay c r r' → d ≢ c → Turns
  stays c f ne = ([], ap (λ (x : CoreMeaning). x.tier) (f d ne))

  cleans : (c n charge : ℕ) → NowClean c n r r' charge → Turns
  cleans c n charge T = of_core c (change n Shared T.stamp ∷ [], T.tier) (stays c T.others)

  answers : (k : Call) (x : Answer) (charge : ℕ) → Answered k r r' x charge → Turns
  answers k (Waits n) charge T = ([], T.tiers d)
  answers k (Brought n) charge T = of_core (core_of k) (put n Shared T.1.stamp ∷ [], T.1.tier) (stays (core_of k) T.1.others)
  answers k (Read s) charge T = of_core (core_of k) (serves _ _ T.block T.mark s T.level T.tier) (stays (core_of k) T.others)
  answers k (Wrote s) charge T =
      of_core (core_of k)
      (then_becomes _ (served (tier_at r.cores (core_of k)) T.block T.mark T.before T.level) _ (serves _ _ T.block T.mark T.before T.level refl)
      (change T.block Modified s ∷ [], T.tier))
      (λ ne. gives_up _ _ T.block T.mark (T.tiers d ne))
  answers k (Flushed n) charge T = cleans (core_of k) n charge T.2
  answers k (Committed true) charge T = cleans (core_of k) T.0 charge T.2
  answers k (Committed false) charge T = ([], ap (λ cs. tier_at cs d) T.2.1)

  pub turns : (k : Call) (x : Result Answer Refusal) (charge : ℕ) → Told k r r' x charge → Turns
  turns k (Ok x) charge T = answers k x charge T.1
  turns k (Err e) charge T = ([], ap (λ (x : RunMeaning). tier_at x.cores d) T.1)
