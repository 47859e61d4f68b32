-- Every step is refused or accepted: what holds of both holds of every step.
use Rattle.std.proofs.Common.{◌≡◌, ℕ, ◌<◌, Bool, true, false, cond, eqb, ltb, List, Some, None, Option, refl, ap, ltb-true}
use Rattle.device.specs.Device.{after}
use Rattle.parts.specs.declared.mark.Mark.{Mark}
use Rattle.parts.specs.declared.mark.Mark.TheVariants.{Shared, Modified}
use Rattle.parts.specs.declared.line.Line.{Line}
use Rattle.parts.specs.Marks.{mark_of}
use Rattle.tier.specs.Meaning.{Holding, look_of}
use Rattle.memory.specs.Meaning.{MemoryMeaning, MemoryCall, store, stale, size_of}
use Rattle.protocol.specs.declared.access.Access.{Access}
use Rattle.protocol.specs.declared.access.Access.TheVariants.{Read as ToRead, Write as ToWrite}
use Rattle.protocol.specs.declared.access.CoreState.{CoreState}
use Rattle.protocol.specs.declared.access.CoreState.TheVariants.{Ready, Waiting, Due}
use Rattle.protocol.specs.declared.answer.Answer.{Answer}
use Rattle.protocol.specs.declared.answer.Answer.TheVariants.{Waits, Brought, Read as WasRead, Wrote, Flushed, Committed}
use Rattle.protocol.specs.declared.call.Call.{Call}
use Rattle.protocol.specs.declared.call.Call.TheVariants.{Read, Write, Fetch, Resume, Flush, Commit}
use Rattle.protocol.specs.declared.refusal.Refusal.{Refusal}
use Rattle.protocol.specs.declared.refusal.Refusal.TheVariants.{TooManySteps, NoSuchCore, NoSuchBlock, WrongState, StaleBlock, NotOwed}
use Rattle.protocol.specs.declared.weights.Movement.{Movement}
use Rattle.protocol.specs.declared.weights.Movement.TheVariants.{Still, FromLevel, Memory}
use Rattle.protocol.specs.Accesses.{block_of}
use Rattle.protocol.specs.Calls.{core_of, fits_in}
use Rattle.moves.specs.Moves.{is_modified, put_back_out}
use Rattle.row.specs.Cores.{CoreMeaning, count_of, tier_at, state_at, met}
use Rattle.study.specs.declared.effect.Performed.{Performed}
use Rattle.study.specs.declared.effect.Performed.TheVariants.{Nothing, Read as ARead, Write as AWrite}
use Rattle.study.specs.Run.{RunMeaning, Outcome, most_steps}
use Rattle.study.specs.Step.{valid, memory_taking_as, memory_taking, movement_as, movement_of, accepted, refused, provided, brought_up, pushed_out, recalled, alone_memory, access_by, access, fetched_line, fetch_by, modified_at, owed, flush_by, commit_by, act, step}

-- what was performed, by the answer
abbrev pub performed_by : Answer → Performed
performed_by (Waits n) = Nothing
performed_by (Brought n) = Nothing
performed_by (WasRead s) = ARead
performed_by (Wrote s) = AWrite
performed_by (Flushed n) = Nothing
performed_by (Committed b) = Nothing

-- the two movements of an accepted call, by its answer
abbrev pub Leaver : Movement → Type 0
Leaver b = (x : Bool) × (b ≡ cond x Memory Still)

abbrev pub Served : Movement → Movement → Type 0
Served a b = (l : ℕ) × (x : Bool) × (l ≡ 1 → x ≡ false) × (a ≡ FromLevel l) × (b ≡ cond x Memory Still)

abbrev pub Moved : Answer → Movement → Movement → Type 0
Moved (Waits n) a b = (a ≡ Still) × (b ≡ Still)
Moved (Brought n) a b = (a ≡ Memory) × Leaver b
Moved (WasRead s) a b = Served a b
Moved (Wrote s) a b = Served a b
Moved (Flushed n) a b = (a ≡ Memory) × (b ≡ Still)
Moved (Committed x) a b = (a ≡ cond x Memory Still) × (b ≡ Still)

-- whether memory takes a line that leaves
abbrev is_taken : Mark → Bool
is_taken Shared = false
is_taken Modified = true

abbrev is_leaving : Option Line → Bool
is_leaving None = false
is_leaving (Some g) = is_taken g.mark

leaver : (o : Option Line) → movement_of o ≡ cond (is_leaving o) Memory Still
leaver None = refl
leaver (Some g) = go g.mark
  where
    go : (k : Mark) → movement_as k ≡ cond (is_taken k) Memory Still
    go Shared = refl
    go Modified = refl

-- nothing leaves for a block that is held at level 1
served : (r : RunMeaning) (c n : ℕ) (h : Holding) → Served (FromLevel h.2) (movement_of (pushed_out r c n h))
served r c n h = (h.2, is_leaving (pushed_out r c n h), stays, refl, leaver (pushed_out r c n h))
  where
    stays : h.2 ≡ 1 → is_leaving (pushed_out r c n h) ≡ false
    stays e = ap (λ i. is_leaving (cond (eqb i 1) None (put_back_out (tier_at r.cores c) n (mark_of h.0) h.1))) e

-- P holds of a memory after a call, if it held before
module _ (P : MemoryMeaning → Type 0) (next : (m : MemoryMeaning) (c : MemoryCall) → P m → P (after m c)) where
  left-keeps : (o : Option Line) (m : MemoryMeaning) → P m → P (memory_taking o m)
  left-keeps None m h = h
  left-keeps (Some g) m h = go g.mark
    where
      go : (k : Mark) → P (memory_taking_as k g.block g.stamp m)
      go Shared = h
      go Modified = next m (store g.block g.stamp) h

  recalled-keeps : (n : ℕ) (o : Option ℕ) (m : MemoryMeaning) → P m → P (recalled n o m)
  recalled-keeps n None m h = h
  recalled-keeps n (Some s) m h = next m (store n s) h

  alone-keeps : (b : Bool) (c n : ℕ) (cs : List CoreMeaning) (m : MemoryMeaning) → P m → P (alone_memory b c n cs m)
  alone-keeps true c n cs m h = h
  alone-keeps false c n cs m h = next (recalled n (met 0 c n cs) m) (stale n) (recalled-keeps n (met 0 c n cs) m h)

  -- Q holds of each refused call and, where there is room for a step, of each accepted one that leaves such a memory
  module _ (r : RunMeaning) (start : P r.memory) (Q : Outcome → Type 0) (no : (e : Refusal) → Q (refused r e))
      (yes : r.tally.steps < most_steps → (cs : List CoreMeaning) (m : MemoryMeaning) → P m
      → (a b : Movement) (x : Answer) → Moved x a b → Q (accepted r cs m (performed_by x) a b x)) where
    if_provided : (b : Bool) (e : Refusal) (o : Outcome) → Q o → Q (provided b e r o)
    if_provided true e o h = h
    if_provided false e o h = no e

    module _ (room : r.tally.steps < most_steps) where
      of_access : (c : ℕ) (a : Access) (o : Option Holding) → Q (access_by r c a o)
      of_access c a None = yes room _ _ start Still Still (Waits (block_of a)) (refl, refl)
      of_access c (ToRead n) (Some h) =
          let out = pushed_out r c n h in
          yes room _ _ (left-keeps out r.memory start) (FromLevel h.2) (movement_of out) (WasRead h.1) (served r c n h)
      of_access c (ToWrite n) (Some h) =
          let out = pushed_out r c n h in
          yes room _ _ (alone-keeps (is_modified h) c n (brought_up r c n h) (memory_taking out r.memory) (left-keeps out r.memory start))
          (FromLevel h.2) (movement_of out) (Wrote _) (served r c n h)

      of_fetch : (c : ℕ) (a : Access) (o : Option ℕ) → Q (fetch_by r c a o)
      of_fetch c a None = no StaleBlock
      of_fetch c a (Some s) =
          let out = fetched_line r c a s in
          yes room _ _ (left-keeps out r.memory start) Memory (movement_of out) (Brought (block_of a)) (refl, (is_leaving out, leaver out))

      of_flush : (c n : ℕ) (o : Option ℕ) → Q (flush_by r c n o)
      of_flush c n None = no NotOwed
      of_flush c n (Some s) = yes room _ _ (next r.memory (store n s) start) Memory Still (Flushed n) (refl, refl)

      of_commit : (c n : ℕ) (o : Option ℕ) → Q (commit_by r c n o)
      of_commit c n None = yes room _ _ start Still Still (Committed false) (refl, refl)
      of_commit c n (Some s) = yes room _ _ (next r.memory (store n s) start) Memory Still (Committed true) (refl, refl)

      by_access : (c : ℕ) (a : Access) → Q (access r c a)
      by_access c a = of_access c a (look_of (tier_at r.cores c) (block_of a))

      of_act : (k : Call) (s : CoreState) → Q (act r k s)
      of_act (Read c n) Ready = by_access c (ToRead n)
      of_act (Read c n) (Waiting a) = no WrongState
      of_act (Read c n) (Due a) = no WrongState
      of_act (Write c n) Ready = by_access c (ToWrite n)
      of_act (Write c n) (Waiting a) = no WrongState
      of_act (Write c n) (Due a) = no WrongState
      of_act (Fetch c) Ready = no WrongState
      of_act (Fetch c) (Waiting a) = of_fetch c a (valid r.memory (block_of a))
      of_act (Fetch c) (Due a) = no WrongState
      of_act (Resume c) Ready = no WrongState
      of_act (Resume c) (Waiting a) = no WrongState
      of_act (Resume c) (Due a) = by_access c a
      of_act (Flush c n) Ready = of_flush c n (owed r c n)
      of_act (Flush c n) (Waiting a) = of_flush c n (owed r c n)
      of_act (Flush c n) (Due a) = of_flush c n (owed r c n)
      of_act (Commit c n) Ready = of_commit c n (modified_at r c n)
      of_act (Commit c n) (Waiting a) = no WrongState
      of_act (Commit c n) (Due a) = no WrongState

    pub of_step : (k : Call) → Q (step r k)
    unfolding step
    of_step k = go (ltb r.tally.steps most_steps) refl
      where
        past : Outcome
        past =
            provided (ltb (core_of k) (count_of r.cores)) NoSuchCore r
            (provided (fits_in (size_of r.memory) k) NoSuchBlock r
            (act r k (state_at r.cores (core_of k))))

        go : (b : Bool) → ltb r.tally.steps most_steps ≡ b → Q (provided b TooManySteps r past)
        go false e = no TooManySteps
        go true e =
            if_provided (ltb (core_of k) (count_of r.cores)) NoSuchCore _
            (if_provided (fits_in (size_of r.memory) k) NoSuchBlock _
            (of_act (ltb-true r.tally.steps most_steps e) k (state_at r.cores (core_of k))))
