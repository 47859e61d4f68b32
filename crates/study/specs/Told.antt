-- What each answer tells: how cores and memory stood before the call and stand after it, what every tier and the memory were
-- told, and what the call was charged.
use Rattle.std.specs.Prelude.{◌≡◌, ℕ, ◌+◌, ◌≤◌, ◌≢◌, Bool, true, false, cond, List, Some, None, Ok, Err, Option, Result, ◌==◌}
use Rattle.device.specs.Device.{after}
use Rattle.parts.specs.declared.mark.Mark.{Mark}
use Rattle.parts.specs.declared.mark.Mark.TheVariants.{Shared, Modified}
use Rattle.parts.specs.declared.line.Line.{Line}
use Rattle.parts.specs.Marks.{mark_number}
use Rattle.tier.specs.Meaning.{TierMeaning, put, take, change, touch, held_of}
use Rattle.memory.specs.Meaning.{MemoryMeaning, store, stale}
use Rattle.protocol.specs.declared.access.Access.{Access}
use Rattle.protocol.specs.declared.access.Access.TheVariants.{Read as ToRead, Write as ToWrite}
use Rattle.protocol.specs.declared.access.CoreState.{CoreState}
use Rattle.protocol.specs.declared.access.CoreState.TheVariants.{Ready, Waiting, Due}
use Rattle.protocol.specs.declared.answer.Answer.{Answer}
use Rattle.protocol.specs.declared.answer.Answer.TheVariants.{Waits, Brought, Read as WasRead, Wrote, Flushed, Committed}
use Rattle.protocol.specs.declared.call.Call.{Call}
use Rattle.protocol.specs.declared.call.Call.TheVariants.{Read, Write, Fetch, Resume, Flush, Commit}
use Rattle.protocol.specs.declared.refusal.Refusal.{Refusal}
use Rattle.protocol.specs.declared.weights.Prices.{Prices}
use Rattle.protocol.specs.Accesses.{block_of}
use Rattle.protocol.specs.Calls.{core_of}
use Rattle.row.specs.Cores.{CoreMeaning, core_at, tier_at, state_at}
use Rattle.study.specs.Run.{RunMeaning}
use Rattle.study.specs.Step.{valid, step}
use Rattle.study.specs.Coherence.{Holds, Lacks, copy_of}
use Rattle.study.specs.Questions.{Wanted, Allowed, Because}

-- of core d, in the state s, the call asks for the access a
abbrev pub Asks : Call → ℕ → CoreState → Access → Type 0
Asks (Read c n) d s a = (c ≡ d) × (s ≡ Ready) × (a ≡ ToRead n)
Asks (Write c n) d s a = (c ≡ d) × (s ≡ Ready) × (a ≡ ToWrite n)
Asks (Resume c) d s a = (c ≡ d) × (s ≡ Due a)
Asks _ d s a = ⊥

-- core c holds block n with this mark and stamp at level l
abbrev pub HoldsAt : List CoreMeaning → ℕ → ℕ → Mark → ℕ → ℕ → Type 0
HoldsAt cs c n k s l = held_of (tier_at cs c) n ≡ Some (mark_number k, s, l)

-- every core but c is as it was
abbrev pub OthersStay : ℕ → RunMeaning → RunMeaning → Type 0
OthersStay c r r' = (d : ℕ) → d ≢ c → core_at r'.cores d ≡ core_at r.cores d

-- core c keeps its copy of block n, and memory what it has
abbrev pub Keeps : ℕ → ℕ → RunMeaning → RunMeaning → Type 0
Keeps c n r r' = (copy_of r'.cores c n ≡ copy_of r.cores c n) × (valid r'.memory n ≡ valid r.memory n)

-- ---- what tiers and memory are told
-- (nothing of this is taken from the definition of a step, so the law does not lean on what it judges)

-- the tier t when it has served block n, held with this mark and stamp at level l: at level 1 it is told that the block was used,
-- and from deeper the block is taken and put again
abbrev pub served : TierMeaning → ℕ → Mark → ℕ → ℕ → TierMeaning
served t n k s l = cond (l == 1) (after t (touch n)) (after (after t (take n)) (put n k s))

-- another core's tier t when block n is written, whose writer held it with this mark: a modified copy has no other
abbrev pub given_up : Mark → ℕ → TierMeaning → TierMeaning
given_up Shared n t = after t (take n)
given_up Modified n t = t

-- the memory m when a line has left a core: it takes a modified one, and a shared one is dropped
abbrev pub taking_as : Mark → ℕ → ℕ → MemoryMeaning → MemoryMeaning
taking_as Shared n s m = m
taking_as Modified n s m = after m (store n s)

abbrev pub taking : Option Line → MemoryMeaning → MemoryMeaning
taking None m = m
taking (Some g) m = taking_as g.mark g.block g.stamp m

-- the memory m when block n is written, whose writer held it with this mark: a modified copy was newer already
abbrev pub outdated : Mark → ℕ → MemoryMeaning → MemoryMeaning
outdated Shared n m = after m (stale n)
outdated Modified n m = m

-- ---- what is charged

-- level l weighs p, at the weights w
pub record LevelWeight (w : Prices) (l p : ℕ) : Type 0 where
  pub low : 1 ≤ l
  pub high : l ≤ 4
  pub first : l ≡ 1 → p ≡ w.w1
  pub second : l ≡ 2 → p ≡ w.w2
  pub third : l ≡ 3 → p ≡ w.w3
  pub fourth : l ≡ 4 → p ≡ w.w4

-- what it costs more when a line leaves: a modified one goes to memory
abbrev pub leaving_as : Prices → Mark → ℕ
leaving_as w Shared = 0
leaving_as w Modified = w.wm

abbrev pub leaving_price : Prices → Option Line → ℕ
leaving_price w None = 0
leaving_price w (Some g) = leaving_as w g.mark

-- ---- what leaves

-- what memory has of a block whose copy with this mark and stamp has left, where it had v
abbrev pub unless_modified : Mark → ℕ → Option ℕ → Option ℕ
unless_modified Shared s v = v
unless_modified Modified s v = Some s

-- the line g of core c has left for block n
pub record Leaves (c n : ℕ) (g : Line) (r r' : RunMeaning) : Type 0 where
  pub other : g.block ≢ n
  pub held : Holds r.cores c g.block g.mark g.stamp
  pub gone : Lacks r'.cores c g.block
  pub memory : valid r'.memory g.block ≡ unless_modified g.mark g.stamp (valid r.memory g.block)

-- where core c got or used block n: at most one line has left for it, and all other blocks are kept
pub record Rest (c n : ℕ) (r r' : RunMeaning) : Type 0 where
  pub leaver : Option Line
  pub left : (g : Line) → leaver ≡ Some g → Leaves c n g r r'
  pub kept : (b : ℕ) → b ≢ n → ((g : Line) → leaver ≡ Some g → b ≢ g.block) → Keeps c b r r'

-- ---- the answers

-- core c lacks block n, which it is asked for, and waits, free of charge; no tier and no memory is altered
pub record NowWaits (k : Call) (c n : ℕ) (r r' : RunMeaning) (charge : ℕ) : Type 0 where
  pub wanted : Access
  pub asked : Asks k c (state_at r.cores c) wanted
  pub block : block_of wanted ≡ n
  pub lacked : Lacks r.cores c n
  pub waits : state_at r'.cores c ≡ Waiting wanted
  pub others : OthersStay c r r'
  pub tiers : (d : ℕ) → tier_at r'.cores d ≡ tier_at r.cores d
  pub memory : r'.memory ≡ r.memory
  pub charged : charge ≡ 0

-- core c waited for block n and lacked it; it has the block as memory has it, shared and at level 1, and is due
pub record NowDue (c n : ℕ) (r r' : RunMeaning) (charge : ℕ) : Type 0 where
  pub wanted : Access
  pub waited : state_at r.cores c ≡ Waiting wanted
  pub block : block_of wanted ≡ n
  pub lacked : Lacks r.cores c n
  pub stamp : ℕ
  pub stored : valid r.memory n ≡ Some stamp
  pub stays : valid r'.memory n ≡ Some stamp
  pub holds : HoldsAt r'.cores c n Shared stamp 1
  pub due : state_at r'.cores c ≡ Due wanted
  pub tier : tier_at r'.cores c ≡ after (tier_at r.cores c) (put n Shared stamp)
  pub others : OthersStay c r r'
  pub rest : Rest c n r r'
  pub memory : r'.memory ≡ taking rest.leaver r.memory
  pub charged : charge ≡ r.prices.wm + leaving_price r.prices rest.leaver

-- core c held block n with this mark and stamp at level l, has made its access to it, and is ready
pub record Accessed (c n : ℕ) (k : Mark) (s l : ℕ) (r r' : RunMeaning) (charge : ℕ) : Type 0 where
  pub held : HoldsAt r.cores c n k s l
  pub ready : state_at r'.cores c ≡ Ready
  pub rest : Rest c n r r'
  pub weight : ℕ
  pub level : LevelWeight r.prices l weight
  pub charged : charge ≡ weight + leaving_price r.prices rest.leaver

-- core c held the block that it was asked to read, with the stamp s, and holds it so at level 1
pub record NowRead (k : Call) (c s : ℕ) (r r' : RunMeaning) (charge : ℕ) : Type 0 where
  pub block : ℕ
  pub asked : Asks k c (state_at r.cores c) (ToRead block)
  pub mark : Mark
  pub level : ℕ
  pub access : Accessed c block mark s level r r' charge
  pub holds : HoldsAt r'.cores c block mark s 1
  pub stays : valid r'.memory block ≡ valid r.memory block
  pub tier : tier_at r'.cores c ≡ served (tier_at r.cores c) block mark s level
  pub others : OthersStay c r r'
  pub memory : r'.memory ≡ taking access.rest.leaver r.memory

-- core c held the block that it was asked to write; no other core has it now, nor has memory, and its stamp s is
-- one more than the writes before
pub record NowWrote (k : Call) (c s : ℕ) (r r' : RunMeaning) (charge : ℕ) : Type 0 where
  pub block : ℕ
  pub asked : Asks k c (state_at r.cores c) (ToWrite block)
  pub mark : Mark
  pub before : ℕ
  pub level : ℕ
  pub access : Accessed c block mark before level r r' charge
  pub holds : HoldsAt r'.cores c block Modified s 1
  pub newest : s ≡ r.tally.writes + 1
  pub alone : (d : ℕ) → d ≢ c → Lacks r'.cores d block
  pub stale : valid r'.memory block ≡ None
  pub tier : tier_at r'.cores c ≡ after (served (tier_at r.cores c) block mark before level) (change block Modified s)
  -- the other cores keep their states and all other blocks
  pub states : (d : ℕ) → d ≢ c → state_at r'.cores d ≡ state_at r.cores d
  pub others : (d n : ℕ) → d ≢ c → n ≢ block → copy_of r'.cores d n ≡ copy_of r.cores d n
  pub tiers : (d : ℕ) → d ≢ c → tier_at r'.cores d ≡ given_up mark block (tier_at r.cores d)
  pub memory : r'.memory ≡ outdated mark block (taking access.rest.leaver r.memory)

-- core c held block n modified; it shares the block, at its level, with memory, and has not used it
pub record NowClean (c n : ℕ) (r r' : RunMeaning) (charge : ℕ) : Type 0 where
  pub stamp : ℕ
  pub level : ℕ
  pub held : HoldsAt r.cores c n Modified stamp level
  pub holds : HoldsAt r'.cores c n Shared stamp level
  pub stored : valid r'.memory n ≡ Some stamp
  pub state : state_at r'.cores c ≡ state_at r.cores c
  pub tier : tier_at r'.cores c ≡ after (tier_at r.cores c) (change n Shared stamp)
  pub others : OthersStay c r r'
  pub rest : (b : ℕ) → b ≢ n → Keeps c b r r'
  pub memory : r'.memory ≡ after r.memory (store n stamp)
  pub charged : charge ≡ r.prices.wm

-- a commit: core c held block n modified, or did not and nothing is altered
abbrev pub NowCommitted : ℕ → ℕ → RunMeaning → RunMeaning → ℕ → Bool → Type 0
NowCommitted c n r r' charge true = NowClean c n r r' charge
NowCommitted c n r r' charge false =
    ((s : ℕ) → Holds r.cores c n Modified s → ⊥) × (r'.cores ≡ r.cores) × (r'.memory ≡ r.memory) × (charge ≡ 0)

-- what an accepted call that was answered and charged so has made of the run r
abbrev pub Answered : Call → RunMeaning → RunMeaning → Answer → ℕ → Type 0
Answered k r r' (Waits n) charge = NowWaits k (core_of k) n r r' charge
Answered k r r' (Brought n) charge = (k ≡ Fetch (core_of k)) × NowDue (core_of k) n r r' charge
Answered k r r' (WasRead s) charge = NowRead k (core_of k) s r r' charge
Answered k r r' (Wrote s) charge = NowWrote k (core_of k) s r r' charge
Answered k r r' (Flushed n) charge = (k ≡ Flush (core_of k) n) × Wanted (core_of k) n r.cores × NowClean (core_of k) n r r' charge
Answered k r r' (Committed b) charge = (n : ℕ) × (k ≡ Commit (core_of k) n) × NowCommitted (core_of k) n r r' charge b

-- the run r became r' by the call k, which was answered and charged so: it is accepted where every question is answered by yes,
-- and a refused one leaves the run as it was
abbrev pub Told : Call → RunMeaning → RunMeaning → Result Answer Refusal → ℕ → Type 0
Told k r r' (Ok x) charge = Allowed k r × Answered k r r' x charge
Told k r r' (Err e) charge = Because k r e × (r' ≡ r) × (charge ≡ 0)

abbrev pub Tells : RunMeaning → Call → Type 0
Tells r k = Told k r (step r k).run (step r k).answer (step r k).charge
