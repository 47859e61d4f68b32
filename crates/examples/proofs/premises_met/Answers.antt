-- Each premise is a lemma of the crate that it speaks of.
use Rattle.std.proofs.Common.{◌≡◌, ◌≢◌, ℕ, ◌≤◌, Bool, cond, eqb, List, [], length, Some, None, Ok, Err, Result, refl, sym, ap, ◌∙◌, arith, le-ltb, ne_eqb}
use lib.ListN.{length-replicate}
use Rattle.std.proofs.lemmas.Option.{same_Some}
use Rattle.device.specs.Device.{after, reach}
use Rattle.parts.specs.declared.mark.Mark.TheVariants.{Shared}
use Rattle.parts.specs.declared.line.Line.{Line}
use Rattle.tier.specs.Meaning.{TierMeaning, TierCall, take, line, out_of, Lawful as LawfulTier}
use Rattle.tier.specs.Options.{never}
use Rattle.tier.specs.Pile.{pile}
use Rattle.tier.specs.PileLaws.{pile-lawful}
use Rattle.direct.specs.Lines.{direct, empty}
use Rattle.direct.specs.DirectLaws.{direct-lawful, empty-placed}
use Rattle.ranked.specs.RankedLaws.{ranked-lawful}
use Rattle.assoc.specs.Sets.{set_associative, empty as empty-sets}
use Rattle.assoc.specs.SetsLaws.{sets_lawful}
use Rattle.assoc.proofs.SetAges.{empty-good}
use Rattle.memory.specs.declared.cell.Cell.{Cell}
use Rattle.memory.specs.Flat.{flat}
use Rattle.memory.specs.FlatLaws.{flat-lawful}
use Rattle.window.specs.WindowLaws.{window-lawful}
use Rattle.interleaved.specs.InterleavedLaws.{interleaved-lawful}
use Rattle.row.specs.Cores.{count_of, AllLawful}
use Rattle.machine.specs.Machine.{two_levels, two_cores}
use Rattle.protocol.specs.declared.refusal.Refusal.{Refusal}
use Rattle.protocol.specs.declared.refusal.Refusal.TheVariants.{NoBlocks}
use Rattle.study.specs.Run.{RunMeaning}
use Rattle.study.specs.Opening.{opened, opening}
use Rattle.protocol.specs.declared.weights.Prices.{Prices}
use Rattle.protocol.specs.Prices.{is_dear, Affordable}
use Rattle.study.proofs.Warranty.{warrant}
use Rattle.examples.specs.Nine.{weights}
use Rattle.examples.specs.Examples.{puts}
use Rattle.examples.specs.FreeRunning.{cleared}
use Rattle.examples.specs.FreeRunningLaws.{free-lawful}
use Rattle.examples.specs.FreeRuns.{free, cores_with, full}
use Rattle.examples.proofs.premises_met.Goals as goal

lines : (l : ℕ) → 1 ≤ l → LawfulTier (direct (empty l))
lines l some = direct-lawful l (empty l) (some, length-replicate l None, empty-placed (empty l) l refl)

sets : (s w : ℕ) → 1 ≤ s → LawfulTier (set_associative (empty-sets s w))
sets s w some = sets_lawful (empty-sets s w) (empty-good s w some)

levels : LawfulTier two_levels
levels = pile-lawful (direct (empty 2)) (set_associative (empty-sets 2 2)) (lines 2 (omega arith)) (sets 2 2 (omega arith))

both : AllLawful two_cores
both = (levels, (levels, tt))

few : count_of two_cores ≤ 8
few = omega arith

fair : Affordable weights
unfolding is_dear
fair = refl

-- a table of 1 to 4,096 cells is a memory of so many blocks, so that the study opens
opens : (w : Prices) (a : ℕ) (t : List Cell) → 1 ≤ length t → length t ≤ 4096 → opening two_cores (flat a t) w ≡ Ok (opened two_cores (flat a t) w)
opens w a t some most =
    let go : Bool → Result RunMeaning Refusal = λ b. cond b (Err NoBlocks) (Ok (opened two_cores (flat a t) w)) in
    ap (λ b. go (eqb (cond b 0 (length t)) 0)) (le-ltb 4096 (length t) most) ∙ ap go (ne_eqb (length t) 0 (λ e. omega arith))

pub returns-clause-met : goal.returns-clause-met
returns-clause-met c = record {
  direct_tier = λ l some _. lines l some;
  ranked_tier = λ lru l _ _. ranked-lawful lru l [] refl;
  set_tier = λ s w some _ _ _. sets s w some;
  piled = pile-lawful;
  table = flat-lawful;
  windowed = window-lawful;
  in_turn = interleaved-lawful;
  cores_lawful = both;
  cores_few = few;
  fair = fair;
  opens = opens;
  machine = λ w ok a t. warrant two_cores (flat a t) w few both (flat-lawful a t) ok;
}

-- ---- a kind whose choice moves on with every call

moving : LawfulTier free
moving = free-lawful cleared (λ g h e. never g e)

above : (t : TierMeaning) → LawfulTier t → LawfulTier (pile free t)
above t h = pile-lawful free t moving h

below : (t : TierMeaning) → LawfulTier t → LawfulTier (pile t free)
below t h = pile-lawful t free h moving

-- a device that gives out 1 is not one that gives out 0
moves : (c : TierCall) → out_of (after (reach free full) c) 2 Shared 9 ≡ Some (line 1 Shared 1) → after (reach free full) c ≢ reach free full
moves c e q =
    let blocks : Some (line 1 Shared 1) ≡ Some (line 0 Shared 0) = sym e ∙ ap (λ d. out_of d 2 Shared 9) q in
    let z : ◌≡◌ {A = ℕ} 1 0 = ap (λ (g : Line). g.block) (same_Some (line 1 Shared 1) (line 0 Shared 0) blocks) in
    absurd (omega arith)

pub returns-clause-any_kind : goal.returns-clause-any_kind
returns-clause-any_kind c = record {
  lawful = moving;
  above = above;
  below = below;
  warranted = λ t h a cells. warrant (cores_with t) (flat a cells) weights (omega arith) (above t h, (below t h, tt)) (flat-lawful a cells) fair;
  gives = refl;
  refused_held = λ n. refl;
  refused_gives = refl;
  missed_held = λ n. refl;
  missed_gives = refl;
  refused_moves = moves (puts 0) refl;
  missed_moves = moves (take 2) refl;
}
