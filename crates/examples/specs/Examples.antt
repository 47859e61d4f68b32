-- Worked examples: of each kind of tier, of a pile and a window, of the figure, and of two scenarios with their reports.
use Rattle.std.specs.Prelude.{◌≡◌, ℕ, false, List, [], ◌∷◌, length, Some, None, Ok, Option}
use Rattle.device.specs.Device.{reach}
use Rattle.parts.specs.declared.mark.Mark.TheVariants.{Shared}
use Rattle.parts.specs.declared.line.Line.{Line}
use Rattle.tier.specs.Meaning.{TierMeaning, TierCall, put, touch, line, look_of, out_of}
use Rattle.tier.specs.Pile.{pile}
use Rattle.direct.specs.Lines.{direct, empty}
use Rattle.ranks.specs.Ranks.{ranked}
use Rattle.assoc.specs.Sets.{set_associative, empty as empty-sets}
use Rattle.memory.specs.Meaning.{MemoryMeaning, size_of, lent_of}
use Rattle.window.specs.Window.{window}
use Rattle.protocol.specs.declared.answer.Answer.TheVariants.{Read as WasRead}
use Rattle.protocol.specs.declared.call.Call.TheVariants.{Read}
use Rattle.protocol.specs.Prices.{weighing}
use Rattle.machine.specs.Machine.{two_cores}
use Rattle.study.specs.Figure.{figure_of}
use Rattle.study.specs.Run.{tally}
use Rattle.study.specs.Opening.{started}
use Rattle.study.specs.Play.{played, played_of, history, calls_of}
use Rattle.scenario.specs.Reading.{a_read}
use Rattle.scenario.specs.Texts.{scenario_of}
use Rattle.report.specs.Lines.{text_of}
use Rattle.simulator.specs.Report.{in_full, report_lines}
use Rattle.examples.specs.Nine.{weights, blocks, begun, nine, scenario_text, report_text, layout, over, table_after}
use Rattle.examples.specs.Leaving.{leaving_cores, leaving_weights, leaving_begun, leaving, untouched, leaving_text, leaving_report_text, leaving_layout, leaving_over, leaving_table}

-- what a put of block n gives out, once the calls were made
abbrev pub gives_out : TierMeaning → List TierCall → ℕ → Option Line
gives_out m cs n = out_of (reach m cs) n Shared 9

-- block n is put with stamp n
abbrev pub puts : ℕ → TierCall
puts n = put n Shared n

abbrev pub one : TierMeaning
one = direct (empty 1)

abbrev pub five : TierMeaning
five = pile one (pile one (pile one (pile one one)))

pub record Examples : Type 0 where
  -- two lines, put 0 and 2: they share a line, so 0 is given out
  pub direct_two : gives_out (direct (empty 2)) (puts 0 ∷ []) 2 ≡ Some (line 0 Shared 0)
  -- one set of two ways, put 0 and 1, touch 0, put 2: 1 was used longest ago
  pub set_touched : gives_out (set_associative (empty-sets 1 2)) (puts 0 ∷ puts 1 ∷ touch 0 ∷ []) 2 ≡ Some (line 1 Shared 1)
  -- a queue of two, the same calls: 0 was put longest ago
  pub queue_touched : gives_out (ranked false 2 []) (puts 0 ∷ puts 1 ∷ touch 0 ∷ []) 2 ≡ Some (line 0 Shared 0)
  -- a direct tier of one line on a queue of one, put 0, 1 and 2: 0 is given out, and 1 is at level 2
  pub pile_leaver : gives_out (pile (direct (empty 1)) (ranked false 1 [])) (puts 0 ∷ puts 1 ∷ []) 2 ≡ Some (line 0 Shared 0)
  pub pile_level : look_of (reach (pile (direct (empty 1)) (ranked false 1 [])) (puts 0 ∷ puts 1 ∷ puts 2 ∷ [])) 1 ≡ Some (0, 1, 2)
  -- five direct tiers of one line in a pile, put 0 to 4: the fifth level counts as the fourth
  pub pile_deepest : look_of (reach five (puts 0 ∷ puts 1 ∷ puts 2 ∷ puts 3 ∷ puts 4 ∷ [])) 0 ≡ Some (0, 0, 4)
  -- a window from 4 of length 10 over a memory of 6 blocks has 2
  pub window_short : (m : MemoryMeaning) → size_of m ≡ 6 → size_of (window 4 10 m) ≡ 2
  -- a mean of 100, a third rounded down, and no mean of no access
  pub figure_whole : figure_of 300 3 ≡ Some 10000
  pub figure_third : figure_of 1 3 ≡ Some 33
  pub figure_none : figure_of 0 0 ≡ None
  -- the scenario is read so, into any table of 256 entries
  pub nine_read : (t : List ℕ) → length t ≡ 256 → scenario_of t scenario_text ≡ Ok (a_read weights layout (calls_of nine))
  -- whatever the name of the loan: the nine calls begin, and are answered so; 8 accepted steps, 1 write, 3 accesses, total 300
  pub nine_begin : (a : ℕ) → started (weighing weights) two_cores (blocks a) ≡ Ok (begun a)
  pub nine_history : (a : ℕ) → history (begun a) (calls_of nine) ≡ nine
  pub nine_tally : (a : ℕ) → (over a).tally ≡ tally 8 1 3 300
  -- the table that was lent, afterwards
  pub nine_lent : (a : ℕ) → lent_of (over a).memory ≡ record { name = a; cells = table_after } ∷ []
  -- from the bytes of the scenario to those of its report
  pub nine_report : (a : ℕ) (t : List ℕ) → length t ≡ 256
      → text_of (report_lines in_full (scenario_of t scenario_text) two_cores (blocks a)) ≡ report_text
  -- all of this of a scenario in which a hit at level 2 pushes a modified line out: 22 accepted steps, 4 writes, 7 accesses, total 916
  pub leaving_read : (t : List ℕ) → length t ≡ 256 → scenario_of t leaving_text ≡ Ok (a_read leaving_weights leaving_layout (calls_of leaving))
  pub leaving_begin : (a : ℕ) → started (weighing leaving_weights) leaving_cores (blocks a) ≡ Ok (leaving_begun a)
  pub leaving_history : (a : ℕ) → history (leaving_begun a) (calls_of leaving) ≡ leaving
  pub leaving_tally : (a : ℕ) → (leaving_over a).tally ≡ tally 22 4 7 916
  pub leaving_lent : (a : ℕ) → lent_of (leaving_over a).memory ≡ record { name = a; cells = leaving_table } ∷ []
  pub leaving_report : (a : ℕ) (t : List ℕ) → length t ≡ 256
      → text_of (report_lines in_full (scenario_of t leaving_text) leaving_cores (blocks a)) ≡ leaving_report_text
  -- without the touch the hit costs its level alone: 504 after 17 calls, 100 for a commit, and 10
  pub leaving_untouched : (a : ℕ) → played_of (played (leaving_begun a) untouched) (Read 0 3) ≡ record { answer = Ok (WasRead 2); total = 614 }
