-- The definitions compute.
use Rattle.std.proofs.Common.{◌≡◌, ℕ, ◌-◌, ◌==◌, min, cond, List, length, Ok, Err, refl, ap}
use Rattle.std.specs.Fmt.{digits}
use Rattle.fields.specs.Parts.{parts}
use Rattle.protocol.specs.Prices.{is_dear}
use Rattle.row.specs.Cores.{absent, core_at, place, invalidated, met, awaited, renewed}
use Rattle.study.specs.Step.{step}
use Rattle.study.specs.Opening.{zeroed}
use Rattle.study.specs.Play.{played, history, calls_of}
use Rattle.scenario.specs.Changes.{weights_of, line_change}
use Rattle.scenario.specs.Scan.{scan}
use Rattle.records.specs.declared.keyword.Section.TheVariants.{Scenario}
use Rattle.scenario.specs.declared.fault.Fault.TheVariants.{Layout}
use Rattle.scenario.specs.declared.fault.LayoutFault.TheVariants.{BadTable}
use Rattle.scenario.specs.Reading.{a_read, section_of}
use Rattle.scenario.specs.Texts.{unplaced, scenario_of}
use Rattle.report.specs.Lines.{text_of}
use Rattle.simulator.specs.Report.{in_full, report_lines, turn_lines}
use Rattle.machine.specs.Machine.{two_cores}
use Rattle.examples.specs.Nine.{weights, blocks, nine, scenario_text, layout}
use Rattle.examples.specs.Leaving.{leaving_cores, leaving_weights, leaving, leaving_text, leaving_layout}
use Rattle.examples.proofs.examples_hold.Goals as goal

read : (t : List ℕ) → length t ≡ 256 → scenario_of t scenario_text ≡ Ok (a_read weights layout (calls_of nine))
unfolding parts weights_of line_change scan section_of
read t e = ap (λ n. cond (n == 256) (section_of Scenario unplaced scenario_text) (Err (Layout BadTable))) e

read_leaving : (t : List ℕ) → length t ≡ 256 → scenario_of t leaving_text ≡ Ok (a_read leaving_weights leaving_layout (calls_of leaving))
unfolding parts weights_of line_change scan section_of
read_leaving t e = ap (λ n. cond (n == 256) (section_of Scenario unplaced leaving_text) (Err (Layout BadTable))) e

pub returns-clause-hold : goal.returns-clause-hold
unfolding is_dear step played history absent core_at place invalidated met awaited renewed zeroed text_of turn_lines digits
returns-clause-hold c = record {
  direct_two = refl;
  set_touched = refl;
  queue_touched = refl;
  pile_leaver = refl;
  pile_level = refl;
  pile_deepest = refl;
  window_short = λ m e. ap (λ n. min 10 (n - 4)) e;
  figure_whole = refl;
  figure_third = refl;
  figure_none = refl;
  nine_read = read;
  nine_begin = λ a. refl;
  nine_history = λ a. refl;
  nine_tally = λ a. refl;
  nine_lent = λ a. refl;
  nine_report = λ a t e. ap (λ r. text_of (report_lines in_full r two_cores (blocks a))) (read t e);
  leaving_read = read_leaving;
  leaving_begin = λ a. refl;
  leaving_history = λ a. refl;
  leaving_tally = λ a. refl;
  leaving_lent = λ a. refl;
  leaving_report = λ a t e. ap (λ r. text_of (report_lines in_full r leaving_cores (blocks a))) (read_leaving t e);
  leaving_untouched = λ a. refl;
}
