-- The machine that was made is the one that is meant.
use Rattle.std.proofs.Common.{◌≡◌, ℕ, subst}
use Rattle.std.specs.Io.KnownBytes.{Appends}
use Rattle.machine.specs.Machine.{cores_of}
use Rattle.memory.specs.Flat.{flat}
use Rattle.scenario.specs.Texts.{unplaced, scenario_of}
use Rattle.report.specs.Lines.{text_of}
use Rattle.report.specs.Reading.{ReadBack}
use Rattle.simulator.specs.Report.{in_full, report_lines}
use Rattle.simulator.proofs.Playing.{on_one}
use Rattle.machine_study.specs.Reported.{scenario_report}
use Rattle.machine_study.proofs.report_scenario.Goals as goal

pub returns : goal.returns
returns g c =
    let name : ℕ = c.over.result.table.ghost_name in
    let read = scenario_of unplaced c.args.text.now in
    let same : report_lines in_full read (cores_of c.in_ok-row.row) (flat name c.over.result.table.now) ≡ scenario_report c.args.text.now name =
    λ i. report_lines in_full read (c.in_ok-row.ensures i) (flat name ((c.over.ensures i).now)) in
    let before = g.W.Write.contents c.args.report.now in
    let after = g.W.Write.contents c.report_on.new.report in
    on_one c.report_on.result c.report_on.ensures.report (λ written. record {
      names = name;
      report = subst (λ lines. Appends before after (text_of lines)) same written;
      reads_back = subst ReadBack same c.report_on.ensures.reads_back;
    })
