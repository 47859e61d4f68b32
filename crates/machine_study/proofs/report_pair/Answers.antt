-- The machines that were made are those that are meant.
use Rattle.std.proofs.Common.{◌≡◌, ◌∙◌, ℕ, subst}
use Rattle.std.specs.Io.KnownBytes.{Appends}
use Rattle.machine.specs.Machine.{cores_of}
use Rattle.memory.specs.Flat.{flat}
use Rattle.study.specs.Settling.{quoted}
use Rattle.scenario.specs.Texts.{single_of}
use Rattle.report.specs.declared.paired_lines.Side.TheVariants.{A, B}
use Rattle.report.specs.Lines.{text_of}
use Rattle.report.specs.Reading.{ReadBack}
use Rattle.simulator.specs.Simulation.{schedule_of}
use Rattle.simulator.proofs.Playing.{on_one}
use Rattle.paired.specs.Single.{single_study_of, side_lines, pair_lines}
use Rattle.machine_study.specs.Reported.{single_outcome, pair_report}
use Rattle.machine_study.proofs.report_pair.Goals as goal

pub returns : goal.returns
returns g c =
    let a = c.args.a.now in
    let b = c.args.b.now in
    let s = c.args.schedule.now in
    let first : ℕ = c.over.result.table.ghost_name in
    let second : ℕ = c.over-2.result.table.ghost_name in
    let of_a : c.compare.result.a.outcome ≡ single_outcome a s first =
    c.compare.ensures.a.outcome ∙ (λ i. quoted (single_study_of (single_of a s) (c.in_ok-two_cores.ensures i) (flat first ((c.over.ensures i).now))) (schedule_of (single_of a s))) in
    let of_b : c.compare.result.b.outcome ≡ single_outcome b s second =
    c.compare.ensures.b.outcome ∙ (λ i. quoted (single_study_of (single_of b s) (c.in_ok-two_cores-2.ensures i) (flat second ((c.over-2.ensures i).now))) (schedule_of (single_of b s))) in
    let same :
    pair_lines
    (side_lines A a s (cores_of c.in_ok-two_cores.field-0) (flat first c.over.result.table.now))
    (side_lines B b s (cores_of c.in_ok-two_cores-2.field-0) (flat second c.over-2.result.table.now))
    c.compare.result.a.outcome
    c.compare.result.b.outcome
    ≡ pair_report a b s (first, second) =
    λ i.
    pair_lines
    (side_lines A a s (c.in_ok-two_cores.ensures i) (flat first ((c.over.ensures i).now)))
    (side_lines B b s (c.in_ok-two_cores-2.ensures i) (flat second ((c.over-2.ensures i).now)))
    (of_a i)
    (of_b i) in
    let before = g.W.Write.contents c.args.report.now in
    let after = g.W.Write.contents c.compare.new.report in
    on_one c.compare.result.written c.compare.ensures.report (λ written. record {
      names = (first, second);
      report = subst (λ lines. Appends before after (text_of lines)) same written;
      reads_back = subst ReadBack same c.compare.ensures.reads_back;
    })
