use Rattle.std.proofs.Common.{◌∙◌, ap, length, arith, sym, subst, ℕ}
use Rattle.std.specs.List.{All}
use Rattle.std.proofs.lemmas.List.Elements.{All-same}
use Rattle.std.proofs.lemmas.List.Sums.{count_by-le-length}
use Rattle.run_reports.specs.Conditions.{meets}
use Rattle.run_reports.specs.Latencies.{IsWithin}
use Rattle.run_reports.specs.References.{references}
use Rattle.machine_cells.specs.Run.{run}
use Rattle.machine_cells.specs.Runs.{state_in}
use Rattle.project_book.proofs.Accepting.{short_run}
use Rattle.run_reports.proofs.Numbers.{few_references, within_horizon}
use Rattle.run_reports.proofs.latency.latencies_of.Goals as goal

pub returns-clause-few : goal.returns-clause-few
returns-clause-few c =
    let P = c.args.project.now in
    let known = few_references P (state_in (run P)) c.is_project.ensures.project.small (short_run P c.is_project.ensures.project) in
    let long = ap length (c.as_slice.ensures.value ∙ c.in_ok-references.ensures) in
    record {
      short = omega (arith, c.in_ok-latencies.ensures.many, c.horizon.ensures.horizon, short_run P c.is_project.ensures.project);
      few = omega (arith, c.in_ok-latencies.ensures.all, count_by-le-length (meets c.args.condition.now) c.as_slice.result.now, known, long);
    }

pub counted-requires : goal.counted-requires
counted-requires c =
    let P = c.args.project.now in
    All-same (IsWithin c.horizon.result) c.as_slice.result.now _ (c.as_slice.ensures.value ∙ c.in_ok-references.ensures)
    (subst (λ (n : ℕ). All (IsWithin n) (references P (state_in (run P)))) (sym c.horizon.ensures.horizon) (within_horizon P (state_in (run P))))
