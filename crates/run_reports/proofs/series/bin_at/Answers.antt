use Rattle.std.proofs.Common.{◌∙◌, ℕ, List, ap}
use Rattle.machine_cells.specs.Run.{run}
use Rattle.machine_cells.specs.Runs.{state_in}
use Rattle.run_reports.proofs.Gauging.{bin_is, still_behind}
use Rattle.run_reports.proofs.series.bin_at.Goals as goal

pub returns-clause-behind : goal.returns-clause-behind
returns-clause-behind c =
    still_behind c.args.bins.window.from c.args.bins.size c.args.number c.start_of-first.result c.cycles_from-cycles.result _ _ c.in_ok-sums.ensures.passed c.start_of-first.ensures.value c.cycles_from-cycles.ensures

pub returns-clause-bin : goal.returns-clause-bin
returns-clause-bin c =
    let P = c.args.project.now in
    let first = c.start_of-first.result in
    ap (λ (ns : List ℕ). (first, ns)) c.in_ok-alone.ensures
    ∙ bin_is P.k (state_in (run P)) c.args.gauges.now c.args.bins c.args.number first c.cycles_from-cycles.result c.as_slice.result.now
    c.start_of-first.ensures.value c.cycles_from-cycles.ensures (c.as_slice.ensures.value ∙ c.in_ok-sums.ensures.sums)
