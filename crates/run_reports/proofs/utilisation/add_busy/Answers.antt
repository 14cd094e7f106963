use Rattle.std.proofs.Common.{◌+◌, ◌-◌, ◌∙◌}
use Rattle.std.specs.Prelude.{string_bytes}
use Rattle.machine_cells.specs.Run.{run}
use Rattle.machine_cells.specs.Runs.{state_in}
use Rattle.run_reports.proofs.Utilising.{rows_told}
use Rattle.run_reports.proofs.utilisation.add_busy.Goals as goal

pub returns : goal.returns
returns c =
    let P = c.args.project.now in
    let w = c.args.window in
    rows_told P.k (state_in (run P)) w.from (w.to + 1 - w.from) c.shape-shape.result c.as_slice.result.now c.in_ok-sums.sums.items c.as_slice-2.result.now _ _
    c.in_ok-add_rows.ensures c.as_slice-2.ensures.value c.in_ok-sums.ensures.sums (c.as_slice.ensures.value ∙ c.in_ok-gauges.ensures) c.shape-shape.ensures
