use Rattle.std.proofs.Common.{◌∙◌, arith}
use Rattle.machine_cells.specs.Run.{run}
use Rattle.machine_cells.specs.Runs.{state_in}
use Rattle.run_reports.proofs.Gauging.{nothing_summed, cycle_summed}
use Rattle.run_reports.proofs.series.bin_sums.Goals as goal

pub loop-passed-init : goal.loop-passed-init
loop-passed-init c =
    let P = c.args.project.now in
    record {
      at = c.requires.at;
      behind = omega (arith, c.requires.behind);
      sums = c.in_ok-sums.ensures ∙ nothing_summed P.k (state_in (run P)) c.args.first c.args.gauges.now;
    }

pub loop-passed-preserved : goal.loop-passed-preserved
loop-passed-preserved c =
    let P = c.args.project.now in
    let r = c.advance.new.runner in
    record {
      at = c.in_ok-advance.ensures.at;
      behind = omega (arith, c.in_ok-advance.ensures.there);
      sums = cycle_summed P c.shape-shape.result r c.args.first c.loop-passed.passed c.args.gauges.now c.as_slice.result.now c.in_ok-sums-2.sums.items
          c.in_ok-advance.ensures.at c.in_ok-advance.ensures.there c.shape-shape.ensures c.in_ok-sums-2.ensures (c.as_slice.ensures.value ∙ c.loop-passed.invariant.sums);
    }
