use Rattle.std.proofs.Common.{◌∙◌, ◌++◌, ◌∷◌, [], ℕ, List, ap, map, sym}
use Rattle.omega_net.specs.Wires.{below}
use Rattle.machine_cells.specs.Run.{run}
use Rattle.machine_cells.specs.Runs.{state_in}
use Rattle.run_reports.specs.Series.{bin_of}
use Rattle.run_reports.proofs.Marking.{one_more_value}
use Rattle.run_reports.proofs.series.series_sums.Goals as goal

pub loop-number-preserved : goal.loop-number-preserved
loop-number-preserved c =
    let P = c.args.project.now in
    let n = c.loop-number.number in
    let bin : ℕ → ℕ × List ℕ = bin_of P.k (state_in (run P)) c.args.gauges.now c.args.bins in
    record {
      at = c.in_ok-bin_at.ensures.at;
      behind = c.in_ok-bin_at.ensures.behind;
      all = c.in_ok-push.ensures.items ∙ (ap (λ (xs : List (ℕ × List ℕ)). xs ++ c.in_ok-bin_at.field-0 ∷ []) c.loop-number.invariant.all
          ∙ (ap (λ (x : ℕ × List ℕ). map bin (below n) ++ x ∷ []) c.in_ok-bin_at.ensures.bin ∙ sym (one_more_value bin n)));
    }
