use Rattle.std.proofs.Common.{ℕ, ◌+◌, ap, arith}
use Rattle.machine_cells.specs.Run.{run}
use Rattle.machine_cells.specs.Runs.{state_in}
use Rattle.machine_page.specs.Pages.{cycle_line}
use Rattle.machine_page.proofs.Lines.{text_more}
use Rattle.machine_page.proofs.cycles.add_cycles.Goals as goal

pub loop-passed-preserved : goal.loop-passed-preserved
loop-passed-preserved c =
    let P = c.args.project.now in
    let at = state_in (run P) in
    record {
      at = c.in_ok-advance.ensures.at;
      behind = omega (arith, c.in_ok-advance.ensures.there);
      text = text_more (λ j. cycle_line P at (c.args.from + j)) c.loop-passed.passed _ _ _ _ c.loop-passed.invariant.text c.in_ok-add_cycle.ensures
          (ap (λ (t : ℕ). cycle_line P at t) c.in_ok-advance.ensures.there);
    }
