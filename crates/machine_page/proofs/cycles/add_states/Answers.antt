use Rattle.std.proofs.Common.{◌++◌, ap, codes, sym}
use Rattle.machine_cells.specs.Run.{run}
use Rattle.machine_cells.specs.Runs.{state_in}
use Rattle.machine_page.specs.States.{state_text}
use Rattle.machine_page.proofs.Lines.{text_more}
use Rattle.machine_page.proofs.cycles.add_states.Goals as goal

pub loop-number-preserved : goal.loop-number-preserved
loop-number-preserved c =
    let P = c.args.project.now in
    let at = state_in (run P) c.args.runner.now.cycle in
    text_more (λ n. codes ";" ++ state_text P (at n)) c.loop-number.number _ _ _ _ c.loop-number.invariant c.in_ok-add_next.ensures
    (ap (λ s. codes ";" ++ state_text P s) (sym c.in_ok-state.ensures))
