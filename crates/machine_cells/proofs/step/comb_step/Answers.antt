use Rattle.std.proofs.Common.{◌∙◌, ap, sym}
use Rattle.comb_switch.specs.CombSwitch.{comb_after}
use Rattle.machine_cells.specs.declared.state.MachineState.TheVariants.{Comb}
use Rattle.machine_cells.specs.Cycle.{comb_settings}
use Rattle.machine_cells.proofs.step.comb_step.Goals as goal

pub returns-then-comb_rests : goal.returns-then-comb_rests
returns-then-comb_rests g c =
    let settings = comb_settings c.args.project.now c.args.stage in
    ap Comb (sym (c.comb_rests.ensures c.if-comb_rests.true settings) ∙ ap (λ t. comb_after settings t c.args.own.now) c.switch_pulls-pulls.ensures)
