use Rattle.std.proofs.Common.{◌∙◌, ◌-◌, ap, sym}
use Rattle.low_switch.specs.LowSwitch.{low_after}
use Rattle.machine_cells.specs.declared.state.MachineState.TheVariants.{Low}
use Rattle.machine_cells.proofs.step.low_step.Goals as goal

pub returns-then-low_rests : goal.returns-then-low_rests
returns-then-low_rests g c =
    let bit = c.args.project.now.k - 1 - c.args.stage in
    ap Low (sym (c.low_rests.ensures c.if-low_rests.true bit) ∙ ap (λ t. low_after bit t c.args.own.now) c.switch_pulls-pulls.ensures)

pub returns : goal.returns
returns g c =
    let own = c.args.own.now in
    let bit = c.deciding_bit.ensures ∙ ap (λ k. k - 1 - c.args.stage) c.requires.shape in
    let moved = ap (λ b. low_after b c.traffic.result own) bit ∙ ap (λ t. low_after (c.args.project.now.k - 1 - c.args.stage) t own) (c.traffic.ensures ∙ c.switch_pulls-pulls.ensures) in
    c.in_ok-new.ensures.ok ∙ ap Low (c.in_ok-next.ensures ∙ moved)
