use Rattle.std.proofs.Common.{◌∙◌, ap, sym}
use Rattle.omega_net.specs.Numbers.{component_of}
use Rattle.machine_cells.proofs.Turning.{turn_ahead, turn_passed}
use Rattle.machine_cells.proofs.grid.Rp3Grid.turn.Goals as goal

pub returns-in-Proc-clause-ahead : goal.returns-in-Proc-clause-ahead
returns-in-Proc-clause-ahead c = λ e.
    turn_ahead c.args.s.now c.args.c c.in-Proc.proc (ap (λ k. component_of k c.args.c) (sym c.shape.ensures) ∙ c.in-Proc.ensures.is) c.args.words.now c.args.slot.now (c.entry_turn.ensures.ahead e)

pub returns-in-Proc-clause-passed : goal.returns-in-Proc-clause-passed
returns-in-Proc-clause-passed c = λ e.
    turn_passed c.args.s.now c.args.c c.in-Proc.proc (ap (λ k. component_of k c.args.c) (sym c.shape.ensures) ∙ c.in-Proc.ensures.is) c.args.words.now c.args.slot.now (c.entry_turn.ensures.passed e)
