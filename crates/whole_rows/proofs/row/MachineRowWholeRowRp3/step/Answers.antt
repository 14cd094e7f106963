use Rattle.std.proofs.Common.{◌∙◌, ap, subst}
use Rattle.machine_cells.specs.Cycle.{cycle}
use Rattle.flat_row.specs.Row.{Arrays, states_of}
use Rattle.flat_row.specs.Changed.{SameOutside, TellsMemory}
use Rattle.whole_rows.proofs.Stepping.{steps, stays, keeps}
use Rattle.whole_rows.proofs.row.MachineRowWholeRowRp3.step.Goals as goal

pub returns-clause-states : goal.returns-clause-states
returns-clause-states c =
    steps c.args.s.now c.args.self.now c.step.new.self c.requires c.step.ensures.of (c.in-Ok.ensures.states ∙ ap (λ (r : Arrays). cycle c.args.s.now (states_of r)) c.self.view_is)

pub returns-clause-still : goal.returns-clause-still
returns-clause-still c = λ d h still.
    stays c.args.s.now c.args.self.now c.step.new.self c.requires c.step.ensures.of c.in-Ok.changed d h
    (subst (λ (r : Arrays). SameOutside c.args.s.now.k c.in-Ok.changed r c.step.new.self) c.self.view_is c.in-Ok.ensures.outside) still

pub returns-clause-kept : goal.returns-clause-kept
returns-clause-kept c = λ d h same.
    keeps c.args.s.now c.args.self.now c.step.new.self c.requires c.step.ensures.of c.in-Ok.changed d h
    (subst (λ (r : Arrays). TellsMemory c.args.s.now.k c.in-Ok.changed r c.step.new.self) c.self.view_is c.in-Ok.ensures.wrote) same
