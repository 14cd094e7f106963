use Rattle.std.proofs.Common.{◌∙◌, ap, sym, subst}
use Rattle.flat_row.specs.Row.{Arrays, IsRowOf, states_of}
use Rattle.flat_row.proofs.Starting.{first_states_are, first_is_of}
use Rattle.flat_row.proofs.row.Row.start.Goals as goal

pub returns-clause-states : goal.returns-clause-states
returns-clause-states c = ap states_of c.in_ok-row.ensures ∙ first_states_are c.args.project.now

pub returns-clause-of : goal.returns-clause-of
returns-clause-of c = subst (λ (row : Arrays). IsRowOf c.args.project.now row) (sym c.in_ok-row.ensures) (first_is_of c.args.project.now)
