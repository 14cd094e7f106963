use Rattle.std.proofs.Common.{◌≡◌, ℕ, ◌<◌, ap, sym, ◌∙◌, subst}
use Rattle.std.specs.Prelude.{slice_get}
use Rattle.omega_net.specs.Numbers.{components, component_of}
use Rattle.flat_row.specs.Row.{Arrays}
use Rattle.whole_rows.proofs.Stepping.{listed, component_there, component_number}
use Rattle.whole_rows.proofs.row.MachineRow.component.Goals as goal

pub returns-clause-is : goal.returns-clause-is
returns-clause-is c =
    let each : slice_get c.self.inside.by_number.items c.args.c ≡ component_of c.args.self.now.k c.args.c =
    subst (λ k. (d : ℕ) → d < components k → slice_get c.self.inside.by_number.items d ≡ component_of k d) (sym c.self.invariant.0 ∙ ap (λ (r : Arrays). r.k) c.self.view_is) c.self.invariant.1 c.args.c c.requires in
    listed c.args.self.now.k c.args.c c.self.inside.by_number.items c.index.result.now c.requires each c.index.ensures

pub returns-clause-there : goal.returns-clause-there
returns-clause-there c = component_there c.args.self.now.k c.args.c c.index.result.now c.requires (returns-clause-is c)

pub returns-clause-number : goal.returns-clause-number
returns-clause-number c = component_number c.args.self.now.k c.args.c c.index.result.now c.requires (returns-clause-is c)
