use Rattle.std.proofs.Common.{rules, ◌≤◌, All, sym, subst}
use Rattle.cell_table.specs.Waves.{IsReady}
use Rattle.cell_table.proofs.Waves.{ready_below}
use Rattle.cell_table.proofs.table.Table.due_works.Goals as goal

pub returns-clause-ready : goal.returns-clause-ready
returns-clause-ready g c =
    let few : c.loop-component.component ≤ g.G.Grid.rules.components c.args.self.now.slots = search rules in
    subst (All (λ w. IsReady g.G.Grid.rules c.args.self.now w.cell.cycle w.cell.component)) (sym c.loop-component.invariant) (ready_below g.G.Grid.rules c.args.self.now c.args.cycle c.requires.cycle c.requires.earlier c.loop-component.component few)
