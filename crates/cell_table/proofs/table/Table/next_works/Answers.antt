use Rattle.std.proofs.Common.{sym, subst}
use Rattle.cell_table.specs.Waves.{IsNextWave}
use Rattle.cell_table.proofs.Passes.{none_till}
use Rattle.cell_table.proofs.Settling.{is_settled}
use Rattle.cell_table.proofs.Shortcut.{ok_along}
use Rattle.cell_table.proofs.Waves.{next_wave}
use Rattle.cell_table.proofs.table.Table.next_works.Goals as goal

pub returns-in-Some-clause-all : goal.returns-in-Some-clause-all
returns-in-Some-clause-all g c =
    let cell = c.in-Some.cell in
    let next = c.in-Some.ensures in
    let none = none_till g.G.Grid.rules c.args.self.now c.args.from.cycle c.args.from.component cell c.requires next in
    ok_along (λ works is. next_wave g.G.Grid.rules c.args.self.now cell.cycle cell.component none next.there.component next.due works.items is) c.due_works.result c.due_works.ensures.all

pub returns-in-None-clause-all : goal.returns-in-None-clause-all
returns-in-None-clause-all g c =
    subst (λ works. IsNextWave g.G.Grid.rules c.args.self.now works) (sym c.new.ensures.items)
    (is_settled g.G.Grid.rules g.G.Grid.laws c.args.self.now (rw (← c.self.view_is) c.self.invariant.table) c.args.from.cycle c.args.from.component c.requires c.in-None.ensures).none_due
