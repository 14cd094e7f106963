use Rattle.std.proofs.Common.{◌≡◌, ap, refl, Err}
use Rattle.cell_table.specs.declared.given.StoreFault.TheVariants.{ClockSpent}
use Rattle.cell_table.proofs.Settling.{ready, settles_next, is_spent_before}
use Rattle.cell_table.proofs.Passes.{runs_here}
use Rattle.cell_table.proofs.Cuts.{none_to}
use Rattle.cell_table.proofs.table.Table.settle_next.Goals as goal

pub settle_cell-requires-clause-ready : goal.settle_cell-requires-clause-ready
settle_cell-requires-clause-ready g c =
    ready g.G.Grid.rules g.G.Grid.laws c.args.self.now (rw (← c.self.view_is) c.self.invariant.table) c.args.from.cycle c.args.from.component c.requires.before c.in-Some.cell c.in-Some.ensures.0

pub returns-in-Ok-clause-some : goal.returns-in-Ok-clause-some
returns-in-Ok-clause-some g c =
    settles_next g.G.Grid.rules g.G.Grid.laws c.args.self.now (rw (← c.self.view_is) c.self.invariant.table) c.args.from.cycle c.args.from.component c.requires.before c.in-Some.cell c.in-Some.ensures.0 c.settle_cell.new.self c.in-Ok.changed c.in-Ok.ensures.ok c.in-Ok.ensures.room

pub returns-in-Err-clause-spent : goal.returns-in-Err-clause-spent
returns-in-Err-clause-spent g c =
    λ e. let same : c.in-Err.fault ≡ ClockSpent = cc in
    let spent = c.in-Err.ensures.spent (ap Err same) in
    is_spent_before g.G.Grid.rules g.G.Grid.laws c.args.self.now (rw (← c.self.view_is) c.self.invariant.table) c.args.from.cycle c.args.from.component c.requires.before c.in-Some.cell c.in-Some.ensures.0 c.args.end c.in-Some.ensures.1 spent.0 spent.1

pub returns-in-None-clause-none : goal.returns-in-None-clause-none
returns-in-None-clause-none g c =
    let R = g.G.Grid.rules in
    let none = none_to R c.args.self.now c.args.from.cycle c.args.from.component c.args.end c.requires.before c.in-None.ensures in
    (none, runs_here R g.G.Grid.laws c.args.self.now (rw (← c.self.view_is) c.self.invariant.table) c.args.end none, refl)
