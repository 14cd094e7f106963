use Rattle.std.proofs.Common.{◌∙◌, sym}
use Rattle.cell_table.proofs.Counted.{due_counted, count_to_stands, runs_up_to}
use Rattle.cell_table.proofs.table.Table.due_to.Goals as goal

pub returns-clause-count : goal.returns-clause-count
returns-clause-count g c =
    let i = c.self.inside in
    rw (← c.self.view_is) (c.due_to.ensures ∙ due_counted g.G.Grid.rules i.slots i.horizon i.cells c.self.invariant.table.whole c.args.t)

pub returns-clause-headline_due : goal.returns-clause-headline_due
returns-clause-headline_due g c = λ o h stands. returns-clause-count g c ∙ count_to_stands g.G.Grid.rules c.args.self.now o h stands c.args.t

pub returns-clause-run : goal.returns-clause-run
returns-clause-run g c = λ none. runs_up_to g.G.Grid.rules g.G.Grid.laws c.args.self.now (rw (← c.self.view_is) c.self.invariant.table) c.args.t (sym (returns-clause-count g c) ∙ none)
