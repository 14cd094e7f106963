use Rattle.cell_table.proofs.Cuts.{answers_all, answers_settled, answers_first, answers_spent, keeps, err_along}
use Rattle.cell_table.proofs.table.Table.settle_rows_to.Goals as goal

pub returns-clause-headline_settles : goal.returns-clause-headline_settles
returns-clause-headline_settles g c = answers_all g.G.Grid.rules g.G.Grid.laws c.args.self.now c.settle_before.new.self c.args.last c.end_of-end.result c.end_of-end.ensures.up_to c.end_of-end.ensures.covers c.settle_before.result c.settle_before.ensures.all

pub returns-clause-after_fault : goal.returns-clause-after_fault
returns-clause-after_fault g c = answers_first g.G.Grid.rules g.G.Grid.laws c.args.self.now c.settle_before.new.self c.args.last c.end_of-end.result c.end_of-end.ensures.up_to c.settle_before.result c.settle_before.ensures.stops

pub returns-clause-settled : goal.returns-clause-settled
returns-clause-settled g c = answers_settled g.G.Grid.rules g.G.Grid.laws c.args.self.now c.settle_before.new.self c.args.last c.end_of-end.result c.end_of-end.ensures.up_to c.end_of-end.ensures.covers c.settle_before.result c.settle_before.ensures.all

pub returns-clause-later : goal.returns-clause-later
returns-clause-later g c = keeps g.G.Grid.rules g.G.Grid.laws c.args.self.now c.settle_before.new.self c.args.last c.end_of-end.result c.end_of-end.ensures.up_to c.settle_before.result c.settle_before.ensures.all c.settle_before.ensures.stops

pub returns-clause-differs : goal.returns-clause-differs
returns-clause-differs g c = answers_spent g.G.Grid.rules g.G.Grid.laws c.args.self.now c.settle_before.new.self c.args.last c.end_of-end.result c.end_of-end.ensures.up_to c.settle_before.result c.settle_before.ensures.spent

pub returns-clause-spent : goal.returns-clause-spent
returns-clause-spent g c = err_along (λ f k s. (k s).0.clock) c.settle_before.result c.settle_before.ensures.spent
