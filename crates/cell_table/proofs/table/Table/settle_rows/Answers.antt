use Rattle.std.proofs.Common.{◌∙◌, sym}
use Rattle.cell_table.proofs.Shortcut.{ok_along}
use Rattle.cell_table.proofs.Cuts.{err_along, settles_whole, settled_wholly}
use Rattle.cell_table.proofs.table.Table.settle_rows.Goals as goal

pub returns-clause-headline_settles : goal.returns-clause-headline_settles
returns-clause-headline_settles g c = ok_along (λ s k. (k.0, λ o h stands. settles_whole g.G.Grid.rules c.settle_rows_to.new.self c.horizon-last.result (c.settle_rows_to.ensures.later.horizon ∙ sym c.horizon-last.ensures) o h k.0 s.computed (k.1 o h stands))) c.settle_rows_to.result c.settle_rows_to.ensures.headline_settles

pub returns-clause-after_fault : goal.returns-clause-after_fault
returns-clause-after_fault g c = err_along (λ f k. (k.0, λ o h stands. (k.1 o h stands).firsts)) c.settle_rows_to.result c.settle_rows_to.ensures.after_fault

pub returns-clause-settled : goal.returns-clause-settled
returns-clause-settled g c = settled_wholly g.G.Grid.rules c.settle_rows_to.new.self c.horizon-last.result (c.settle_rows_to.ensures.later.horizon ∙ sym c.horizon-last.ensures) c.settle_rows_to.result c.settle_rows_to.ensures.settled

pub returns-clause-differs : goal.returns-clause-differs
returns-clause-differs g c = err_along (λ f k s. (k s).0) c.settle_rows_to.result c.settle_rows_to.ensures.differs
