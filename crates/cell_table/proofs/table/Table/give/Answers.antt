use Rattle.cell_table.proofs.Answering.{stands_given, answers_made}
use Rattle.cell_table.proofs.table.Table.give.Goals as goal

pub returns-clause-headline_stands : goal.returns-clause-headline_stands
returns-clause-headline_stands g c =
    λ o h stands. stands_given g.G.Grid.rules g.G.Grid.laws o c.args.self.now c.give_plain.new.self c.args.done h stands c.give_plain.result c.give_plain.ensures

pub returns-clause-headline_gives : goal.returns-clause-headline_gives
returns-clause-headline_gives g c =
    λ o h n stands made. answers_made g.G.Grid.rules g.G.Grid.laws o c.args.self.now c.give_plain.new.self c.args.done h n stands made c.give_plain.result c.give_plain.ensures
