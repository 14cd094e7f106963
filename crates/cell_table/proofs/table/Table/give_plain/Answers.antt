use Rattle.std.proofs.Common.{rules}
use Rattle.cell_table.proofs.Stores.{current_from_present}
use Rattle.cell_table.proofs.table.Table.give_plain.Goals as goal

pub store-requires-clause-computed : goal.store-requires-clause-computed
store-requires-clause-computed g c =
    let laws = g.G.Grid.laws in
    let p = c.if-not-is_present in
    search (rules, current_from_present g.G.Grid.rules laws)
