use Rattle.cell_table.proofs.table.Table.tell.Goals as goal

pub kept-requires : goal.kept-requires
kept-requires g c = (c.requires.0, c.requires.1, c.requires.3 c.if-settled.false)
