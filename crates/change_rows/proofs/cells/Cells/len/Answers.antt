use Rattle.std.proofs.Common.{ap, arith, length}
use Rattle.change_rows.proofs.Packing.{length_cells}
use Rattle.change_rows.proofs.cells.Cells.len.Goals as goal

pub returns-clause-count : goal.returns-clause-count
returns-clause-count c =
    let i = c.self.inside in
    omega (arith, c.len.ensures, i.heads.ok.0, length_cells i.heads.items i.words.items, ap length c.self.view_is)
