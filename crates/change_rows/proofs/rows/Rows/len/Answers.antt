use Rattle.std.proofs.Common.{ap, subst, arith, length}
use Rattle.change_rows.specs.Rows.{Table, IsWhole}
use Rattle.change_rows.proofs.Tables.{length_table, length_row}
use Rattle.change_rows.proofs.Viewing.{cells}
use Rattle.change_rows.proofs.rows.Rows.len.Goals as goal

pub returns-clause-count : goal.returns-clause-count
returns-clause-count c =
    let i = c.self.inside.changes in
    omega (arith, c.len.ensures, i.rows.ok.0, length_table (cells i.rows.items i.seam i.at) (length i.rows.items) i.width, ap (λ (v : Table). length v.rows) c.self.view_is)

pub returns-clause-whole : goal.returns-clause-whole
returns-clause-whole c =
    let i = c.self.inside.changes in
    subst IsWhole c.self.view_is
    (λ t h. length_row (cells i.rows.items i.seam i.at) (length i.rows.items) i.width t (omega (arith, h, length_table (cells i.rows.items i.seam i.at) (length i.rows.items) i.width)))
