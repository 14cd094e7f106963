use Rattle.std.proofs.Common.{◌<◌, arith, length}
use Rattle.change_rows.proofs.Viewing.{view_steady, steady_row}
use Rattle.change_rows.proofs.rows.Rows.next_of.Goals as goal

pub returns-clause-steady : goal.returns-clause-steady
returns-clause-steady c = λ u low high.
    let i = c.self.inside.changes in
    let e = c.next_of.ensures in
    let some : 0 < u = omega (arith, low, c.if-t-eq0.false) in
    let here : u < length i.rows.items = steady_row c.args.t c.min-end.result c.next_of.result u (length i.rows.items) low high e.to e.past (omega (arith, c.min-end.ensures, c.len.ensures, i.rows.ok.0)) in
    let small : c.args.c < i.width = omega (arith, c.if-c-self.false) in
    (some, view_steady i.rows.items i.seam i.at i.width u c.args.c c.args.self.now c.self.view_is some here small (e.steady u low high))
