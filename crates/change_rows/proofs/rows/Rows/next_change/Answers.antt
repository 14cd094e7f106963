use Rattle.std.proofs.Common.{◌<◌, ap, arith, length}
use Rattle.change_rows.specs.Rows.{Table}
use Rattle.change_rows.proofs.Viewing.{view_steady, steady_row}
use Rattle.change_rows.proofs.rows.Rows.next_change.Goals as goal

pub returns-clause-steady : goal.returns-clause-steady
returns-clause-steady c = λ u k low high small among.
    let i = c.self.inside.changes in
    let e = c.next_begin.ensures in
    let some : 0 < u = omega (arith, low, c.if-t-eq0.false) in
    let here : u < length i.rows.items = steady_row c.args.t c.min-end.result c.next_begin.result u (length i.rows.items) low high e.to e.past (omega (arith, c.min-end.ensures, c.len.ensures, i.rows.ok.0)) in
    let small1 : k < i.width = omega (arith, small, ap (λ (v : Table). v.width) c.self.view_is) in
    (some, view_steady i.rows.items i.seam i.at i.width u k c.args.self.now c.self.view_is some here small1 (e.steady u k low high small1 among))
