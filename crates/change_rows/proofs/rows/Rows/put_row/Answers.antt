use Rattle.std.proofs.Common.{◌<◌, ap, arith, length}
use Rattle.std.proofs.lemmas.Result.{err_from_is_err_and}
use Rattle.change_rows.specs.Rows.{Table}
use Rattle.change_rows.proofs.Tables.{length_table}
use Rattle.change_rows.proofs.Viewing.{cells, view_put, view_same}
use Rattle.change_rows.proofs.Noting.{kept_anew}
use Rattle.change_rows.proofs.rows.Rows.put_row.Goals as goal

pub put-requires-clause-row : goal.put-requires-clause-row
put-requires-clause-row c =
    let i = c.self.inside.changes in
    omega (arith, c.requires.row, length_table (cells i.rows.items i.seam i.at) (length i.rows.items) i.width, ap (λ (v : Table). length v.rows) c.self.view_is)

pub returns-in_err-put : goal.returns-in_err-put
returns-in_err-put c =
    let i = c.self.inside.changes in
    let s = c.put.new.s in
    let p = err_from_is_err_and c.from_residual.result c.from_residual.ensures.1 in
    rw (p.1) (view_same i.rows.items s.rows.items i.seam s.seam i.at s.at i.width s.width c.args.self.now c.self.view_is c.in_err-put.ensures.edited.width c.in_err-put.ensures.edited.len c.in_err-put.ensures.err)

pub returns : goal.returns
returns c =
    let i = c.self.inside.changes in
    let s = c.put.new.s in
    let here : c.args.t < length i.rows.items = omega (arith, c.requires.row, length_table (cells i.rows.items i.seam i.at) (length i.rows.items) i.width, ap (λ (v : Table). length v.rows) c.self.view_is) in
    view_put i.rows.items s.rows.items i.seam s.seam c.args.draft.now i.at s.at i.width s.width c.args.t c.args.self.now c.self.view_is c.in_ok-put.ensures.edited.width c.in_ok-put.ensures.edited.len here c.in_ok-put.ensures.put

pub invariant_of-self : goal.invariant_of-self
invariant_of-self c = kept_anew c.self.inside.changes.width c.put.new.s.width c.put.new.s.rows.items c.put.new.s.marks.items c.put.new.s.seam c.put.new.s.at c.self.inside.kinds c.self.inside.notes c.forget.new.n c.put.ensures.edited.changes c.put.ensures.edited.width (c.self.invariant.room) c.self.invariant.notes c.forget.ensures.room c.forget.ensures.apart c.forget.ensures.known

pub invariant_of-self-2 : goal.invariant_of-self-2
invariant_of-self-2 c = kept_anew c.self.inside.changes.width c.put.new.s.width c.put.new.s.rows.items c.put.new.s.marks.items c.put.new.s.seam c.put.new.s.at c.self.inside.kinds c.self.inside.notes c.forget.new.n c.put.ensures.edited.changes c.put.ensures.edited.width (c.self.invariant.room) c.self.invariant.notes c.forget.ensures.room c.forget.ensures.apart c.forget.ensures.known
