use Rattle.std.proofs.Common.{ap, arith, length}
use Rattle.std.proofs.lemmas.Result.{err_from_is_err_and}
use Rattle.change_rows.specs.Rows.{Table}
use Rattle.change_rows.proofs.Tables.{length_table}
use Rattle.change_rows.proofs.Viewing.{cells, view_grow, view_same}
use Rattle.change_rows.proofs.Noting.{kept_anew}
use Rattle.change_rows.proofs.rows.Rows.grow.Goals as goal

pub grow-requires-clause-few : goal.grow-requires-clause-few
grow-requires-clause-few c =
    let i = c.self.inside.changes in
    omega (arith, c.requires, length_table (cells i.rows.items i.seam i.at) (length i.rows.items) i.width, ap (λ (v : Table). length v.rows) c.self.view_is)

pub returns-in_err-grow : goal.returns-in_err-grow
returns-in_err-grow c =
    let i = c.self.inside.changes in
    let s = c.grow.new.s in
    let p = err_from_is_err_and c.from_residual.result c.from_residual.ensures.1 in
    rw (p.1) (view_same i.rows.items s.rows.items i.seam s.seam i.at s.at i.width s.width c.args.self.now c.self.view_is c.in_err-grow.ensures.width c.in_err-grow.ensures.err_len c.in_err-grow.ensures.err)

pub returns : goal.returns
returns c =
    let i = c.self.inside.changes in
    let s = c.grow.new.s in
    view_grow i.rows.items s.rows.items i.seam s.seam i.at s.at i.width s.width c.args.m c.args.self.now c.self.view_is c.in_ok-grow.ensures.width c.in_ok-grow.ensures.grown.len c.in_ok-grow.ensures.grown.same c.in_ok-grow.ensures.grown.blank

pub invariant_of-self : goal.invariant_of-self
invariant_of-self c = kept_anew c.self.inside.changes.width c.grow.new.s.width c.grow.new.s.rows.items c.grow.new.s.marks.items c.grow.new.s.seam c.grow.new.s.at c.self.inside.kinds c.self.inside.notes c.forget.new.n c.grow.ensures.changes c.grow.ensures.width (c.self.invariant.room) c.self.invariant.notes c.forget.ensures.room c.forget.ensures.apart c.forget.ensures.known

pub invariant_of-self-2 : goal.invariant_of-self-2
invariant_of-self-2 c = kept_anew c.self.inside.changes.width c.grow.new.s.width c.grow.new.s.rows.items c.grow.new.s.marks.items c.grow.new.s.seam c.grow.new.s.at c.self.inside.kinds c.self.inside.notes c.forget.new.n c.grow.ensures.changes c.grow.ensures.width (c.self.invariant.room) c.self.invariant.notes c.forget.ensures.room c.forget.ensures.apart c.forget.ensures.known
