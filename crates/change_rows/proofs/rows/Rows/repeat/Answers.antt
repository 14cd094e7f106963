use Rattle.std.proofs.Common.{◌≤◌, ap, arith, length}
use Rattle.std.proofs.lemmas.Result.{err_from_is_err_and}
use Rattle.change_rows.specs.Rows.{Table}
use Rattle.change_rows.proofs.Tables.{length_table}
use Rattle.change_rows.proofs.Viewing.{cells, view_repeat, view_same}
use Rattle.change_rows.proofs.Noting.{kept_anew}
use Rattle.change_rows.proofs.rows.Rows.repeat.Goals as goal

pub repeat-requires-clause-row : goal.repeat-requires-clause-row
repeat-requires-clause-row c =
    let i = c.self.inside.changes in
    omega (arith, c.requires.before, c.requires.some, c.requires.rows, length_table (cells i.rows.items i.seam i.at) (length i.rows.items) i.width, ap (λ (v : Table). length v.rows) c.self.view_is)

pub returns-in_err-repeat : goal.returns-in_err-repeat
returns-in_err-repeat c =
    let i = c.self.inside.changes in
    let s = c.repeat.new.s in
    let p = err_from_is_err_and c.from_residual.result c.from_residual.ensures.1 in
    rw (p.1) (view_same i.rows.items s.rows.items i.seam s.seam i.at s.at i.width s.width c.args.self.now c.self.view_is c.in_err-repeat.ensures.edited.width c.in_err-repeat.ensures.edited.len c.in_err-repeat.ensures.err)

pub returns : goal.returns
returns c =
    let i = c.self.inside.changes in
    let s = c.repeat.new.s in
    let few : c.args.to ≤ length i.rows.items = omega (arith, c.requires.rows, length_table (cells i.rows.items i.seam i.at) (length i.rows.items) i.width, ap (λ (v : Table). length v.rows) c.self.view_is) in
    view_repeat i.rows.items s.rows.items i.seam s.seam i.at s.at i.width s.width c.args.from c.args.to c.args.set.now c.args.self.now c.self.view_is c.in_ok-repeat.ensures.edited.width c.in_ok-repeat.ensures.edited.len c.requires.before c.requires.some few c.in_ok-repeat.ensures.run

pub invariant_of-self : goal.invariant_of-self
invariant_of-self c = kept_anew c.self.inside.changes.width c.repeat.new.s.width c.repeat.new.s.rows.items c.repeat.new.s.marks.items c.repeat.new.s.seam c.repeat.new.s.at c.self.inside.kinds c.self.inside.notes c.forget.new.n c.repeat.ensures.edited.changes c.repeat.ensures.edited.width (c.self.invariant.room) c.self.invariant.notes c.forget.ensures.room c.forget.ensures.apart c.forget.ensures.known

pub invariant_of-self-2 : goal.invariant_of-self-2
invariant_of-self-2 c = kept_anew c.self.inside.changes.width c.repeat.new.s.width c.repeat.new.s.rows.items c.repeat.new.s.marks.items c.repeat.new.s.seam c.repeat.new.s.at c.self.inside.kinds c.self.inside.notes c.forget.new.n c.repeat.ensures.edited.changes c.repeat.ensures.edited.width (c.self.invariant.room) c.self.invariant.notes c.forget.ensures.room c.forget.ensures.apart c.forget.ensures.known
