use Rattle.std.proofs.Common.{◌≡◌, ◌<◌, ◌∙◌, sym, ap, arith, length}
use Rattle.std.proofs.lemmas.Result.{err_from_is_err_and}
use Rattle.change_rows.specs.Rows.{Table}
use Rattle.change_rows.proofs.Tables.{length_table}
use Rattle.change_rows.proofs.Viewing.{cells, view_filled, view_same, view_words, view_before}
use Rattle.change_rows.proofs.Noting.{kept_anew}
use Rattle.change_rows.proofs.rows.Rows.fill.Goals as goal

pub fill-requires-clause-blank : goal.fill-requires-clause-blank
fill-requires-clause-blank g c =
    let i = c.self.inside.changes in
    let width : i.width ≡ c.args.self.now.width = ap (λ (v : Table). v.width) c.self.view_is in
    let here : c.args.t < length i.rows.items = omega (arith, c.requires.row, length_table (cells i.rows.items i.seam i.at) (length i.rows.items) i.width, ap (λ (v : Table). length v.rows) c.self.view_is) in
    record {
      changes = c.self.invariant.changes;
      row = here;
      none = λ d small. sym (view_words i.rows.items i.seam i.at i.width c.args.t d c.args.self.now c.self.view_is here small) ∙ c.requires.none d (omega (arith, small, width));
    }

pub fill-requires-clause-still : goal.fill-requires-clause-still
fill-requires-clause-still g c = λ d small still.
    let i = c.self.inside.changes in
    let width : i.width ≡ c.args.self.now.width = ap (λ (v : Table). v.width) c.self.view_is in
    let here : c.args.t < length i.rows.items = omega (arith, c.requires.row, length_table (cells i.rows.items i.seam i.at) (length i.rows.items) i.width, ap (λ (v : Table). length v.rows) c.self.view_is) in
    let p = c.requires.still d (omega (arith, small, width)) still in
    p.1 ∙ view_before i.rows.items i.seam i.at i.width c.args.t d c.args.self.now c.self.view_is here small p.0

pub returns-in_err-fill : goal.returns-in_err-fill
returns-in_err-fill g c =
    let i = c.self.inside.changes in
    let s = c.fill.new.s in
    let p = err_from_is_err_and c.from_residual.result c.from_residual.ensures.1 in
    rw (p.1) (view_same i.rows.items s.rows.items i.seam s.seam i.at s.at i.width s.width c.args.self.now c.self.view_is c.in_err-fill.ensures.edited.width c.in_err-fill.ensures.edited.len c.in_err-fill.ensures.err)

pub returns : goal.returns
returns g c =
    let i = c.self.inside.changes in
    let s = c.fill.new.s in
    let here : c.args.t < length i.rows.items = omega (arith, c.requires.row, length_table (cells i.rows.items i.seam i.at) (length i.rows.items) i.width, ap (λ (v : Table). length v.rows) c.self.view_is) in
    view_filled i.rows.items s.rows.items i.seam s.seam i.at s.at i.width s.width c.args.t (g.S.Source.words c.args.source.now) c.args.self.now c.self.view_is c.in_ok-fill.ensures.edited.width c.in_ok-fill.ensures.edited.len here c.in_ok-fill.ensures.filled

pub invariant_of-self : goal.invariant_of-self
invariant_of-self g c = kept_anew c.self.inside.changes.width c.fill.new.s.width c.fill.new.s.rows.items c.fill.new.s.marks.items c.fill.new.s.seam c.fill.new.s.at c.fill.new.k c.self.inside.notes c.forget.new.n c.fill.ensures.edited.changes c.fill.ensures.edited.width (c.fill.ensures.room) c.self.invariant.notes c.forget.ensures.room c.forget.ensures.apart c.forget.ensures.known

pub invariant_of-self-2 : goal.invariant_of-self-2
invariant_of-self-2 g c = kept_anew c.self.inside.changes.width c.fill.new.s.width c.fill.new.s.rows.items c.fill.new.s.marks.items c.fill.new.s.seam c.fill.new.s.at c.fill.new.k c.self.inside.notes c.forget.new.n c.fill.ensures.edited.changes c.fill.ensures.edited.width (c.fill.ensures.room) c.self.invariant.notes c.forget.ensures.room c.forget.ensures.apart c.forget.ensures.known
