use Rattle.std.proofs.Common.{◌≡◌, ◌<◌, ◌∙◌, sym, ap, arith, length}
use Rattle.std.proofs.lemmas.Result.{err_from_is_err_and}
use Rattle.change_rows.specs.Rows.{Table}
use Rattle.change_rows.proofs.Tables.{length_table}
use Rattle.change_rows.proofs.Viewing.{cells, view_replaced, view_same, view_words, view_before}
use Rattle.change_rows.proofs.rows.Rows.put_from.Goals as goal

pub put_from-requires-clause-can : goal.put_from-requires-clause-can
put_from-requires-clause-can g c =
    let i = c.self.inside.changes in
    let width : i.width ≡ c.args.self.now.width = ap (λ (v : Table). v.width) c.self.view_is in
    let here : c.args.t < length i.rows.items = omega (arith, c.requires.row, length_table (cells i.rows.items i.seam i.at) (length i.rows.items) i.width, ap (λ (v : Table). length v.rows) c.self.view_is) in
    record {
      row = here;
      has = λ d small member. c.requires.has d (omega (arith, small, width)) member;
      still = λ d small member still.
          let p = c.requires.still d (omega (arith, small, width)) member still in
          p.1 ∙ view_before i.rows.items i.seam i.at i.width c.args.t d c.args.self.now c.self.view_is here small p.0;
    }

pub returns-in_err-put_from-clause-row : goal.returns-in_err-put_from-clause-row
returns-in_err-put_from-clause-row g c =
    let i = c.self.inside.changes in
    let s = c.put_from.new.s in
    let p = err_from_is_err_and c.from_residual.result c.from_residual.ensures.1 in
    rw (p.1) (view_same i.rows.items s.rows.items i.seam s.seam i.at s.at i.width s.width c.args.self.now c.self.view_is c.in_err-put_from.ensures.edited.width c.in_err-put_from.ensures.edited.len c.in_err-put_from.ensures.err)

pub returns-clause-row : goal.returns-clause-row
returns-clause-row g c =
    let i = c.self.inside.changes in
    let s = c.put_from.new.s in
    let here : c.args.t < length i.rows.items = omega (arith, c.requires.row, length_table (cells i.rows.items i.seam i.at) (length i.rows.items) i.width, ap (λ (v : Table). length v.rows) c.self.view_is) in
    view_replaced i.rows.items s.rows.items i.seam s.seam i.at s.at i.width s.width c.args.t c.args.set.now (g.S.Source.words c.args.source.now) c.args.self.now c.self.view_is c.in_ok-put_from.ensures.edited.width c.in_ok-put_from.ensures.edited.len here c.in_ok-put_from.ensures.put

pub returns-clause-changed : goal.returns-clause-changed
returns-clause-changed g c = λ d member.
    let i = c.self.inside.changes in
    let width : i.width ≡ c.args.self.now.width = ap (λ (v : Table). v.width) c.self.view_is in
    let here : c.args.t < length i.rows.items = omega (arith, c.requires.row, length_table (cells i.rows.items i.seam i.at) (length i.rows.items) i.width, ap (λ (v : Table). length v.rows) c.self.view_is) in
    let p = c.in_ok-put_from.ensures.told.others d member in
    (omega (arith, p.0, width), p.1, λ e. p.2 (sym (view_words i.rows.items i.seam i.at i.width c.args.t d c.args.self.now c.self.view_is here p.0) ∙ e))

pub returns-clause-same : goal.returns-clause-same
returns-clause-same g c = λ d small member none.
    let i = c.self.inside.changes in
    let width : i.width ≡ c.args.self.now.width = ap (λ (v : Table). v.width) c.self.view_is in
    let here : c.args.t < length i.rows.items = omega (arith, c.requires.row, length_table (cells i.rows.items i.seam i.at) (length i.rows.items) i.width, ap (λ (v : Table). length v.rows) c.self.view_is) in
    let low : d < i.width = omega (arith, small, width) in
    view_words i.rows.items i.seam i.at i.width c.args.t d c.args.self.now c.self.view_is here low ∙ c.in_ok-put_from.ensures.told.same d low member none
