use Rattle.std.proofs.Common.{◌≡◌, ◌<◌, ◌∙◌, sym, ap, arith, length, []}
use Rattle.std.proofs.lemmas.List.{get_or_default}
use Rattle.change_rows.specs.Rows.{Table}
use Rattle.change_rows.specs.Changes.{row_at}
use Rattle.change_rows.proofs.Tables.{length_table}
use Rattle.change_rows.proofs.Viewing.{cells, view_words}
use Rattle.change_rows.proofs.Filling.{blank_stands}
use Rattle.change_rows.proofs.rows.Rows.is_blank.Goals as goal

pub index-requires : goal.index-requires
index-requires c =
    let i = c.self.inside.changes in
    omega (arith, c.requires, length_table (cells i.rows.items i.seam i.at) (length i.rows.items) i.width, ap (λ (v : Table). length v.rows) c.self.view_is)

pub returns-then-len-s : goal.returns-then-len-s
returns-then-len-s c = λ none d small.
    let i = c.self.inside.changes in
    let width : i.width ≡ c.args.self.now.width = ap (λ (v : Table). v.width) c.self.view_is in
    let there : c.args.t < length i.rows.items = omega (arith, c.requires, length_table (cells i.rows.items i.seam i.at) (length i.rows.items) i.width, ap (λ (v : Table). length v.rows) c.self.view_is) in
    let low : d < i.width = omega (arith, small, width) in
    let row : row_at i.rows.items c.args.t ≡ [] = sym (get_or_default i.rows.items c.args.t c.index.result.now [] there) ∙ sym c.index.ensures ∙ c.is_empty.ensures c.if-is_empty.true in
    view_words i.rows.items i.seam i.at i.width c.args.t d c.args.self.now c.self.view_is there low
    ∙ blank_stands i.rows.items i.seam i.at c.args.t i.width d c.len.ensures.ascending (omega (arith, c.len.ensures.count, c.if-len-s.true)) c.self.invariant.changes.seam_wide (omega (arith, c.if-s-t.true)) row (c.has_no_words.ensures none d) low
