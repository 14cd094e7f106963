use Rattle.std.proofs.Common.{◌≡◌, ◌<◌, length, ap, ◌∙◌, arith, false, []}
use Rattle.std.proofs.lemmas.List.{get_or_default, length-replicate}
use Rattle.std.proofs.lemmas.List.Sums.{get_or-le-sum_by}
use Rattle.cell_marks.specs.Marked.{row_at, count_in}
use Rattle.cell_marks.proofs.Bits.{count_one}
use Rattle.cell_marks.proofs.Totals.{marked_set}
use Rattle.cell_marks.proofs.marks.Marks.clear_row.Goals as goal

pub invariant_of-self : goal.invariant_of-self
invariant_of-self c =
    let i = c.self.inside in
    let t = c.args.t in
    let there : t < length i.rows.items = rw (← c.self.view_is) at c.requires in
    let row : c.index_mut-row.result.now ≡ row_at i.rows.items t = c.index_mut-row.ensures.value ∙ get_or_default i.rows.items t _ [] there in
    let width : length c.index_mut-row.result.now ≡ i.width = ap length row ∙ c.self.invariant.whole t there in
    let len : length c.clear_all.new.self ≡ i.width = ap length c.clear_all.ensures ∙ length-replicate (length c.index_mut-row.result.now) false ∙ width in
    let none : count_in c.clear_all.new.self ≡ 0 = ap count_in c.clear_all.ensures ∙ count_one (length c.index_mut-row.result.now) false in
    let before : c.count-before.result ≡ count_in (row_at i.rows.items t) = c.count-before.ensures ∙ ap count_in row in
    marked_set i.width i.rows.items i.total t c.clear_all.new.self _ c.self.invariant there len (omega (arith, none, before, c.self.invariant.counted, get_or-le-sum_by count_in i.rows.items t [] there))
