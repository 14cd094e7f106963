use Rattle.std.proofs.Common.{◌≡◌, ◌<◌, length, ap, ◌∙◌, arith, []}
use Rattle.std.proofs.lemmas.List.{get_or_default}
use Rattle.cell_marks.specs.Marked.{row_at, count_in}
use Rattle.cell_marks.proofs.Added.{length_union}
use Rattle.cell_marks.proofs.Totals.{total_small, marked_set}
use Rattle.cell_marks.proofs.marks.Marks.set_all.Goals as goal

pub moved-self-inside-requires-clause-fits : goal.moved-self-inside-requires-clause-fits
moved-self-inside-requires-clause-fits c =
    let i = c.self.inside in
    omega (arith, total_small i.width i.rows.items i.total c.self.invariant (omega arith))

pub invariant_of-self : goal.invariant_of-self
invariant_of-self c =
    let i = c.self.inside in
    let t = c.args.t in
    let there : t < length i.rows.items = rw (← c.self.view_is) at c.requires.row in
    let row : c.index_mut-marked.result.now ≡ row_at i.rows.items t = c.index_mut-marked.ensures.value ∙ get_or_default i.rows.items t _ [] there in
    let len : length c.add.new.self ≡ i.width = ap length c.add.ensures ∙ length_union c.index_mut-marked.result.now c.args.row.now ∙ ap length row ∙ c.self.invariant.whole t there in
    let before : c.count-before.result ≡ count_in (row_at i.rows.items t) = c.count-before.ensures ∙ ap count_in row in
    marked_set i.width i.rows.items i.total t c.add.new.self c.moved-self-inside.result c.self.invariant there len (omega (arith, c.moved-self-inside.ensures, before, c.count-after.ensures))
