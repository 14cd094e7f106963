use Rattle.std.proofs.Common.{◌≡◌, ◌<◌, ◌||◌, ◌∙◌, [], ap, arith, ◌∷◌, length, length-append, get_or, false}
use Rattle.std.proofs.lemmas.List.{get_or_default, length-replicate}
use Rattle.cell_marks.specs.Marked.{is_set}
use Rattle.cell_states.specs.Near.{has}
use Rattle.due_cells.specs.Readers.{readers_at}
use Rattle.cell_states.specs.Filling.{is_awake}
use Rattle.due_cells.proofs.Noted.{each_more, woken_of}
use Rattle.due_cells.proofs.readers.rows_of.Goals as goal

pub wake-requires : goal.wake-requires
wake-requires c = λ k d h.
    let lists = c.args.lists.now.items in
    let at = c.loop-c.c in
    let list : c.as_slice.result.now ≡ readers_at lists at = c.as_slice.ensures ∙ c.index.ensures ∙ get_or_default lists at _ [] (omega (arith, c.loop-c-test.true, c.requires.count)) in
    let blank : length c.in_ok-row.row ≡ c.args.count = ap length c.in_ok-row.ensures ∙ length-replicate c.args.count false in
    let small : get_or (readers_at lists at) k d < c.args.count = c.requires.within at c.loop-c-test.true k d (omega (arith, h, ap length list)) in
    omega (arith, small, blank, ap (λ ms. get_or ms k d) list)

pub loop-c-preserved : goal.loop-c-preserved
loop-c-preserved c =
    let lists = c.args.lists.now.items in
    let at = c.loop-c.c in
    let n = c.args.count in
    let inv = c.loop-c.invariant in
    let list : c.as_slice.result.now ≡ readers_at lists at = c.as_slice.ensures ∙ c.index.ensures ∙ get_or_default lists at _ [] (omega (arith, c.loop-c-test.true, c.requires.count)) in
    let blank : length c.in_ok-row.row ≡ n = ap length c.in_ok-row.ensures ∙ length-replicate n false in
    let row = c.wake.new.marks in
    let items = c.in-Ok.ensures.items in
    record {
      len = omega (arith, ap length items, length-append c.loop-c.rows.items (row ∷ []), inv.len);
      width = each_more (λ d r. length r ≡ n) c.loop-c.rows.items c.push.new.self.items row at inv.len items inv.width (c.wake.ensures.len ∙ blank);
      same = λ d k h l. each_more (λ d r. is_set r k ≡ has (readers_at lists d) k) c.loop-c.rows.items c.push.new.self.items row at inv.len items (λ e m. inv.same e k m l) (woken_of c.in_ok-row.row row (readers_at lists at) n k c.in_ok-row.ensures l (c.wake.ensures.at k ∙ ap (λ ms. is_awake c.in_ok-row.row k || has ms k) list)) d h;
    }
