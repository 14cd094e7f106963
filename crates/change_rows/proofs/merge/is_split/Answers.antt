use Rattle.std.proofs.Common.{◌<◌, ◌-◌, ◌∙◌, sym, arith}
use Rattle.std.proofs.lemmas.Bool.{ltb-true, leb-true}
use Rattle.change_rows.specs.Cells.{component_at}
use Rattle.change_rows.proofs.Between.{split_at}
use Rattle.change_rows.proofs.merge.is_split.Goals as goal
use Rattle.change_rows.proofs.merge.is_split.Goals.{then-place-eq0, else-place-eq0}

pub returns-then-place-len : goal.returns-then-place-len
returns-then-place-len c = λ _.
    let n = c.args.place in
    let cells = c.args.cells.now in
    let low : 0 < n → component_at cells (n - 1) < c.args.c = λ h. elim c.if-place-eq0.branch [
      | then-place-eq0 w ↦ absurd (omega (arith, h, w.if-place-eq0.true))
      | else-place-eq0 w ↦ omega (arith, ltb-true w.component.result c.args.c (sym w.value-is ∙ c.if-component-c.true), w.component.ensures)
    ] in
    split_at cells n c.args.c c.len.ensures.ascending c.requires low (λ h. absurd (omega (arith, h, c.if-place-len.true, c.len.ensures.count)))

pub returns-else-place-len : goal.returns-else-place-len
returns-else-place-len c = λ e.
    let n = c.args.place in
    let cells = c.args.cells.now in
    let low : 0 < n → component_at cells (n - 1) < c.args.c = λ h. elim c.if-place-eq0.branch [
      | then-place-eq0 w ↦ absurd (omega (arith, h, w.if-place-eq0.true))
      | else-place-eq0 w ↦ omega (arith, ltb-true w.component.result c.args.c (sym w.value-is ∙ c.if-component-c.true), w.component.ensures)
    ] in
    split_at cells n c.args.c c.len.ensures.ascending c.requires low (λ _. omega (arith, leb-true c.args.c c.component-else-place-len.result e, c.component-else-place-len.ensures))
