use Rattle.std.proofs.Common.{ℕ, ap, ap₂, map, ◌∙◌}
use Rattle.lab_tasks.specs.Columns.{greatest_columns}
use Rattle.lab_tasks.specs.MapRows.{queues_in, row_groups}
use Rattle.lab_tasks.specs.RowMaps.{lengths_in}
use Rattle.lab_tasks.specs.RowCells.{groups_with}
use Rattle.lab_tasks.proofs.RowCells.{drawn_rows}
use Rattle.lab_tasks.proofs.row_map.drawn_groups.Goals as goal

pub returns : goal.returns
returns c =
    let P = c.args.project.now in
    let plan = c.args.plan in
    drawn_rows (lengths_in P plan.window) (greatest_columns plan.window) (row_groups P.k plan.net plan.module plan.way plan.over) c.in_ok-groups.groups.items
    c.in_ok-queues.queues.items c.in_ok-lengths.lengths.items c.in_ok-cells.cells.items c.in_ok-drawn.drawn.items
    (c.in_ok-groups.ensures ∙ ap (λ (k : ℕ). row_groups k plan.net plan.module plan.way plan.over) c.shape-shape.ensures)
    (c.in_ok-queues.ensures ∙ ap queues_in c.as_slice.ensures.value)
    (c.in_ok-lengths.ensures ∙ ap (map (lengths_in P plan.window)) c.as_slice-2.ensures.value)
    (c.in_ok-cells.ensures ∙ ap (map (greatest_columns plan.window)) c.as_slice-3.ensures.value)
    (c.in_ok-drawn.ensures ∙ ap₂ groups_with c.as_slice-4.ensures.value c.as_slice-5.ensures.value)
