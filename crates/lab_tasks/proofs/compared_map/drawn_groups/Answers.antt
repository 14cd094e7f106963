use Rattle.std.proofs.Common.{ℕ, ap, ap₂, map, refl, sym, ◌∙◌}
use Rattle.lab_tasks.specs.Columns.{farthest_columns}
use Rattle.lab_tasks.specs.ComparedMaps.{compared_in, depth_drawn}
use Rattle.lab_tasks.specs.MapRows.{queues_in, row_groups}
use Rattle.lab_tasks.specs.RowCells.{groups_with}
use Rattle.lab_tasks.proofs.RowCells.{drawn_rows}
use Rattle.lab_tasks.proofs.compared_map.drawn_groups.Goals as goal

pub returns : goal.returns
returns c =
    let P = c.args.project.now in
    let Q = c.args.other.now in
    let plan = c.args.plan in
    let made = c.args.compared.now in
    drawn_rows (compared_in P Q plan) (farthest_columns (depth_drawn P Q plan) plan.window) (row_groups P.k plan.net plan.module plan.way plan.over) made.groups.items
    (queues_in made.groups.items) made.numbers.items c.in_ok-cells.cells.items c.in_ok-drawn.drawn.items
    c.requires.groups refl
    (c.requires.numbers ∙ ap (λ gs. map (compared_in P Q plan) (queues_in gs)) (sym c.requires.groups))
    (c.in_ok-cells.ensures ∙ ap₂ (λ (d : ℕ) ns. map (farthest_columns d plan.window) ns) c.depth_drawn-depth.ensures.depth c.as_slice.ensures.value)
    (c.in_ok-drawn.ensures ∙ ap₂ groups_with c.as_slice-2.ensures.value c.as_slice-3.ensures.value)
