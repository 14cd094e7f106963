use Rattle.std.proofs.Common.{ℕ, ap, map, ◌∙◌}
use Rattle.lab_tasks.specs.ComparedMaps.{depth_drawn}
use Rattle.lab_tasks.specs.MapRows.{queues_in, row_groups}
use Rattle.lab_tasks.specs.RowMaps.{lengths_in}
use Rattle.lab_tasks.specs.ComparedRows.{all_differences}
use Rattle.std.proofs.Common.{ap₂}
use Rattle.lab_tasks.proofs.ComparedRows.{compared_rows}
use Rattle.lab_tasks.proofs.compared_map.compare.Goals as goal

pub returns-clause-numbers : goal.returns-clause-numbers
returns-clause-numbers c =
    let P = c.args.project.now in
    let Q = c.args.other.now in
    let plan = c.args.plan in
    compared_rows (lengths_in P plan.window) (lengths_in Q plan.window) c.depth_drawn-depth.result (depth_drawn P Q plan)
    (row_groups P.k plan.net plan.module plan.way plan.over) c.in_ok-groups.groups.items
    c.in_ok-queues.queues.items c.in_ok-ones.ones.items c.in_ok-others.others.items c.in_ok-numbers.numbers.items
    (c.in_ok-groups.ensures ∙ ap (λ (k : ℕ). row_groups k plan.net plan.module plan.way plan.over) c.shape-shape.ensures)
    (c.in_ok-queues.ensures ∙ ap queues_in c.as_slice.ensures.value)
    (c.in_ok-ones.ensures ∙ ap (map (lengths_in P plan.window)) c.as_slice-2.ensures.value)
    (c.in_ok-others.ensures ∙ ap (map (lengths_in Q plan.window)) c.as_slice-3.ensures.value)
    c.depth_drawn-depth.ensures.depth
    (c.in_ok-numbers.ensures ∙ ap₂ (all_differences c.depth_drawn-depth.result) c.as_slice-4.ensures.value c.as_slice-5.ensures.value)
