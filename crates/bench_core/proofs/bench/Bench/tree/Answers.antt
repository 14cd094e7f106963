use Rattle.std.proofs.Common.{◌≡◌, ◌+◌, ◌∙◌, ap, sym, refl, map, length}
use Rattle.std.specs.Arc.{arc_value}
use Rattle.std.proofs.lemmas.List.{length-map}
use Rattle.machine_cells.specs.Run.{run, first_states}
use Rattle.machine_cells.specs.Runs.{state_in}
use Rattle.machine_cells.proofs.Rows.{length-run}
use Rattle.saturation.specs.Trees.{tree}
use Rattle.bench_core.specs.Shown.{project_of}
use Rattle.bench_core.proofs.bench.Bench.tree.Goals as goal

pub tree-requires-clause-cycles : goal.tree-requires-clause-cycles
tree-requires-clause-cycles g c =
    let P = project_of c.args.self.now in
    let all : map (λ row. map (λ r. r.now) row.items) c.in-Ok-lend_all.lent.items ≡ run P =
    c.in-Ok-lend_all.ensures ∙ (ap (map (λ row. map arc_value row.items)) c.as_slice.ensures.value ∙ c.in-Ok.ensures) in
    let size : length c.in-Ok-lend_all.lent.items ≡ P.horizon + 1 = sym (length-map c.in-Ok-lend_all.lent.items (λ row. map (λ r. r.now) row.items)) ∙ ap length all ∙ length-run P (first_states P) P.horizon in
    λ lifetimes outlives. rw (c.as_slice-2.ensures.value, c.project.ensures) size

pub returns-in-Ok-tree : goal.returns-in-Ok-tree
returns-in-Ok-tree g c =
    let P = project_of c.args.self.now in
    let all : map (λ row. map (λ r. r.now) row.items) c.as_slice-2.result.now ≡ run P =
    ap (map (λ row. map (λ r. r.now) row.items)) c.as_slice-2.ensures.value
    ∙ (c.in-Ok-lend_all.ensures ∙ (ap (map (λ row. map arc_value row.items)) c.as_slice.ensures.value ∙ c.in-Ok.ensures)) in
    let is : c.in-Ok-tree.tree ≡ tree P c.args.net c.args.«module» (state_in (run P)) = rw (all, c.project.ensures) at c.in-Ok-tree.ensures in
    rw (c.answered.ensures, is) refl
