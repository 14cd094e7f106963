use Rattle.std.proofs.Common.{◌∙◌, ◌++◌, ◌∷◌, [], List, map, ap, sym}
use Rattle.std.specs.Arc.{arc_value}
use Rattle.std.proofs.lemmas.List.{map-append}
use Rattle.machine_cells.specs.declared.state.MachineState.{MachineState}
use Rattle.machine_cells.specs.Run.{start_of}
use Rattle.machine_cells.specs.GridRules.{first_state}
use Rattle.machine_cells.proofs.Rows.{map-below}
use Rattle.machine_cells.proofs.scratch.first_row.Goals as goal
use Rattle.omega_net.specs.Wires.{below}
use Rattle.omega_net.specs.Numbers.{component_of}

pub loop-c-preserved : goal.loop-c-preserved
loop-c-preserved c =
    let P = c.args.project.now in
    let x = c.in_ok-first_state.field-0 in
    let is = c.in_ok-first_state.ensures ∙ ap (start_of P) (sym c.component_at.ensures.is ∙ ap (λ k. component_of k c.loop-c.c) c.shape-shape.ensures) in
    ap (map arc_value) c.in_ok-push.ensures.items
    ∙ map-append arc_value c.loop-c.row.items (x ∷ [])
    ∙ ap (λ (xs : List MachineState). xs ++ arc_value x ∷ []) c.loop-c.invariant
    ∙ ap (λ y. map (first_state P) (below c.loop-c.c) ++ y ∷ []) is
    ∙ sym (map-below (first_state P) c.loop-c.c)
