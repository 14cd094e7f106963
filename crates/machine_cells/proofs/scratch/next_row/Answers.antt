use Rattle.std.proofs.Common.{◌∙◌, ◌++◌, ◌∷◌, [], List, map, ap, sym, arith}
use Rattle.std.proofs.lemmas.List.{length-map, map-append, take_all}
use Rattle.std.specs.Arc.{arc_value}
use Rattle.omega_net.specs.Numbers.{components}
use Rattle.machine_cells.specs.declared.state.MachineState.{MachineState}
use Rattle.machine_cells.specs.Cycle.{cycle}
use Rattle.machine_cells.proofs.Runs.{length-cycle}
use Rattle.machine_cells.proofs.Rows.{take-more}
use Rattle.machine_cells.proofs.scratch.next_row.Goals as goal

pub loop-c-preserved : goal.loop-c-preserved
loop-c-preserved c =
    ap (map arc_value) c.in_ok-push.ensures.items
    ∙ map-append arc_value c.loop-c.next.items (c.in_ok-next_of.field-0 ∷ [])
    ∙ ap (λ (xs : List MachineState). xs ++ arc_value c.in_ok-next_of.field-0 ∷ []) c.loop-c.invariant
    ∙ sym (take-more (cycle c.args.project.now (map arc_value c.args.row.now)) c.loop-c.c (arc_value c.in_ok-next_of.field-0) c.in_ok-next_of.ensures)

pub returns : goal.returns
returns c =
    c.loop-c.invariant
    ∙ take_all c.loop-c.c (cycle c.args.project.now (map arc_value c.args.row.now)) (omega (arith, length-cycle c.args.project.now (map arc_value c.args.row.now), length-map c.args.row.now arc_value, ap components c.shape.ensures))
