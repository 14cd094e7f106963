use Rattle.std.proofs.Common.{◌∙◌, ◌++◌, ◌^◌, ◌<◌, List, ap, sym, suc, arith}
use Rattle.std.specs.List.{flat_map}
use Rattle.omega_net.specs.Wires.{below}
use Rattle.machine_cells.specs.Run.{run}
use Rattle.machine_cells.specs.Runs.{state_in}
use Rattle.run_reports.specs.declared.reference.Reference.{Reference}
use Rattle.run_reports.specs.References.{references_of}
use Rattle.run_reports.proofs.Below.{flat-next}
use Rattle.run_reports.proofs.Logging.{references_there}
use Rattle.run_reports.proofs.reference.references.Goals as goal

pub loop-proc-preserved : goal.loop-proc-preserved
loop-proc-preserved c =
    let P = c.args.project.now in
    let each = references_of P (state_in (run P)) (suc P.horizon) in
    let less : c.loop-proc.proc < 2 ^ P.k = omega (arith, c.loop-proc-test.true, c.processors-proc-end.ensures) in
    c.in_ok-extend_from_slice.ensures.items
    ∙ ap (λ (xs : List Reference). xs ++ c.as_slice.result.now) c.loop-proc.invariant
    ∙ ap (λ (ys : List Reference). flat_map each (below c.loop-proc.proc) ++ ys)
    (c.as_slice.ensures.value ∙ references_there P (suc P.horizon) c.loop-proc.proc c.in_ok-logs.logs.items c.index.result.now c.in_ok-logs.ensures less c.index.ensures)
    ∙ sym (flat-next each c.loop-proc.proc)
