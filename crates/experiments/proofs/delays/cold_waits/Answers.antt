use Rattle.std.proofs.Common.{◌∙◌, ◌++◌, ◌^◌, ◌<◌, List, ℕ, ap, sym, arith}
use Rattle.std.specs.List.{flat_map}
use Rattle.omega_net.specs.Wires.{below}
use Rattle.machine_cells.specs.Run.{run}
use Rattle.machine_cells.specs.Runs.{state_in}
use Rattle.experiments.specs.Delays.{waits_of}
use Rattle.experiments.proofs.Logging.{waits_there}
use Rattle.experiments.proofs.Waits.{flat-next}
use Rattle.experiments.proofs.delays.cold_waits.Goals as goal

pub loop-proc-preserved : goal.loop-proc-preserved
loop-proc-preserved c =
    let P = c.args.project.now in
    let each = waits_of P (state_in (run P)) c.args.window.from c.args.window.to in
    let less : c.loop-proc.proc < 2 ^ P.k = omega (arith, c.loop-proc-test.true, c.processors-proc-end.ensures) in
    c.in_ok-extend_from_slice.ensures.items
    ∙ ap (λ (xs : List ℕ). xs ++ c.as_slice.result.now) c.loop-proc.invariant
    ∙ ap (λ (ys : List ℕ). flat_map each (below c.loop-proc.proc) ++ ys)
    (c.as_slice.ensures.value ∙ c.in_ok-more.ensures ∙ waits_there P c.args.window.from c.args.window.to c.loop-proc.proc c.in_ok-logs.logs.items c.index.result.now c.in_ok-logs.ensures less c.index.ensures)
    ∙ sym (flat-next each c.loop-proc.proc)
