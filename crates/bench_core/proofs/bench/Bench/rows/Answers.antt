use Rattle.std.proofs.Common.{◌≡◌, ◌∙◌, ap, arith, map}
use Rattle.std.specs.Arc.{arc_value}
use Rattle.std.proofs.lemmas.List.{take_all}
use Rattle.machine_cells.specs.Run.{run, first_states}
use Rattle.machine_cells.proofs.Rows.{length-run}
use Rattle.bench_core.specs.Shown.{project_of}
use Rattle.bench_core.proofs.Rows.{one_more}
use Rattle.bench_core.proofs.bench.Bench.rows.Goals as goal

pub loop-cycle-preserved : goal.loop-cycle-preserved
loop-cycle-preserved c =
    ap (map (λ row. map arc_value row.items)) c.in_ok-push.ensures.items
    ∙ one_more (λ row. map arc_value row.items) c.loop-cycle.rows.items c.in_ok-row.field-0 (run (project_of c.args.self.now)) c.loop-cycle.cycle c.loop-cycle.invariant c.in_ok-row.ensures

pub returns : goal.returns
returns c =
    let P = project_of c.args.self.now in
    let end : c.horizon-cycle-end.result ≡ P.horizon = rw c.project.ensures at c.horizon-cycle-end.ensures.horizon in
    c.loop-cycle.invariant ∙ take_all c.loop-cycle.cycle (run P) (omega (arith, length-run P (first_states P) P.horizon, end, c.loop-cycle-test.false))
