use Rattle.std.proofs.Common.{◌≡◌, ◌+◌, ◌∙◌, ℕ, suc, sym, ap, map, arith}
use Rattle.std.proofs.lemmas.Result.{IfOk-weaker}
use Rattle.machine_cells.specs.Run.{run}
use Rattle.machine_cells.specs.Runs.{state_in}
use Rattle.run_reports.specs.Filling.{never}
use Rattle.run_reports.specs.FullQueues.{first_full, first_fulls, queues}
use Rattle.run_reports.proofs.Filling.{at_first}
use Rattle.run_reports.proofs.full_queues.first_fulls.Goals as goal

pub loop-cycle-init : goal.loop-cycle-init
loop-cycle-init c = record {
  at = c.in_ok-runner.ensures.at;
  cycle = c.in_ok-runner.ensures.first;
  firsts = at_first c.args.project.now c.in_ok-queues.queues.items c.in_ok-all.all.items (c.in_ok-queues.ensures ∙ ap queues c.shape.ensures)
      (c.in_ok-all.ensures ∙ ap (map never) c.as_slice.ensures.value);
}

pub returns : goal.returns
returns c =
    let P = c.args.project.now in
    let at = state_in (run P) in
    let t = c.loop-cycle.runner.cycle in
    let end : t + 1 ≡ suc P.horizon = omega (arith, c.loop-cycle.invariant.cycle, c.loop-cycle-test.false, c.loop-cycle.auto._cycle-end, c.horizon-cycle-end.ensures.horizon) in
    IfOk-weaker c.add_cycle-2.result _ (λ v. v.items ≡ first_fulls P at)
    (λ v is. is ∙ ap (λ (n : ℕ). map (first_full P at n) (queues P.k)) end)
    (c.add_cycle-2.ensures
    (c.as_slice-2.ensures.value ∙ c.loop-cycle.invariant.firsts ∙ ap (λ (n : ℕ). map (first_full P at n) (queues P.k)) (sym c.loop-cycle.invariant.cycle)))
