use Rattle.std.proofs.Common.{◌≡◌, ◌+◌, ℕ, sym, subst, suc, arith}
use Rattle.run_reports.specs.Logs.{AreLogs}
use Rattle.run_reports.proofs.reference.logs_of.Goals as goal

pub returns : goal.returns
returns c =
    let P = c.args.project.now in
    let t = c.loop-cycle.runner.cycle in
    let end : t + 1 ≡ suc P.horizon = omega (arith, c.loop-cycle.invariant.cycle, c.loop-cycle-test.false, c.loop-cycle.auto._cycle-end, c.horizon-cycle-end.ensures.horizon) in
    subst (λ (n : ℕ). AreLogs P n c.add_cycle-2.new.logs.items) end
    (c.in_ok-add_cycle-2.ensures (subst (λ (n : ℕ). AreLogs P n c.loop-cycle.logs.items) (sym c.loop-cycle.invariant.cycle) c.loop-cycle.invariant.logs))
