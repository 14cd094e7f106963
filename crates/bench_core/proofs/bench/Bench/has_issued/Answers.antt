use Rattle.std.proofs.Common.{◌≡◌, ℕ, suc, ◌+◌, ◌-◌, ◌<◌, ◌≤◌, ◌⊎◌, inl, inr, cond, arith, Option}
use Rattle.machine_cells.specs.declared.state.MachineState.{MachineState}
use Rattle.run_queries.specs.Answers.{has_sent, issued}
use Rattle.bench_core.specs.Shown.{held}
use Rattle.run_queries.proofs.Stretches.{issued_until, count_tells}
use Rattle.bench_core.proofs.bench.Bench.has_issued.Goals.{then-loop-cycle-test+else-count-issue, else-loop-cycle-test}
use Rattle.bench_core.proofs.bench.Bench.has_issued.Goals as goal

pub loop-cycle-preserved : goal.loop-cycle-preserved
loop-cycle-preserved c =
    let b = c.args.self.now in
    let at : ℕ → Option MachineState = λ t. held b.table t c.args.proc in
    let inv = c.loop-cycle.invariant in
    let from = c.loop-cycle.cycle in
    let to = c.min-end.result in
    let sent = c.sent_in-count.result in
    let at_most : to ≤ c.stands_to-to.result = omega (arith, c.min-end.ensures) in
    let within : to ≤ c.args.last + 1 = omega (arith, c.min-end.ensures) in
    let on : from ≤ to = omega (arith, c.min-end.ensures, c.stands_to-to.ensures.after, inv.within) in
    let stretch : (t : ℕ) → from ≤ t → t < c.stands_to-to.result → at t ≡ at from = rw (← c.self.view_is) c.stands_to-to.ensures.same in
    let same : (t : ℕ) → from ≤ t → t < to → at t ≡ at from = λ t l k. stretch t l (omega (arith, k, at_most)) in
    let more : issued at to ≡ issued at from + cond (has_sent (at from)) (to - from) 0 = issued_until at from to on same in
    let here : sent ≡ cond (has_sent (at from)) (to - from) 0 = c.sent_in-count.ensures.sent (at from) c.words.ensures in
    let less : sent ≤ to - from = c.sent_in-count.ensures.most in
    record {
      is = omega (arith, inv.is, here, more);
      few = omega (arith, inv.few, less, on);
      within = within;
    }

pub returns : goal.returns
returns c =
    let b = c.args.self.now in
    let at : ℕ → Option MachineState = λ t. held b.table t c.args.proc in
    let inv = c.loop-cycle.invariant in
    let known : (c.args.issue < c.loop-cycle.count) ⊎ (c.loop-cycle.cycle ≡ suc c.args.last) = elim c.loop-cycle-test.branch [
      | then-loop-cycle-test+else-count-issue w ↦ inl w.if-count-issue.false
      | else-loop-cycle-test w ↦ inr (omega (arith, inv.within, w.loop-cycle-test.false))
    ] in
    count_tells at c.args.issue c.loop-cycle.count c.loop-cycle.cycle (suc c.args.last) inv.is (omega (arith, inv.within)) known
