use Rattle.std.proofs.Common.{◌≡◌, ◌+◌, ℕ, ap, ◌∙◌, map, arith}
use Rattle.omega_net.specs.Numbers.{components}
use Rattle.omega_net.specs.Wires.{below}
use Rattle.machine_cells.specs.Run.{run}
use Rattle.machine_cells.specs.Runs.{state_in}
use Rattle.monitor_sums.specs.declared.counter.Counter.TheVariants.{Answered, Served}
use Rattle.experiments.specs.Flows.{counted_at}
use Rattle.experiments.proofs.Adding.{flow_is}
use Rattle.experiments.proofs.Counting.{first_counted, next_counted}
use Rattle.experiments.proofs.flows.flows_of.Goals as goal

pub loop-cycle-init : goal.loop-cycle-init
loop-cycle-init c =
    let P = c.args.project.now in
    record {
      at = c.in_ok-runner.ensures.at;
      cycle = c.in_ok-runner.ensures.first;
      answered = first_counted (counted_at Answered (state_in (run P)) (components P.k)) c.in_ok-runner.runner.cycle _ c.add.new.self.answered.items c.in_ok-runner.ensures.first c.new.ensures.items c.in_ok-add.ensures.answered;
      served = first_counted (counted_at Served (state_in (run P)) (components P.k)) c.in_ok-runner.runner.cycle _ c.add.new.self.served.items c.in_ok-runner.ensures.first c.new-2.ensures.items c.in_ok-add.ensures.served;
    }

pub loop-cycle-preserved : goal.loop-cycle-preserved
loop-cycle-preserved c =
    let P = c.args.project.now in
    let later : c.step.new.self.cycle ≡ c.loop-cycle._cycle + 1 = c.in_ok-step.ensures.next ∙ ap (λ (n : ℕ). n + 1) c.loop-cycle.invariant.cycle in
    record {
      at = c.in_ok-step.ensures.at;
      cycle = later;
      answered = next_counted (counted_at Answered (state_in (run P)) (components P.k)) c.loop-cycle._cycle c.step.new.self.cycle c.loop-cycle.flows.answered.items c.add-in-loop-cycle.new.self.answered.items later c.loop-cycle.invariant.answered c.in_ok-add-2.ensures.answered;
      served = next_counted (counted_at Served (state_in (run P)) (components P.k)) c.loop-cycle._cycle c.step.new.self.cycle c.loop-cycle.flows.served.items c.add-in-loop-cycle.new.self.served.items later c.loop-cycle.invariant.served c.in_ok-add-2.ensures.served;
    }

pub returns-clause-answered : goal.returns-clause-answered
returns-clause-answered c =
    let P = c.args.project.now in
    let last : c.loop-cycle._cycle ≡ P.horizon = omega (arith, c.loop-cycle-test.false, c.loop-cycle.auto._cycle-end, c.horizon-cycle-end.ensures.horizon) in
    flow_is P Answered c.loop-cycle.flows.answered.items (c.loop-cycle.invariant.answered ∙ ap (λ (n : ℕ). map (counted_at Answered (state_in (run P)) (components P.k)) (below (n + 1))) last)

pub returns-clause-served : goal.returns-clause-served
returns-clause-served c =
    let P = c.args.project.now in
    let last : c.loop-cycle._cycle ≡ P.horizon = omega (arith, c.loop-cycle-test.false, c.loop-cycle.auto._cycle-end, c.horizon-cycle-end.ensures.horizon) in
    flow_is P Served c.loop-cycle.flows.served.items (c.loop-cycle.invariant.served ∙ ap (λ (n : ℕ). map (counted_at Served (state_in (run P)) (components P.k)) (below (n + 1))) last)
