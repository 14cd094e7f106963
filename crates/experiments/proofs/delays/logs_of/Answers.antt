use Rattle.std.proofs.Common.{◌+◌, ◌∙◌, ℕ, ap, sym, subst, arith}
use Rattle.experiments.specs.Logs.{AreLogs}
use Rattle.experiments.proofs.Logging.{cycle_logged, last_logged}
use Rattle.experiments.proofs.delays.logs_of.Goals as goal

pub loop-cycle-init : goal.loop-cycle-init
loop-cycle-init c = record { at = c.in_ok-runner.ensures.at; cycle = c.in_ok-runner.ensures.first; logs = c.in_ok-logs.ensures c.args.window.from }

pub loop-cycle-preserved : goal.loop-cycle-preserved
loop-cycle-preserved c = record {
  at = c.in_ok-step.ensures.at;
  cycle = c.in_ok-step.ensures.next ∙ ap (λ n. n + 1) c.loop-cycle.invariant.cycle;
  logs = cycle_logged c.args.project.now c.args.window.from c.loop-cycle._cycle c.loop-cycle.runner.cycle c.loop-cycle.logs.items c.add_issues.new.logs.items c.add_replies.new.logs.items
      c.loop-cycle.invariant.cycle c.loop-cycle.invariant.logs (c.in_ok-add_issues.ensures c.args.window.from) (c.in_ok-add_replies.ensures (c.loop-cycle.runner.cycle + 1));
}

pub returns : goal.returns
returns c =
    last_logged c.args.project.now c.args.window.from c.loop-cycle._cycle c.loop-cycle.runner.cycle c.args.window.to c.loop-cycle.logs.items c.add_replies-2.new.logs.items
    c.loop-cycle.invariant.cycle (omega (arith, c.loop-cycle-test.false, c.loop-cycle.auto._cycle-end)) c.loop-cycle.invariant.logs (c.in_ok-add_replies-2.ensures c.args.window.to)

pub add_replies-requires-clause-many : goal.add_replies-requires-clause-many
add_replies-requires-clause-many c =
    (c.in_ok-add_issues.ensures c.args.window.from
    (subst (λ (n : ℕ). AreLogs c.args.project.now c.args.window.from n n c.loop-cycle.logs.items) (sym c.loop-cycle.invariant.cycle) c.loop-cycle.invariant.logs)).many
