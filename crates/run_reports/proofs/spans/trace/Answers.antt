use Rattle.std.proofs.Common.{◌≡◌, ◌+◌, ◌∙◌, ℕ, List, Option, sym, ap, ap₂, suc, arith}
use Rattle.machine_cells.specs.Run.{run}
use Rattle.machine_cells.specs.Runs.{state_in}
use Rattle.run_reports.specs.declared.spans.Span.{Span}
use Rattle.run_reports.specs.declared.spans.Spot.{Spot}
use Rattle.run_reports.specs.Traces.{spans_before, spot_of, with_spot}
use Rattle.run_reports.proofs.Tracing.{cycle_more}
use Rattle.run_reports.proofs.spans.trace.Goals as goal

pub loop-cycle-preserved : goal.loop-cycle-preserved
loop-cycle-preserved c =
    let P = c.args.project.now in
    let at = state_in (run P) in
    let x = c.args.tag in
    let t = c.loop-cycle._cycle in
    record {
      at = c.in_ok-step.ensures.at;
      cycle = c.in_ok-step.ensures.next ∙ ap (λ n. n + 1) c.loop-cycle.invariant.cycle;
      spans =
          c.in_ok-add_spot.ensures
          ∙ ap₂ (λ (s : Option Spot) (xs : List Span). with_spot c.loop-cycle.runner.cycle s xs) c.in_ok-spot.ensures c.loop-cycle.invariant.spans
          ∙ ap (λ (n : ℕ). with_spot n (spot_of P.k (at n) x) (spans_before P at x t)) c.loop-cycle.invariant.cycle
          ∙ sym (cycle_more P at x t);
    }

pub returns : goal.returns
returns c =
    let P = c.args.project.now in
    let at = state_in (run P) in
    let x = c.args.tag in
    let t = c.loop-cycle._cycle in
    let end : t ≡ P.horizon = omega (arith, c.loop-cycle-test.false, c.loop-cycle.auto._cycle-end, c.horizon-cycle-end.ensures.horizon) in
    c.in_ok-add_spot-2.ensures
    ∙ ap₂ (λ (s : Option Spot) (xs : List Span). with_spot c.loop-cycle.runner.cycle s xs) c.in_ok-spot-2.ensures c.loop-cycle.invariant.spans
    ∙ ap (λ (n : ℕ). with_spot n (spot_of P.k (at n) x) (spans_before P at x t)) c.loop-cycle.invariant.cycle
    ∙ ap (λ (n : ℕ). spans_before P at x (suc n)) end
