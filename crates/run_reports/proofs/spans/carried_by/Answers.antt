use Rattle.std.proofs.Common.{◌≡◌, ◌<◌, ◌∙◌, ℕ, Option, Some, ap, sym, subst}
use Rattle.std.specs.Prelude.{unwrap_or}
use Rattle.omega_net.specs.declared.message.Tag.{Tag}
use Rattle.omega_net.specs.Numbers.{components}
use Rattle.machine_cells.specs.Run.{run}
use Rattle.machine_cells.specs.Runs.{state_in}
use Rattle.run_reports.specs.Traces.{combined_at}
use Rattle.run_reports.proofs.Tracing.{there_at}
use Rattle.run_reports.proofs.spans.carried_by.Goals as goal

pub returns-in-Some : goal.returns-in-Some
returns-in-Some c =
    let P = c.args.project.now in
    let x = c.args.tag in
    let at = state_in (run P) c.args.runner.now.cycle in
    let n = c.loop-number.number in
    let less : n < components P.k = subst (λ (m : ℕ). n < m) (c.components-number-end.ensures.value ∙ ap components c.shape.ensures) c.loop-number-test.true in
    let here : combined_at x (at n) ≡ Some c.in-Some.first = ap (combined_at x) c.in_ok-state.ensures ∙ sym c.combined_at.ensures ∙ c.in-Some.is in
    sym (ap (λ (o : Option Tag). unwrap_or o x) (there_at (λ m. combined_at x (at m)) n (components P.k) c.in-Some.first less c.loop-number.invariant here))
