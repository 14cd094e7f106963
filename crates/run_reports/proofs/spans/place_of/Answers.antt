use Rattle.std.proofs.Common.{◌≡◌, ◌<◌, ◌∙◌, ℕ, true, ap, sym, subst}
use Rattle.omega_net.specs.Numbers.{components}
use Rattle.machine_cells.specs.Run.{run}
use Rattle.machine_cells.specs.Runs.{state_in}
use Rattle.run_reports.specs.Traces.{holds}
use Rattle.run_reports.proofs.Figuring.{first_on}
use Rattle.run_reports.proofs.spans.place_of.Goals as goal

pub returns-then-holds : goal.returns-then-holds
returns-then-holds c =
    let P = c.args.project.now in
    let x = c.args.tag in
    let at = state_in (run P) c.args.runner.now.cycle in
    let n = c.loop-number.number in
    let less : n < components P.k = subst (λ (m : ℕ). n < m) (c.components-number-end.ensures.value ∙ ap components c.shape.ensures) c.loop-number-test.true in
    let here : holds x (at n) ≡ true = ap (holds x) c.in_ok-state.ensures ∙ sym c.holds.ensures ∙ c.if-holds.true in
    sym (first_on (λ m. holds x (at m)) n (components P.k) less c.loop-number.invariant here)
