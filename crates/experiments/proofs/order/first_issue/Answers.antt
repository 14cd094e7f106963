use Rattle.std.proofs.Common.{◌≡◌, ℕ, suc, ◌<◌, ◌∙◌, sym, ap, subst, map, arith, None, Some, Option}
use Rattle.std.specs.Arc.{arc_value}
use Rattle.std.specs.Option.{option_copied}
use Rattle.machine_cells.specs.declared.state.MachineState.{MachineState}
use Rattle.machine_cells.specs.Runs.{state_in}
use Rattle.experiments.specs.Orders.{first_issue, issued_in}
use Rattle.experiments.proofs.Firsts.{issue_stays}
use Rattle.experiments.proofs.order.first_issue.Goals as goal

pub returns-in-Some : goal.returns-in-Some
returns-in-Some c =
    let P = c.args.project.now in
    let n = c.args.tag.issue in
    let t = c.loop-cycle.cycle in
    let rows = map (λ row. map arc_value row.items) c.args.rows.now in
    let at : ℕ → Option MachineState = λ u. state_in rows u c.args.tag.proc in
    let state : option_copied c.state_at.result ≡ at t = c.state_at.ensures ∙ ap (state_in rows t) c.from-proc.ensures in
    let is : issued_in P n t (at t) ≡ Some c.in-Some.issue = ap (issued_in P n t) (sym state) ∙ (sym c.issued_in.ensures ∙ c.in-Some.is) in
    let before : t < suc P.horizon = omega (arith, c.horizon-cycle-end.ensures.horizon, c.loop-cycle-test.true) in
    sym (issue_stays P at n t (suc P.horizon) c.in-Some.issue c.loop-cycle.invariant is before)

pub returns : goal.returns
returns c =
    let P = c.args.project.now in
    let rows = map (λ row. map arc_value row.items) c.args.rows.now in
    let at : ℕ → Option MachineState = λ u. state_in rows u c.args.tag.proc in
    let all : c.loop-cycle.cycle ≡ suc P.horizon = omega (arith, c.horizon-cycle-end.ensures.horizon, c.loop-cycle.auto.cycle-end, c.loop-cycle-test.false) in
    sym (subst (λ n. first_issue P at c.args.tag.issue n ≡ None) all c.loop-cycle.invariant)
