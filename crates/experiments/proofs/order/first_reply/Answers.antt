use Rattle.std.proofs.Common.{◌≡◌, ℕ, suc, ◌<◌, ◌∙◌, sym, ap, map, arith, Some, Option}
use Rattle.std.specs.Arc.{arc_value}
use Rattle.std.specs.Option.{option_copied}
use Rattle.machine_cells.specs.declared.state.MachineState.{MachineState}
use Rattle.machine_cells.specs.Runs.{state_in}
use Rattle.run_queries.specs.Answers.{word_got}
use Rattle.run_queries.proofs.Stretches.{reply_stays}
use Rattle.experiments.proofs.order.first_reply.Goals as goal

pub returns-in-Some : goal.returns-in-Some
returns-in-Some c =
    let n = c.args.tag.issue in
    let t = c.loop-cycle.cycle in
    let end = c.args.project.now.horizon in
    let rows = map (λ row. map arc_value row.items) c.args.rows.now in
    let at : ℕ → Option MachineState = λ u. state_in rows u c.args.tag.proc in
    let state : option_copied c.state_at.result ≡ at t = c.state_at.ensures ∙ ap (state_in rows t) c.from-proc.ensures in
    let got : word_got n (at t) ≡ Some c.in-Some.word = ap (word_got n) (sym state) ∙ (sym c.word_got.ensures ∙ c.in-Some.is) in
    let before : t < suc end = omega (arith, c.horizon-cycle-end.ensures.horizon, c.loop-cycle-test.true) in
    sym (reply_stays at n t (suc end) c.in-Some.word c.loop-cycle.invariant got before)
