use Rattle.std.proofs.Common.{◌≡◌, ℕ, ◌∙◌, sym, ap, Some}
use Rattle.std.proofs.lemmas.Result.{IfOk-weaker}
use Rattle.omega_net.specs.Numbers.{component_of}
use Rattle.machine_cells.specs.Run.{run}
use Rattle.machine_cells.specs.Runs.{state_in}
use Rattle.flat_row.specs.Row.{state_of}
use Rattle.run_reports.proofs.Runners.{shows_at}
use Rattle.machine_page.proofs.cycles.state_at.Goals as goal

pub returns : goal.returns
returns c =
    let P = c.args.project.now in
    let r = c.args.runner.now in
    IfOk-weaker c.read.result _ (λ state. state_in (run P) r.cycle c.args.number ≡ Some state)
    (λ state is.
    shows_at P r c.requires.at c.args.number c.requires.there
    ∙ ap (λ o. Some (state_of r.row o)) (ap (λ (k : ℕ). component_of k c.args.number) (sym c.shape.ensures) ∙ sym c.component.ensures.value ∙ c.unwrap-component.ensures)
    ∙ ap Some (sym is))
    c.read.ensures
