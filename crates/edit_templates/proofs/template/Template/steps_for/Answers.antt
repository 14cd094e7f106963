use Rattle.std.proofs.Common.{◌≡◌, ◌∙◌, sym, ap, map, get_or}
use Rattle.std.specs.Prelude.{Some}
use Rattle.edit_templates.specs.Lines.{step_for}
use Rattle.edit_templates.specs.Steps.{Step}
use Rattle.edit_templates.specs.Templates.{all_of}
use Rattle.edit_templates.proofs.Alls.{some-next}
use Rattle.edit_templates.proofs.template.Template.steps_for.Goals as goal

pub loop-fill-preserved : goal.loop-fill-preserved
loop-fill-preserved c =
    let some : step_for c.args.shape c.args.self.now (get_or c.args.fills.now c.loop-fill.fill-index c.fill-item.result).0 ≡ Some c.in-Some.step =
    ap (λ (fill : Step). step_for c.args.shape c.args.self.now fill.0) (sym c.fill-item.is) ∙ sym c.in_ok-step.ensures ∙ c.in-Some.is in
    rw c.in_ok-push-in-Some.ensures.items
    (some-next (λ (fill : Step). step_for c.args.shape c.args.self.now fill.0) c.args.fills.now c.loop-fill.fill-index c.fill-item.result c.in-Some.step
    c.loop-fill.steps.items (all_of (map (λ (fill : Step). step_for c.args.shape c.args.self.now fill.0) c.args.fills.now)) c.loop-fill-test.true some c.loop-fill.invariant)
