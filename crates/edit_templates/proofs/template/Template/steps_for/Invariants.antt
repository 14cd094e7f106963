use Rattle.std.proofs.Common.{◌≡◌, ◌++◌, map, drop}
use Rattle.std.specs.Prelude.{option_map}
use Rattle.edit_templates.specs.Lines.{step_for}
use Rattle.edit_templates.specs.Templates.{all_of}
use Rattle.edit_templates.proofs.template.Template.steps_for.Given as goal

abbrev pub invariant-loop-fill : goal.invariant-loop-fill
invariant-loop-fill l =
    all_of (map (λ fill. step_for l.shape l.self fill.0) l.fills)
    ≡ option_map (λ more. l.steps.items ++ more) (all_of (map (λ fill. step_for l.shape l.self fill.0) (drop l.fill-index l.fills)))
