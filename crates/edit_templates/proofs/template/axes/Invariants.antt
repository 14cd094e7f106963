use Rattle.std.proofs.Common.{◌≡◌, map, take}
use Rattle.edit_templates.specs.Steps.{puts_of}
use Rattle.edit_templates.specs.Templates.{kept_brace}
use Rattle.edit_templates.proofs.template.axes.Given as goal

abbrev pub invariant-loop-brace : goal.invariant-loop-brace
invariant-loop-brace l = map (λ axis. axis.steps.items) l.axes.items ≡ map puts_of (map kept_brace (take l.brace-index l.braces))
