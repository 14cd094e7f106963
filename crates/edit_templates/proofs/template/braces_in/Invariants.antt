use Rattle.std.proofs.Common.{◌≡◌, ◌++◌, map, drop}
use Rattle.std.specs.Prelude.{option_map}
use Rattle.edit_templates.specs.Templates.{all_of, brace_of, kept_brace}
use Rattle.edit_templates.proofs.template.braces_in.Given as goal

abbrev pub invariant-loop-text : goal.invariant-loop-text
invariant-loop-text l =
    all_of (map (λ text. brace_of l.k text.now) l.texts)
    ≡ option_map (λ more. map kept_brace l.braces.items ++ more) (all_of (map (λ text. brace_of l.k text.now) (drop l.text-index l.texts)))
