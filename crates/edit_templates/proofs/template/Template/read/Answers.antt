use Rattle.std.proofs.Common.{◌≡◌, ◌∷◌, ◌∙◌, sym, ap, map, rules, Vec, Global}
use Rattle.std.specs.Prelude.{option_map}
use Rattle.edit_templates.specs.declared.template.Brace.{Brace as Kept}
use Rattle.edit_templates.specs.Templates.{kept_brace}
use Rattle.edit_templates.proofs.Reading.{now, read-some, read-none}
use Rattle.edit_templates.proofs.template.Template.read.Goals as goal

pub returns-in-Some-2 : goal.returns-in-Some-2
returns-in-Some-2 c =
    let parts : c.as_slice.result.now ≡ c.in-Some.first.now ∷ c.in-Some.others.now = search rules in
    sym (read-some c.args.k c.args.text.now c.as_slice.result.now c.in-Some.first.now c.in-Some.others.now (map kept_brace c.in-Some-2.braces.items)
    (ap (map now) c.as_slice.ensures.value ∙ c.in_ok-parts.ensures) parts
    (sym c.in_ok-braces.ensures ∙ ap (option_map (λ (v : Vec Kept Global). map kept_brace v.items)) c.in-Some-2.is))

pub returns : goal.returns
returns c =
    let parts : c.as_slice.result.now ≡ c.in-Some.first.now ∷ c.in-Some.others.now = search rules in
    sym (read-none c.args.k c.args.text.now c.as_slice.result.now c.in-Some.first.now c.in-Some.others.now
    (ap (map now) c.as_slice.ensures.value ∙ c.in_ok-parts.ensures) parts
    (sym c.in_ok-braces.ensures ∙ ap (option_map (λ (v : Vec Kept Global). map kept_brace v.items)) c.in-None.is))
