use Rattle.std.proofs.Common.{rules, tests, ◌∙◌, ap, sym, subst, ◌≤◌, ◌*◌, nat_le, unwrap_or}
use Rattle.std.proofs.lemmas.Iterator.{YieldsList-from_slice}
use Rattle.std.proofs.lemmas.Iterator.Search.{find_from_yields_List}
use Rattle.svg_plots.specs.Ticks.{steps}
use Rattle.svg_plots.proofs.Steps.{find_wide}
use Rattle.svg_plots.proofs.scale.tick_step.Goals as goal

pub returns-clause-step : goal.returns-clause-step
returns-clause-step c =
    let found = find_from_yields_List (λ step. nat_le c.args.span (step * c.args.most)) _ _ c.find.result c.find.ensures.ran (YieldsList-from_slice steps cc) (λ x b q k. search (rules, tests)) in
    c.unwrap_or.ensures ∙ ap (λ o. unwrap_or o c.args.span) (c.copied.ensures ∙ found)

pub returns-clause-few : goal.returns-clause-few
returns-clause-few c =
    subst (λ n. c.args.span ≤ n * c.args.most) (sym (returns-clause-step c)) (find_wide c.args.span c.args.most steps c.requires)
