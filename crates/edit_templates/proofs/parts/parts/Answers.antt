use Rattle.std.proofs.Common.{◌≡◌, sym, rules}
use Rattle.std.specs.Prelude.{None}
use Rattle.edit_templates.specs.Braces.{cut_at}
use Rattle.edit_templates.proofs.Cuts.{parts-next, parts-last, cut_shorter}
use Rattle.edit_templates.proofs.parts.parts.Goals as goal

pub parts-smaller : goal.parts-smaller
parts-smaller c = cut_shorter c.args.at c.parts.rest.now c.in-Some.first.now c.in-Some.behind.now (sym c.in-Some.ensures)

pub parts-preserved : goal.parts-preserved
parts-preserved c = (
  parts-next c.args.at c.parts.parts.items c.push.new.self.items c.in-Some.first c.in-Some.behind c.parts.rest.now c.args.text.now c.parts.invariant.0
      (sym c.in-Some.ensures) c.in_ok-push.ensures.items,
  search rules,
)

pub returns : goal.returns
returns c =
    let none : cut_at c.args.at c.parts.rest.now ≡ None = search rules in
    parts-last c.args.at c.parts.parts.items c.push-2.new.self.items c.parts.rest c.args.text.now c.parts.invariant.0 none c.in_ok-push-2.ensures.items
