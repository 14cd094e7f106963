use Rattle.std.proofs.Common.{◌≡◌, ◌-◌, ◌^◌, map, arith, rules}
use Rattle.edit_templates.specs.Templates.{kept_brace}
use Rattle.edit_templates.proofs.Counts.{ways-more}
use Rattle.edit_templates.proofs.template.Template.ways.Goals as goal

pub loop-brace-preserved : goal.loop-brace-preserved
loop-brace-preserved c =
    let kept : c.args.self.now.1 ≡ map kept_brace c.as_slice-brace-items.result.now = search rules in
    record {
      capped = omega arith;
      left =
          ways-more (2 ^ 64 - 1) c.loop-brace.ways c.saturating_mul-ways.result c.count.result c.loop-brace.brace-index _ c.as_slice-brace-items.result.now c.args.self.now.1 c.brace-item.result
          c.loop-brace-test.true kept c.brace-item.is c.count.ensures c.saturating_mul-ways.ensures c.loop-brace.invariant.left;
    }
