use Rattle.std.proofs.Common.{◌≡◌, [], drop, arith}
use Rattle.std.proofs.Math.ListN.{drop_of_length-le}
use Rattle.svg_plots.proofs.Groups.{groups_kept, groups_end}
use Rattle.svg_plots.proofs.map.draw_groups.Goals as goal

pub loop-group-preserved : goal.loop-group-preserved
loop-group-preserved c = (
  c.few-first.ensures.most,
  rw (c.few-first.ensures.few, c.as_slice.ensures) (groups_kept c.args.map.now c.args.layout _ c.loop-group.picture c.draw_group.new.picture c.args.groups.now c.loop-group.group-index c.loop-group.first c.group-item.result
      c.loop-group-test.true c.group-item.is c.loop-group.invariant.1 c.in_ok-draw_group.ensures),
)

pub returns : goal.returns
returns c =
    let none : drop c.loop-group.group-index c.args.groups.now ≡ [] = drop_of_length-le c.args.groups.now (omega arith) in
    groups_end c.args.map.now c.args.layout _ c.loop-group.picture c.args.groups.now c.loop-group.first (rw none at c.loop-group.invariant.1)
