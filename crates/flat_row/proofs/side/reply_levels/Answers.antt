use Rattle.std.proofs.Common.{◌∙◌, ap}
use Rattle.omega_net.specs.Numbers.{lines}
use Rattle.flat_row.proofs.Starting.{replies_more}
use Rattle.flat_row.proofs.side.reply_levels.Goals as goal

pub loop-level-preserved : goal.loop-level-preserved
loop-level-preserved c =
    replies_more c.args.project.now c.args.net c.loop-level.level _ _ _ _ _ c.in_ok-push.ensures.items c.loop-level.invariant c.in_ok-queues.ensures
    (c.lines-lines.ensures.value ∙ ap lines c.shape.ensures) c.reply_rule-rule.ensures
