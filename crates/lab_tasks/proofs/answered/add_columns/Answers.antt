use Rattle.std.proofs.Common.{◌∙◌}
use Rattle.lab_tasks.specs.Answered.{column_name}
use Rattle.lab_tasks.proofs.Listing.{map_after}
use Rattle.lab_tasks.proofs.answered.add_columns.Goals as goal

pub loop-place-preserved : goal.loop-place-preserved
loop-place-preserved c =
    map_after (column_name c.args.form c.args.ask.now c.args.asking) c.loop-place.place c.args.names.now.items c.loop-place.names.items c.push.new.self.items c.new.result
    c.loop-place.invariant c.in_ok-push.ensures.items (c.new.ensures ∙ c.in_ok-name.ensures)
