use Rattle.std.proofs.Common.{string_bytes}
use Rattle.lab_tasks.specs.ProjectTexts.{item_text}
use Rattle.lab_tasks.proofs.Listing.{flat_after}
use Rattle.lab_tasks.proofs.convert.add_entries.Goals as goal

pub loop-index-preserved : goal.loop-index-preserved
loop-index-preserved c =
    flat_after (item_text c.args.project.now c.args.proc) c.loop-index.index (string_bytes c.args.text.now) (string_bytes c.loop-index.text)
    (string_bytes c.add_item.new.text) c.loop-index.invariant c.in_ok-add_item.ensures
