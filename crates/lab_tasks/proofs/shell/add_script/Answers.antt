use Rattle.std.proofs.Common.{string_bytes}
use Rattle.lab_tasks.specs.Shells.{entry_line}
use Rattle.lab_tasks.proofs.Listing.{flat_after}
use Rattle.lab_tasks.proofs.shell.add_script.Goals as goal

pub loop-index-preserved : goal.loop-index-preserved
loop-index-preserved c =
    flat_after (entry_line c.args.project.now c.args.proc) c.loop-index.index (string_bytes c.args.text.now) (string_bytes c.loop-index.text)
    (string_bytes c.add_entry.new.text) c.loop-index.invariant c.in_ok-add_entry.ensures
