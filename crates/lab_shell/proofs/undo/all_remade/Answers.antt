use Rattle.std.proofs.Common.{◌∙◌}
use Rattle.bench_shell.specs.Store.{store_of}
use Rattle.lab_shell.proofs.Ranging.{seat_next}
use Rattle.lab_shell.proofs.Undoing.{first_next}
use Rattle.lab_shell.proofs.undo.all_remade.Goals as goal

pub loop-edit-preserved : goal.loop-edit-preserved
loop-edit-preserved g c = record {
  same_reference = c.remade.ensures.same_reference ∙ c.loop-edit.invariant.same_reference;
  at = seat_next c.args.edits.now c.loop-edit.edit-index c.loop-edit-test.true;
  first = first_next c.args.voice c.loop-edit.seat c.args.edits.now _ _ _ (store_of c.args.bench.now) (store_of c.loop-edit.bench) (store_of c.remade.new.bench)
      c.loop-edit.edit-index _ c.loop-edit.all c.in-Ok.taken c.both-all.result c.loop-edit-test.true c.both-all.ensures
      c.loop-edit.invariant.at c.loop-edit.invariant.first c.in-Ok.ensures.ok c.in-Ok.ensures.store c.in-Ok.ensures.taken;
}
