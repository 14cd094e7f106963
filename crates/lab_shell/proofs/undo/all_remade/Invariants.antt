use Rattle.std.proofs.Common.{◌≡◌, take}
use Rattle.bench_shell.specs.Store.{store_of}
use Rattle.lab_shell.specs.declared.manner.Seat.TheVariants.{First}
use Rattle.lab_shell.proofs.Ranging.{seat_behind}
use Rattle.lab_shell.proofs.Undoing.{FirstRemade}
use Rattle.lab_shell.proofs.undo.all_remade.Given as goal

abbrev pub invariant-loop-edit : goal.invariant-loop-edit
invariant-loop-edit g l = record {
  same_reference : g.W.Sink.lender l.writer ≡ g.W.Sink.lender l.initial.writer;
  at : l.seat ≡ seat_behind First (take l.edit-index l.edits);
  first : FirstRemade l.voice l.edits (g.W.Sink.contents l.initial.writer) (g.W.Sink.contents l.writer) (store_of l.initial.bench) l.edit-index (store_of l.bench) l.all;
}
