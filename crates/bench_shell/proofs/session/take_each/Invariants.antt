use Rattle.std.proofs.Common.{◌≡◌, take}
use Rattle.bench_shell.specs.Store.{version_in}
use Rattle.bench_shell.specs.Steps.{GoesOn, EditsOn}
use Rattle.bench_shell.proofs.session.take_each.Given as goal

abbrev pub invariant-loop-byte : goal.invariant-loop-byte
invariant-loop-byte g l = record {
  version : l.version ≡ version_in (g.D.Desk.store l.desk);
  same_reference : g.W.Sink.lender l.writer ≡ g.W.Sink.lender l.initial.writer;
  earlier : g.D.Desk.is_alone l.desk → g.D.Desk.is_alone l.initial.desk;
  moves : GoesOn (g.W.Sink.contents l.initial.writer) (g.W.Sink.contents l.writer) (g.D.Desk.is_alone l.initial.desk) (g.D.Desk.is_alone l.desk)
      (g.D.Desk.store l.initial.desk) l.initial.held.is_long l.initial.held.bytes.items (take l.byte-index l.piece)
      (g.D.Desk.store l.desk) l.held.is_long l.held.bytes.items;
  edits : EditsOn (g.D.Desk.store l.initial.desk) l.initial.held.is_long l.initial.held.bytes.items (take l.byte-index l.piece)
      (g.D.Desk.store l.desk) l.held.is_long l.held.bytes.items;
}
