use Rattle.std.proofs.Common.{◌≡◌, ◌≤◌, true}
use Rattle.bench_shell.specs.Store.{version_in}
use Rattle.bench_shell.proofs.Steps.{SoFarOn}
use Rattle.bench_shell.proofs.Own.{OwnSoFar}
use Rattle.bench_shell.proofs.session.run_watched.Given as goal

abbrev pub invariant-pieces : goal.invariant-pieces
invariant-pieces g l = record {
  left : g.R.Source.left l.reader ≤ g.R.Source.left l.initial.reader;
  version : l.version ≡ version_in (g.D.Desk.store l.desk);
  flushed : g.W.Sink.is_flushed l.writer ≡ true;
  same_reader : g.R.Source.lender l.reader ≡ g.R.Source.lender l.initial.reader;
  same_writer : g.W.Sink.lender l.writer ≡ g.W.Sink.lender l.initial.writer;
  earlier : g.D.Desk.is_alone l.desk → g.D.Desk.is_alone l.initial.desk;
  so_far : SoFarOn (g.R.Source.remaining l.initial.reader) (g.R.Source.remaining l.reader)
      (g.W.Sink.contents l.initial.writer) (g.W.Sink.contents l.writer) (g.D.Desk.is_alone l.initial.desk) (g.D.Desk.is_alone l.desk)
      (g.D.Desk.store l.initial.desk) (g.D.Desk.store l.desk) l.held.is_long l.held.bytes.items;
  own : OwnSoFar (g.R.Source.remaining l.initial.reader) (g.R.Source.remaining l.reader) (g.D.Desk.store l.initial.desk) (g.D.Desk.store l.desk) l.held.is_long l.held.bytes.items;
}

abbrev pub decreases-pieces : goal.decreases-pieces
decreases-pieces g l = g.R.Source.left l.reader
