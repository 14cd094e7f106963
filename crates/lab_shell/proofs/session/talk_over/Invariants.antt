use Rattle.std.proofs.Common.{◌≡◌}
use Rattle.bench_shell.specs.Store.{store_of}
use Rattle.lab_shell.specs.Sessions.{held}
use Rattle.lab_shell.specs.Steps.{Reached}
use Rattle.lab_shell.proofs.session.talk_over.Given as goal

abbrev pub invariant-turns : goal.invariant-turns
invariant-turns g l = record {
  reached : Reached (g.C.Clerk.says l.clerk) l.manner (g.R.Read.remaining l.initial.reader) (g.R.Read.remaining l.reader)
      (g.W.Sink.contents l.initial.writer) (g.W.Sink.contents l.writer) (held (store_of l.initial.bench) l.initial.undos) (held (store_of l.bench) l.undos);
  same_writer : g.W.Sink.lender l.writer ≡ g.W.Sink.lender l.initial.writer;
}
