use Rattle.std.proofs.Common.{◌≡◌, take}
use Rattle.bench_shell.specs.Store.{store_of}
use Rattle.lab_shell.specs.declared.manner.Seat.TheVariants.{First}
use Rattle.lab_shell.specs.Sessions.{held}
use Rattle.lab_shell.proofs.Ranging.{FirstDone, seat_behind}
use Rattle.lab_shell.proofs.session.in_turn.Given as goal

abbrev pub invariant-loop-line : goal.invariant-loop-line
invariant-loop-line g l = record {
  same_reference : g.W.Sink.lender l.writer ≡ g.W.Sink.lender l.initial.writer;
  at : l.seat ≡ seat_behind First (take l.line-index l.lines);
  done : FirstDone l.manner l.lines (λ v. v.items) (g.W.Sink.contents l.initial.writer) (g.W.Sink.contents l.writer)
      (held (store_of l.initial.bench) l.initial.undos) l.line-index (held (store_of l.bench) l.undos);
}
