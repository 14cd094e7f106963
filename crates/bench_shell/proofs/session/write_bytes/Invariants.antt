use Rattle.std.proofs.Common.{◌≡◌, ℕ, List, ◌++◌, length}
use Rattle.std.specs.Io.KnownBytes.{Appends}
use Rattle.bench_shell.proofs.session.write_bytes.Given as goal

abbrev pub invariant-loop-rest : goal.invariant-loop-rest
invariant-loop-rest g l = record {
  told : (told : List ℕ) × Appends (g.W.Sink.contents l.initial.writer) (g.W.Sink.contents l.writer) told × (l.bytes ≡ told ++ l.rest);
  same_reference : g.W.Sink.lender l.writer ≡ g.W.Sink.lender l.initial.writer;
}

abbrev pub decreases-loop-rest : goal.decreases-loop-rest
decreases-loop-rest g l = length l.rest
