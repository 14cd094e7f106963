use Rattle.std.proofs.Common.{ap, ◌∙◌}
use Rattle.bench_shell.specs.Store.{store_of}
use Rattle.lab_shell.specs.Sessions.{held}
use Rattle.lab_shell.proofs.Ranging.{goes_on, seat_next, stops_at}
use Rattle.lab_shell.proofs.session.in_turn.Goals as goal

pub returns-in-Ok-Some-clause-ok : goal.returns-in-Ok-Some-clause-ok
returns-in-Ok-Some-clause-ok g c =
    stops_at c.args.manner c.args.lines.now (λ v. v.items) c.loop-line.seat _ _ _ (held (store_of c.args.bench.now) c.args.undos.now) (held (store_of c.loop-line.bench) c.loop-line.undos) (held (store_of c.obeyed.new.bench) c.obeyed.new.undos)
    c.loop-line.line-index _ c.as_slice.result.now c.in-Ok-Some.field-0 c.in-Ok-Some.ended c.loop-line-test.true (c.as_slice.ensures.value ∙ ap (λ v. v.items) c.line-item.is)
    c.loop-line.invariant.at c.loop-line.invariant.done c.in-Ok-Some.ensures.ok c.in-Ok-Some.field-0-is

pub loop-line-preserved : goal.loop-line-preserved
loop-line-preserved g c = record {
  same_reference = c.obeyed.ensures.same_reference ∙ c.loop-line.invariant.same_reference;
  at = seat_next c.args.lines.now c.loop-line.line-index c.loop-line-test.true;
  done = goes_on c.args.manner c.args.lines.now (λ v. v.items) c.loop-line.seat _ _ _ (held (store_of c.args.bench.now) c.args.undos.now) (held (store_of c.loop-line.bench) c.loop-line.undos) (held (store_of c.obeyed.new.bench) c.obeyed.new.undos)
      c.loop-line.line-index _ c.as_slice.result.now c.in-Ok-None.field-0 c.loop-line-test.true (c.as_slice.ensures.value ∙ ap (λ v. v.items) c.line-item.is)
      c.loop-line.invariant.at c.loop-line.invariant.done c.in-Ok-None.ensures.ok c.in-Ok-None.field-0-is;
}
