use Rattle.std.proofs.Common.{◌∙◌}
use Rattle.bench_shell.proofs.Writes.{written_more}
use Rattle.bench_shell.proofs.session.write_bytes.Goals as goal

pub loop-rest-preserved : goal.loop-rest-preserved
loop-rest-preserved g c = record {
  told = rw c.split_at.ensures.back (written_more _ _ _ _ _ _ c.loop-rest.invariant.told c.in-Ok.ensures.bytes);
  same_reference = c.write.ensures.same_reference ∙ c.loop-rest.invariant.same_reference;
}
