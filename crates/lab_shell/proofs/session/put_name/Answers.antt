use Rattle.std.proofs.Common.{◌++◌, codes}
use Rattle.std.proofs.lemmas.Result.{on_ok_weaker}
use Rattle.std.proofs.KnownBytes.{Appends-trans}
use Rattle.bench_shell.proofs.Writes.{Appends-same}
use Rattle.lab_shell.proofs.session.put_name.Goals as goal

pub returns-clause-ok : goal.returns-clause-ok
returns-clause-ok g c =
    let old = g.W.Sink.contents c.args.writer.now in
    let one = g.W.Sink.contents c.write_bytes.new.writer in
    let two = g.W.Sink.contents c.write_bytes-2.new.writer in
    let new = g.W.Sink.contents c.write_bytes-3.new.writer in
    let name = c.args.name.now in
    let begun = Appends-same old one _ (codes "bad command: there is no such command; is it ") c.as_bytes.ensures.value c.in-Ok.ensures.ok in
    on_ok_weaker c.write_bytes-3.result
    (λ q. Appends-trans old one new (codes "bad command: there is no such command; is it ") (name ++ codes "?\n") begun
    (Appends-trans one two new name (codes "?\n") c.in-Ok-write_bytes.ensures.ok (Appends-same two new _ (codes "?\n") c.as_slice.ensures q)))
    c.write_bytes-3.ensures.ok
