use Rattle.std.proofs.Common.{rules, ◌≡◌, ◌+◌, ◌<◌, vec_len, [], sym, append-nil, ◌∙◌}
use Rattle.std.proofs.KnownBytes.{Keeps-refl}
use Rattle.shared_bench.specs.Legal.{StartsWith}
use Rattle.worker_sessions.proofs.Openings.{leaves_bench, leaves_passes}
use Rattle.worker_sessions.proofs.serving.serve.Goals as goal

pub returns-then-workers-eq0-clause-serves : goal.returns-then-workers-eq0-clause-serves
returns-then-workers-eq0-clause-serves g c =
    let none : vec_len c.args.gates ≡ 0 = search rules in
    let run = c.run_watched-ended.ensures in
    leaves_bench _ _ _ _ (vec_len c.args.gates) c.in-Some.bench c.run_watched-ended.new.desk c.args.project none c.in-Some.ensures.project c.in-Some.ensures.journal
    (record { edits = run.edits; own = run.own; all = run.all; part = run.fault; cause = run.cause })

pub returns-in-Err-clause-serves : goal.returns-in-Err-clause-serves
returns-in-Err-clause-serves g c = (Keeps-refl (g.R.Source.remaining c.args.reader.now), Keeps-refl (g.W.Sink.contents c.args.writer.now))

pub run_beside-requires-clause-seen : goal.run_beside-requires-clause-seen
run_beside-requires-clause-seen g c κs within =
    let p = c.in-Ok.pass in
    let ok = c.in-Ok.ensures.ok in
    let seen : StartsWith p.seen p.opened = ([], ok.2 ∙ sym ok.1 ∙ sym (append-nil p.opened)) in
    seen

pub returns-in-Ok-run_beside-clause-serves : goal.returns-in-Ok-run_beside-clause-serves
returns-in-Ok-run_beside-clause-serves g c =
    let p = c.in-Ok.pass in
    let ok = c.in-Ok.ensures.ok in
    let some : 0 < vec_len c.args.gates = search rules in
    let seats : p.seats ≡ vec_len c.args.gates + 2 = search rules in
    let beside = c.in-Ok-run_beside.ensures in
    leaves_passes _ _ _ _ (vec_len c.args.gates) p c.in-Ok-run_beside.beside.pass c.in-Ok-run_beside.beside.worked c.args.project some (ok.0 ∙ c.in-Some.ensures.project) (ok.1 ∙ c.in-Some.ensures.journal) ok.4 ok.6 seats beside.runs beside.all_ended
