use Rattle.std.proofs.Common.{◌≡◌, ◌∙◌}
use Rattle.worker_sessions.proofs.Openings.{runs_as}
use Rattle.worker_sessions.proofs.serving.run_beside.Goals as goal

pub returns-clause-runs : goal.returns-clause-runs
returns-clause-runs g c =
    let first : c.new-desk.result ≡ c.args.pass = c.new-desk.ensures.pass ∙ c.split.ensures.same in
    let run = c.run_watched-ended.ensures in
    runs_as _ _ _ _ c.args.pass c.new-desk.result c.run_watched-ended.new.desk c.into_pass-pass.result first c.into_pass-pass.ensures
    (record { edits = run.edits; own = run.own; all = run.all; part = run.fault; cause = run.cause })
