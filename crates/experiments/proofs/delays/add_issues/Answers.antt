use Rattle.std.proofs.Common.{◌+◌, ◌^◌, ◌<◌, refl, ◌∙◌, arith}
use Rattle.std.proofs.Math.ListN.{length-set}
use Rattle.experiments.specs.Logs.{IsLog}
use Rattle.experiments.proofs.Logging.{all_done, log_there, none_done, one_done, one_issue}
use Rattle.experiments.proofs.delays.add_issues.Goals as goal

pub loop-proc-init : goal.loop-proc-init
loop-proc-init c = record {
  many = c.requires.many;
  logs = λ from are.
      let t = c.args.runner.now.cycle in
      none_done (IsLog c.args.project.now from (t + 1) t) (IsLog c.args.project.now from t t) (2 ^ c.args.project.now.k) c.args.logs.now.items are.many are.each;
}

pub loop-proc-preserved : goal.loop-proc-preserved
loop-proc-preserved c = record {
  many = length-set c.loop-proc.logs.items c.loop-proc.proc _ ∙ c.loop-proc.invariant.many;
  logs = λ from are.
      let P = c.args.project.now in
      let t = c.args.runner.now.cycle in
      let less : c.loop-proc.proc < 2 ^ P.k = omega (arith, c.loop-proc-test.true, c.processors-proc-end.ensures) in
      let part = c.loop-proc.invariant.logs from are in
      let old = log_there (IsLog P from (t + 1) t) (IsLog P from t t) (2 ^ P.k) c.loop-proc.proc c.loop-proc.logs.items _ part less c.index_mut.ensures.value in
      one_done (IsLog P from (t + 1) t) (IsLog P from t t) (2 ^ P.k) c.loop-proc.proc c.loop-proc.logs.items _ c.add_issue.new.self part less refl
      (one_issue P c.args.runner.now c.requires.at c.loop-proc.proc less from t _ c.add_issue.new.self old c.in_ok-add_issue.ensures.index c.in_ok-add_issue.ensures.issues c.add_issue.ensures.replies);
}

pub returns : goal.returns
returns c = λ from are.
    let P = c.args.project.now in
    let t = c.args.runner.now.cycle in
    all_done P from (t + 1) t (IsLog P from t t) c.loop-proc.proc c.loop-proc.logs.items (c.loop-proc.invariant.logs from are) (omega (arith, c.loop-proc-test.false, c.processors-proc-end.ensures))
