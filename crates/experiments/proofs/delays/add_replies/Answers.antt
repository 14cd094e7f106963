use Rattle.std.proofs.Common.{◌+◌, ◌^◌, ◌<◌, refl, ◌∙◌, arith}
use Rattle.std.proofs.Math.ListN.{length-set}
use Rattle.experiments.specs.Logs.{IsLog}
use Rattle.experiments.proofs.Logging.{all_done, log_there, no_replies, none_done, one_done, one_reply}
use Rattle.experiments.proofs.delays.add_replies.Goals as goal

pub returns-then-runner-from : goal.returns-then-runner-from
returns-then-runner-from c = λ n are. no_replies c.args.project.now c.args.from n c.args.runner.now.cycle c.args.logs.now.items (omega (arith, c.if-runner-from.true)) are

pub loop-proc-init : goal.loop-proc-init
loop-proc-init c = record {
  many = c.requires.many;
  logs = λ n are.
      let t = c.args.runner.now.cycle in
      none_done (IsLog c.args.project.now c.args.from n (t + 1)) (IsLog c.args.project.now c.args.from n t) (2 ^ c.args.project.now.k) c.args.logs.now.items are.many are.each;
}

pub loop-proc-preserved : goal.loop-proc-preserved
loop-proc-preserved c = record {
  many = length-set c.loop-proc.logs.items c.loop-proc.proc _ ∙ c.loop-proc.invariant.many;
  logs = λ n are.
      let P = c.args.project.now in
      let t = c.args.runner.now.cycle in
      let from = c.args.from in
      let less : c.loop-proc.proc < 2 ^ P.k = omega (arith, c.loop-proc-test.true, c.processors-proc-end.ensures) in
      let part = c.loop-proc.invariant.logs n are in
      let old = log_there (IsLog P from n (t + 1)) (IsLog P from n t) (2 ^ P.k) c.loop-proc.proc c.loop-proc.logs.items _ part less c.index_mut.ensures.value in
      one_done (IsLog P from n (t + 1)) (IsLog P from n t) (2 ^ P.k) c.loop-proc.proc c.loop-proc.logs.items _ c.add_replies.new.self part less refl
      (one_reply P c.args.runner.now c.requires.at c.loop-proc.proc less from n _ c.add_replies.new.self old (omega (arith, c.if-runner-from.false)) c.in_ok-add_replies.ensures.replies c.add_replies.ensures.index c.add_replies.ensures.issues);
}

pub returns : goal.returns
returns c = λ n are.
    let P = c.args.project.now in
    let t = c.args.runner.now.cycle in
    all_done P c.args.from n (t + 1) (IsLog P c.args.from n t) c.loop-proc.proc c.loop-proc.logs.items (c.loop-proc.invariant.logs n are) (omega (arith, c.loop-proc-test.false, c.processors-proc-end.ensures))
