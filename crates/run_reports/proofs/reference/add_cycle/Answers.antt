use Rattle.std.proofs.Common.{◌+◌, ◌^◌, ◌<◌, refl, ◌∙◌, arith}
use Rattle.std.proofs.Math.ListN.{length-set}
use Rattle.run_reports.specs.Logs.{IsLog}
use Rattle.run_reports.proofs.Logging.{all_done, log_there, none_done, one_done}
use Rattle.run_reports.proofs.reference.add_cycle.Goals as goal

pub loop-proc-init : goal.loop-proc-init
loop-proc-init c = record {
  many = c.requires.many;
  logs = λ are.
      let t = c.args.runner.now.cycle in
      none_done (IsLog c.args.project.now (t + 1)) (IsLog c.args.project.now t) (2 ^ c.args.project.now.k) c.args.logs.now.items are.many are.each;
}

pub loop-proc-preserved : goal.loop-proc-preserved
loop-proc-preserved c = record {
  many = length-set c.loop-proc.logs.items c.loop-proc.proc _ ∙ c.loop-proc.invariant.many;
  logs = λ are.
      let P = c.args.project.now in
      let t = c.args.runner.now.cycle in
      let less : c.loop-proc.proc < 2 ^ P.k = omega (arith, c.loop-proc-test.true, c.processors-proc-end.ensures) in
      let part = c.loop-proc.invariant.logs are in
      let old = log_there (IsLog P (t + 1)) (IsLog P t) (2 ^ P.k) c.loop-proc.proc c.loop-proc.logs.items _ part less c.index_mut.ensures.value in
      one_done (IsLog P (t + 1)) (IsLog P t) (2 ^ P.k) c.loop-proc.proc c.loop-proc.logs.items _ c.add_cycle.new.self part less refl (c.in_ok-add_cycle.ensures old);
}

pub returns : goal.returns
returns c = λ are.
    let P = c.args.project.now in
    let t = c.args.runner.now.cycle in
    all_done P (t + 1) (IsLog P t) c.loop-proc.proc c.loop-proc.logs.items (c.loop-proc.invariant.logs are) (omega (arith, c.loop-proc-test.false, c.processors-proc-end.ensures))
