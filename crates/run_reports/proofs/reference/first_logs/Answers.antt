use Rattle.std.proofs.Common.{◌^◌, ◌<◌, sym, subst, arith}
use Rattle.run_reports.proofs.Logging.{all_first, first_log, none_first, one_first, First}
use Rattle.run_reports.proofs.reference.first_logs.Goals as goal

pub loop-proc-init : goal.loop-proc-init
loop-proc-init c = subst (First c.args.project.now 0) (sym c.new-logs.ensures.items) (none_first c.args.project.now)

pub loop-proc-preserved : goal.loop-proc-preserved
loop-proc-preserved c =
    let P = c.args.project.now in
    let less : c.loop-proc.proc < 2 ^ P.k = omega (arith, c.loop-proc-test.true, c.processors-proc-end.ensures) in
    one_first P c.loop-proc.proc c.loop-proc.logs.items _ c.new.result c.loop-proc.invariant c.in-Ok.ensures.items
    (first_log P c.args.runner.now c.requires.at c.loop-proc.proc less c.requires.first c.new.result c.new.ensures.index c.new.ensures.references)

pub returns : goal.returns
returns c = all_first c.args.project.now c.loop-proc.proc c.loop-proc.logs.items c.loop-proc.invariant (omega (arith, c.loop-proc-test.false, c.loop-proc.auto.proc-end, c.processors-proc-end.ensures))
