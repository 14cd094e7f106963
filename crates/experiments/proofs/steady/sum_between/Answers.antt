use Rattle.std.proofs.Common.{sym, arith}
use Rattle.monitor_sums.proofs.Adding.{sum_none}
use Rattle.experiments.proofs.steady.sum_between.Goals as goal

pub loop-place-init : goal.loop-place-init
loop-place-init c = (sym (sum_none _), omega arith)
