use Rattle.std.proofs.Common.{arith}
use Rattle.std.proofs.lemmas.Bool.Decides.{nat_tests}
use Rattle.monitor_sums.proofs.counts.extend.Goals as goal

pub returns-clause-each : goal.returns-clause-each
returns-clause-each c t =
    let is = c.loop-new.invariant.each t in
    let longer = c.loop-new.invariant.longer in
    let within = c.loop-new.invariant.within in
    grind (arith, nat_tests)
