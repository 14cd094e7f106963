use Rattle.std.proofs.Common.{◌/◌, arith, rules}
use Rattle.mem_module.proofs.Rows.{narrower}
use Rattle.mem_module.proofs.words.last_up_to.Goals as goal

-- half of the places are left
pub loop-size-preserved : goal.loop-size-preserved
loop-size-preserved c =
    narrower c.args.stored.now c.args.row c.loop-size.base c.loop-size.size (c.loop-size.size / 2) c.loop-size.invariant (omega (arith, c.loop-size-test.true)) (omega arith) c.requires.ascending c.one_up_to.result (search rules) (search rules)
