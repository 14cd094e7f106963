use Rattle.std.proofs.Common.{arith}
use Rattle.flat_row.proofs.Shifting.{moved_down}
use Rattle.flat_row.proofs.queue.move_down.Goals as goal

pub returns-clause-moved : goal.returns-clause-moved
returns-clause-moved g c = moved_down c.args.messages.now c.loop-i.messages c.args.from c.args.last c.loop-i.i c.requires.order c.requires.there (omega (arith, c.loop-i-test.false)) c.loop-i.invariant
