use Rattle.std.proofs.Common.{◌^◌}
use Rattle.change_lists.proofs.Places.{next_from, next_none, next_there}
use Rattle.change_lists.proofs.begun.next_begin.Goals as goal

pub returns-clause-from : goal.returns-clause-from
returns-clause-from g c = rw c.begin_or.ensures (next_from (2 ^ 32) c.args.t c.args.to c.place.result c.args.begun.now c.requires c.ranges.t.fits c.place.ensures)

pub returns-clause-none : goal.returns-clause-none
returns-clause-none g c = rw c.begin_or.ensures (next_none (2 ^ 32) c.args.t c.args.to c.place.result c.args.begun.now c.requires c.ranges.t.fits c.place.ensures)

pub returns-clause-there : goal.returns-clause-there
returns-clause-there g c = rw c.begin_or.ensures (next_there (2 ^ 32) c.args.t c.args.to c.place.result c.args.begun.now)
