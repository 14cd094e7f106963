use Rattle.std.proofs.Common.{refl}
use Rattle.bench_core.specs.Shown.{Shown}
use Rattle.bench_core.proofs.Happening.{settle_all_to, settle_some_to, history_settled_to}
use Rattle.bench_core.proofs.Keeping.{inside_still}
use Rattle.bench_core.proofs.Waiting.{ready_to}
use Rattle.whole_rows.specs.Rows.{AreRowsOf}
use Rattle.bench_core.proofs.bench.Bench.settle_to.Goals as goal

pub settle_rows_to-requires : goal.settle_rows_to-requires
settle_rows_to-requires c = record { tended = record { watched = (c.self.invariant.0.short, c.self.invariant.1); beside = c.self.invariant.4 } }

pub invariant_of-self : goal.invariant_of-self
invariant_of-self c =
    let i = c.self.inside in
    let settled = c.settle_rows_to.ensures in
    let old : Shown = record { table = i.table; journal = i.journal.items } in
    let new : Shown = record { table = c.settle_rows_to.new.self; journal = i.journal.items } in
    let history = history_settled_to c.args.last old new c.settle_rows_to.result (settle_all_to c.args.last old new refl c.settle_rows_to.result settled.headline_settles) (settle_some_to c.args.last old new refl c.settle_rows_to.result settled.after_fault) c.self.invariant.2 in
    inside_still i.table c.settle_rows_to.new.self i.counters c.settle_rows_to.new.watcher i.journal.items i.recent (λ P. AreRowsOf P i.rows) (λ P. AreRowsOf P c.settle_rows_to.new.beside) c.self.invariant settled.later.slots settled.later.horizon settled.tended.watched.1 history settled.tended.beside

pub returns-clause-headline_settles : goal.returns-clause-headline_settles
returns-clause-headline_settles c =
    let i = c.self.inside in
    rw (← c.self.view_is) (settle_all_to c.args.last (record { table = i.table; journal = i.journal.items }) (record { table = c.settle_rows_to.new.self; journal = i.journal.items }) refl c.settle_rows_to.result c.settle_rows_to.ensures.headline_settles)

pub returns-clause-after_fault : goal.returns-clause-after_fault
returns-clause-after_fault c =
    let i = c.self.inside in
    rw (← c.self.view_is) (settle_some_to c.args.last (record { table = i.table; journal = i.journal.items }) (record { table = c.settle_rows_to.new.self; journal = i.journal.items }) refl c.settle_rows_to.result c.settle_rows_to.ensures.after_fault)

pub returns-clause-ready : goal.returns-clause-ready
returns-clause-ready c = ready_to c.settle_rows_to.result c.args.last (record { table = c.settle_rows_to.new.self; journal = c.self.inside.journal.items }) (invariant_of-self c).0 c.settle_rows_to.ensures.settled
