use Rattle.std.proofs.Common.{refl}
use Rattle.bench_core.specs.Shown.{Shown}
use Rattle.bench_core.proofs.Happening.{settle_all, settle_some, history_settled}
use Rattle.bench_core.proofs.Keeping.{inside_still}
use Rattle.bench_core.proofs.Waiting.{ready}
use Rattle.whole_rows.specs.Rows.{AreRowsOf}
use Rattle.bench_core.proofs.bench.Bench.settle.Goals as goal

pub settle_rows-requires : goal.settle_rows-requires
settle_rows-requires c = record { tended = record { watched = (c.self.invariant.0.short, c.self.invariant.1); beside = c.self.invariant.4 } }

pub invariant_of-self : goal.invariant_of-self
invariant_of-self c =
    let i = c.self.inside in
    let settled = c.settle_rows.ensures in
    let old : Shown = record { table = i.table; journal = i.journal.items } in
    let new : Shown = record { table = c.settle_rows.new.self; journal = i.journal.items } in
    let history = history_settled old new c.settle_rows.result (settle_all old new refl c.settle_rows.result settled.headline_settles) (settle_some old new refl c.settle_rows.result settled.after_fault) c.self.invariant.2 in
    inside_still i.table c.settle_rows.new.self i.counters c.settle_rows.new.watcher i.journal.items i.recent (λ P. AreRowsOf P i.rows) (λ P. AreRowsOf P c.settle_rows.new.beside) c.self.invariant settled.later.slots settled.later.horizon settled.tended.watched.1 history settled.tended.beside

pub returns-clause-headline_settles : goal.returns-clause-headline_settles
returns-clause-headline_settles c =
    let i = c.self.inside in
    rw (← c.self.view_is) (settle_all (record { table = i.table; journal = i.journal.items }) (record { table = c.settle_rows.new.self; journal = i.journal.items }) refl c.settle_rows.result c.settle_rows.ensures.headline_settles)

pub returns-clause-after_fault : goal.returns-clause-after_fault
returns-clause-after_fault c =
    let i = c.self.inside in
    rw (← c.self.view_is) (settle_some (record { table = i.table; journal = i.journal.items }) (record { table = c.settle_rows.new.self; journal = i.journal.items }) refl c.settle_rows.result c.settle_rows.ensures.after_fault)

pub returns-clause-ready : goal.returns-clause-ready
returns-clause-ready c = ready c.settle_rows.result (record { table = c.settle_rows.new.self; journal = c.self.inside.journal.items }) (invariant_of-self c).0 c.settle_rows.ensures.settled
