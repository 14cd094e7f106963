use Rattle.std.proofs.Common.{rules, refl, Err, [], ◌∷◌}
use Rattle.cell_table.specs.declared.given.Settled.{Settled}
use Rattle.cell_table.specs.declared.given.SettleFault.TheVariants.{Memory}
use Rattle.cell_table.specs.Settling.{SettlesNext}
use Rattle.cell_table.specs.Events.{Stores}
use Rattle.cell_table.proofs.Passes.{of_some}
use Rattle.cell_table.proofs.Waves.{step_settled}
use Rattle.grid_law.specs.Run.{run}
use Rattle.machine_cells.specs.GridRules.{rp3_rules}
use Rattle.machine_cells.specs.GridLaws.{rp3_laws}
use Rattle.bench_core.specs.Shown.{Shown}
use Rattle.bench_core.proofs.Happening.{settle_some, history_settled}
use Rattle.bench_core.proofs.Keeping.{holds_still, inside_still, true_of_equal}
use Rattle.whole_rows.specs.Rows.{AreRowsOf}
use Rattle.bench_core.proofs.bench.Bench.settle_work.Goals as goal

pub stored-requires : goal.stored-requires
stored-requires c =
    let i = c.self.inside in
    let next = of_some (SettlesNext rp3_rules i.table c.settle_work.new.self c.args.from.cycle c.args.from.component) c.in-Ok-Some.field-0 c.in-Ok-Some.cell c.in-Ok-Some.field-0-is c.in-Ok-Some.ensures.some in
    (i.table, (c.self.invariant.0.short, c.self.invariant.1), record { there = next.settled.there; state = _; changed = next.changed; after = next.settled.after })

pub invariant_of-self : goal.invariant_of-self
invariant_of-self c =
    let i = c.self.inside in
    let cell = c.in-Ok-Some.cell in
    let next = of_some (SettlesNext rp3_rules i.table c.settle_work.new.self c.args.from.cycle c.args.from.component) c.in-Ok-Some.field-0 cell c.in-Ok-Some.field-0-is c.in-Ok-Some.ensures.some in
    let after = next.settled.after in
    let old : Shown = record { table = i.table; journal = i.journal.items } in
    let new : Shown = record { table = c.settle_work.new.self; journal = i.journal.items } in
    let one = settle_some old new refl {T = Settled} (Err (Memory 1))
    (Stores cell.cycle cell.component (run rp3_rules i.table.slots cell.cycle cell.component) next.changed ∷ [], λ o h stands. step_settled rp3_rules rp3_laws i.table c.settle_work.new.self c.args.from.cycle c.args.from.component cell next o h stands) in
    inside_still i.table c.settle_work.new.self i.counters _ i.journal.items i.recent (λ P. AreRowsOf P i.rows) (λ P. AreRowsOf P i.rows) c.self.invariant after.slots after.horizon c.stored.ensures.1 (history_settled old new (Err (Memory 1)) tt one c.self.invariant.2) (true_of_equal i.table.slots c.settle_work.new.self.slots (λ P. AreRowsOf P i.rows) after.slots c.self.invariant.4)

pub invariant_of-self-in-Ok-None : goal.invariant_of-self-in-Ok-None
invariant_of-self-in-Ok-None c =
    let i = c.self.inside in
    holds_still i.table c.settle_work.new.self i.counters i.journal.items i.journal.items i.recent (λ P. AreRowsOf P i.rows) (search rules) refl c.self.invariant

pub invariant_of-self-in-Err : goal.invariant_of-self-in-Err
invariant_of-self-in-Err c =
    let i = c.self.inside in
    holds_still i.table c.settle_work.new.self i.counters i.journal.items i.journal.items i.recent (λ P. AreRowsOf P i.rows) (search rules) refl c.self.invariant
