use Rattle.std.proofs.Common.{rules, refl}
use Rattle.cell_table.specs.declared.given.Given.TheVariants.{Stored}
use Rattle.bench_core.specs.Answers.{after_give}
use Rattle.bench_core.specs.Shown.{Shown}
use Rattle.bench_core.proofs.Happening.{not_stored, give_stands, clock_is_given}
use Rattle.bench_core.proofs.Keeping.{holds_still, inside_still, true_of_equal}
use Rattle.whole_rows.specs.Rows.{AreRowsOf}
use Rattle.bench_core.proofs.bench.Bench.give.Goals as goal

pub stored-requires : goal.stored-requires
stored-requires c =
    let gives = c.in-Stored.ensures.headline_foreign in
    rw c.cell-cell.ensures (c.self.inside.table, (c.self.invariant.0.short, c.self.invariant.1), record { there = gives.0.there; state = c.args.done.state; changed = c.in-Stored.changed; after = gives.2 })

pub invariant_of-self : goal.invariant_of-self
invariant_of-self c =
    let i = c.self.inside in
    let after = c.in-Stored.ensures.headline_foreign.2 in
    let behind = c.self.invariant.2 in
    let old : Shown = record { table = i.table; journal = i.journal.items } in
    let new : Shown = record { table = c.give.new.self; journal = i.journal.items } in
    inside_still i.table c.give.new.self i.counters _ i.journal.items i.recent (λ P. AreRowsOf P i.rows) (λ P. AreRowsOf P i.rows) c.self.invariant after.slots after.horizon c.stored.ensures.1
    (behind.0, after_give (Stored c.in-Stored.changed) c.args.done behind.1, give_stands old new c.args.done (Stored c.in-Stored.changed) refl c.in-Stored.ensures.headline_stands behind.0 behind.1 behind.2)
    (true_of_equal i.table.slots c.give.new.self.slots (λ P. AreRowsOf P i.rows) after.slots c.self.invariant.4)

pub invariant_of-self-in_default : goal.invariant_of-self-in_default
invariant_of-self-in_default c =
    let i = c.self.inside in
    holds_still i.table c.give.new.self i.counters i.journal.items i.journal.items i.recent (λ P. AreRowsOf P i.rows) (not_stored i.table c.give.new.self c.args.done c.give.result c.give.ensures.headline_foreign (search rules)) refl c.self.invariant

pub returns-in-Stored-clause-headline_stands : goal.returns-in-Stored-clause-headline_stands
returns-in-Stored-clause-headline_stands c =
    let i = c.self.inside in
    rw (← c.self.view_is) (give_stands (record { table = i.table; journal = i.journal.items }) (record { table = c.give.new.self; journal = i.journal.items }) c.args.done (Stored c.in-Stored.changed) refl c.in-Stored.ensures.headline_stands)

pub returns-in-Stored-clause-headline_gives : goal.returns-in-Stored-clause-headline_gives
returns-in-Stored-clause-headline_gives c = rw (← c.self.view_is) (λ o h n stands. c.in-Stored.ensures.headline_gives _ _ n stands.table)

pub returns-in_default : goal.returns-in_default
returns-in_default c =
    let i = c.self.inside in
    let gives = c.give.ensures.headline_foreign in
    rw (← c.self.view_is) record {
      headline_foreign = gives;
      journal = refl;
      project = rw (not_stored i.table c.give.new.self c.args.done c.give.result gives (search rules)) refl;
      clock = clock_is_given i.table c.give.new.self c.args.done c.give.result gives;
      headline_stands = give_stands (record { table = i.table; journal = i.journal.items }) (record { table = c.give.new.self; journal = i.journal.items }) c.args.done c.give.result refl c.give.ensures.headline_stands;
      headline_gives = λ o h n stands. c.give.ensures.headline_gives _ _ n stands.table;
    }
