use Rattle.std.proofs.Common.{◌≡◌, ◌+◌, ◌<◌, ◌^◌, ◌∙◌, Err, All, refl, ap, sym, subst, arith}
use Rattle.std.proofs.lemmas.List.Elements.{All-nil}
use Rattle.cell_table.specs.Settling.{IsSettled, IsSpent, SettlesNext, IsAt, IsClockSpent}
use Rattle.cell_table.specs.Waves.{IsWork}
use Rattle.cell_table.proofs.Passes.{begins, of_some, of_none, few_next, goes_on}
use Rattle.machine_cells.specs.GridRules.{rp3_rules}
use Rattle.bench_core.specs.Shown.{Shown, project_of}
use Rattle.wave_workers.proofs.Settling.{settled_as, stopped_as}
use Rattle.wave_workers.proofs.wave.settle_by_waves.Goals as goal

pub overflow_add-computed : goal.overflow_add-computed
overflow_add-computed g c =
    let at = c.loop-cell.invariant.at in
    let cell = c.in-Ok-Some.cell in
    let next = of_some (SettlesNext rp3_rules c.loop-cell.bench.table c.settle_next.new.bench.table c.loop-cell.from.cycle c.loop-cell.from.component) c.in-Ok-Some.field-0 cell c.in-Ok-Some.field-0-is c.in-Ok-Some.ensures.some in
    let fits = of_some (λ cell. (cell.cycle < 2 ^ 32) × (cell.component + 1 < 2 ^ 32)) c.in-Ok-Some.field-0 cell c.in-Ok-Some.field-0-is c.in-Ok-Some.ensures.fits in
    omega (arith, few_next c.loop-cell.from.cycle c.loop-cell.from.component cell.cycle cell.component c.loop-cell.computed next.after at.few at.fits, fits.0, fits.1)

pub loop-cell-preserved : goal.loop-cell-preserved
loop-cell-preserved g c =
    let cell = c.in-Ok-Some.cell in
    let next = of_some (SettlesNext rp3_rules c.loop-cell.bench.table c.settle_next.new.bench.table c.loop-cell.from.cycle c.loop-cell.from.component) c.in-Ok-Some.field-0 cell c.in-Ok-Some.field-0-is c.in-Ok-Some.ensures.some in
    let fits = of_some (λ cell. (cell.cycle < 2 ^ 32) × (cell.component + 1 < 2 ^ 32)) c.in-Ok-Some.field-0 cell c.in-Ok-Some.field-0-is c.in-Ok-Some.ensures.fits in
    record {
      at = goes_on rp3_rules c.args.bench.now.table c.loop-cell.bench.table c.settle_next.new.bench.table c.loop-cell.from.cycle c.loop-cell.from.component c.loop-cell.computed cell c.loop-cell.invariant.at next fits.1;
      works = subst (λ s. All (IsWork rp3_rules s) c.settle_next.new.works.items) (sym next.settled.after.slots) c.in-Ok-Some.ensures.works;
      journal = c.in-Ok-Some.ensures.journal ∙ c.loop-cell.invariant.journal;
    }

pub loop-cell-init : goal.loop-cell-init
loop-cell-init g c = record {
  at = begins rp3_rules c.args.bench.now.table;
  works = subst (All (IsWork rp3_rules (project_of c.args.bench.now))) (sym c.new-works.ensures.items) (All-nil (IsWork rp3_rules (project_of c.args.bench.now)));
  journal = refl;
}

pub returns-in-Ok-None : goal.returns-in-Ok-None
returns-in-Ok-None g c =
    let from = c.loop-cell.from in
    let next = c.settle_next.new.bench in
    let none = of_none (IsSettled rp3_rules c.loop-cell.bench.table × (next ≡ c.loop-cell.bench)) c.in-Ok-None.field-0 c.in-Ok-None.field-0-is c.in-Ok-None.ensures.none in
    let at = subst (λ (v : Shown). IsAt rp3_rules c.args.bench.now.table v.table from.cycle from.component c.loop-cell.computed) (sym none.1) c.loop-cell.invariant.at in
    let settled = subst (λ (v : Shown). IsSettled rp3_rules v.table) (sym none.1) none.0 in
    settled_as c.args.bench.now next from.cycle from.component (c.in-Ok-None.ensures.journal ∙ c.loop-cell.invariant.journal) c.loop-cell.computed at c.is_bench.ensures.bench settled

pub returns-in-Err : goal.returns-in-Err
returns-in-Err g c =
    let from = c.loop-cell.from in
    let next = c.settle_next.new.bench in
    let here = subst (λ (v : Shown). IsAt rp3_rules c.args.bench.now.table v.table from.cycle from.component c.loop-cell.computed) (sym c.in-Err.ensures.err) c.loop-cell.invariant.at in
    let at = subst (λ n. IsAt rp3_rules c.args.bench.now.table next.table from.cycle from.component n) (sym c.stopped.ensures.computed) here in
    let spent : IsClockSpent c.stopped.result → IsSpent rp3_rules next.table from.cycle from.component = λ is. subst (λ (v : Shown). IsSpent rp3_rules v.table from.cycle from.component) (sym c.in-Err.ensures.err) (c.in-Err.ensures.spent (ap Err (c.stopped.ensures.spent is))) in
    stopped_as c.args.bench.now next from.cycle from.component (c.in-Err.ensures.journal ∙ c.loop-cell.invariant.journal) c.stopped.result at spent
