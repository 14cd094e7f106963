use Rattle.std.proofs.Common.{◌≡◌, ◌∙◌, ℕ, List, [], ap, map, refl, subst, sym, Vec, Global}
use Rattle.std.specs.List.{AllZip}
use Rattle.bench_core.specs.Shown.{project_of}
use Rattle.lab_tasks.specs.declared.swept.Setting.{Setting}
use Rattle.lab_tasks.specs.Sweeps.{rows_of}
use Rattle.lab_tasks.specs.SweepTables.{IsRow}
use Rattle.lab_tasks.proofs.SweepRows.{row-read, row-done, rows-end}
use Rattle.lab_tasks.proofs.sweep.rows_told.Goals as goal

pub loop-settings-init : goal.loop-settings-init
loop-settings-init g c = record {
  bench = λ row e. refl;
  rows = subst (λ (rows : List (List (List ℕ))). AllZip (IsRow c.args.form (project_of c.args.bench.now) c.args.askings.now) [] rows) (sym c.new-told.ensures.items) tt;
}

pub loop-settings-preserved : goal.loop-settings-preserved
loop-settings-preserved g c =
    let items = λ (row : Vec Setting Global). row.items in
    let read : map items c.as_slice-settings-items.result.now ≡ rows_of c.args.all.now = ap (map items) c.as_slice-settings-items.ensures.value ∙ c.in_ok-rows.ensures in
    let at =
    row-read items c.as_slice-settings-items.result.now c.args.all.now c.loop-settings.settings-index c.settings-item.result c.as_slice.result.now
    read c.loop-settings-test.true c.settings-item.is c.as_slice.ensures.value in
    let next =
    row-done c.args.form c.args.all.now (project_of c.args.bench.now) (project_of c.loop-settings.bench) (project_of c.row_told.new.bench) c.args.askings.now c.loop-settings.settings-index
    c.as_slice.result.now c.in_ok-row.row c.loop-settings.told.items c.push.new.self.items
    at c.loop-settings.invariant.bench c.loop-settings.invariant.rows c.in_ok-row.ensures.row c.in_ok-row.ensures.project c.in_ok-push.ensures.items in
    record { bench = next.0; rows = next.1 }

pub returns-clause-rows : goal.returns-clause-rows
returns-clause-rows g c =
    let items = λ (row : Vec Setting Global). row.items in
    let read : map items c.as_slice-settings-items.result.now ≡ rows_of c.args.all.now = ap (map items) c.as_slice-settings-items.ensures.value ∙ c.in_ok-rows.ensures in
    rows-end items c.as_slice-settings-items.result.now c.args.all.now (IsRow c.args.form (project_of c.args.bench.now) c.args.askings.now) c.loop-settings.settings-index
    c.loop-settings.told.items read c.loop-settings-test.false c.loop-settings.invariant.rows
