use Rattle.std.proofs.Common.{◌≡◌, ◌∙◌, sym, subst, Result, Ok, Err, OnOk, true}
use Rattle.std.specs.Result.{is_ok}
use Rattle.monitor_sums.specs.Kept.{StandsFor}
use Rattle.monitor_sums.specs.Sums.{States, changed}
use Rattle.bench_core.specs.Shown.{held, IsCounted, AreCounted}
use Rattle.bench_core.proofs.Counting.{short_still, counted_stored}
use Rattle.bench_core.proofs.counters.CountersWatcherRp3.stored.Goals.{in-Some-1, in-None-1}
use Rattle.bench_core.proofs.counters.CountersWatcherRp3.stored.Goals as goal

-- what holds where there is a value holds there
where_ok : {T E : Type 0} (r : Result T E) (A : Type 0) → is_ok r ≡ true → OnOk r A → A
where_ok (Ok x) A h a = a
where_ok (Err x) A h a = cc

pub returns-then-is_ok : goal.returns-then-is_ok
returns-then-is_ok c =
    let cell = c.args.cell in
    let stored = c.requires.2 in
    let sums = c.in-Some.sums in
    let new = c.count_cell.new.sums in
    let were : AreCounted c.self.inside.sums c.requires.0 = rw (← c.self.view_is) at c.requires.1.1 in
    let counts : IsCounted sums c.requires.0 = subst (λ o. AreCounted o c.requires.0) (sym c.take.ensures.value ∙ c.in-Some.is) were in
    let counted : (at : States) → StandsFor sums at → StandsFor new (changed at cell.cycle cell.component (held c.args.table.now cell.cycle cell.component))
    = where_ok c.count_cell.result _ (sym c.is_ok.ensures.value ∙ c.if-is_ok.true) c.count_cell.ensures.stands in
    let all : IsCounted new c.args.table.now =
    counted_stored sums new c.requires.0 c.args.table.now counts c.count_cell.ensures.shape c.count_cell.ensures.last cell.cycle cell.component stored.state stored.changed stored.there stored.after counted in
    (short_still c.requires.0 c.args.table.now stored.after.slots stored.after.horizon c.requires.1.0, elim c.match-self.branch [ in-Some-1 w ↦ rw w.self-is all | in-None-1 w ↦ rw w.self-is all ])
