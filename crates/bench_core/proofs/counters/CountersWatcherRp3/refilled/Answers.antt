use Rattle.std.proofs.Common.{◌≡◌, ◌∙◌, sym, subst, Result, Ok, Err, OnOk, true}
use Rattle.std.specs.Result.{is_ok}
use Rattle.monitor_sums.specs.Kept.{StandsFor}
use Rattle.monitor_sums.specs.Sums.{States}
use Rattle.bench_core.specs.Shown.{held, IsCounted, AreCounted, present}
use Rattle.bench_core.specs.Filling.{filled_over}
use Rattle.bench_core.proofs.Counting.{short_still}
use Rattle.bench_core.proofs.Filling.{counted_refilled}
use Rattle.bench_core.proofs.counters.CountersWatcherRp3.refilled.Goals.{in-Some-1, in-None-1}
use Rattle.bench_core.proofs.counters.CountersWatcherRp3.refilled.Goals as goal

-- what holds where there is a value holds there
where_ok : {T E : Type 0} (r : Result T E) (A : Type 0) → is_ok r ≡ true → OnOk r A → A
where_ok (Ok x) A h a = a
where_ok (Err x) A h a = cc

pub returns-then-is_ok : goal.returns-then-is_ok
returns-then-is_ok c =
    let before = c.requires.0 in
    let is = c.requires.2 in
    let sums = c.in-Some.sums in
    let new = c.count_ranges.new.sums in
    let were : AreCounted c.self.inside.sums before = rw (← c.self.view_is) at c.requires.1.1 in
    let counts : IsCounted sums before = subst (λ o. AreCounted o before) (sym c.take.ensures.value ∙ c.in-Some.is) were in
    let counted : (at : States) → StandsFor sums at → StandsFor new (filled_over at (held c.args.table.now) c.args.ranges.now)
    = where_ok c.count_ranges.result _ (sym c.is_ok.ensures.value ∙ c.if-is_ok.true) c.count_ranges.ensures.stands in
    let all : IsCounted new c.args.table.now =
    counted_refilled sums new before c.args.table.now c.args.ranges.now counts is c.count_ranges.ensures.shape c.count_ranges.ensures.last (counted (present before) counts.counts) in
    (short_still before c.args.table.now is.slots is.horizon c.requires.1.0, elim c.match-self.branch [ in-Some-1 w ↦ rw w.self-is all | in-None-1 w ↦ rw w.self-is all ])
