use Rattle.std.proofs.Common.{rules, Ok, ◌≡◌, ◌+◌, ◌∙◌, sym, ap, refl, [], ◌∷◌, ◌++◌, length}
use Rattle.std.proofs.lemmas.List.{length_push}
use Rattle.std.specs.Option.{unwrap_or, IfSome}
use Rattle.cell_table.specs.Touches.{IsAfterTouch}
use Rattle.machine_cells.specs.GridRules.{rp3_rules}
use Rattle.monitor_sums.specs.Kept.{StandsFor}
use Rattle.monitor_sums.specs.Sums.{States, cleared}
use Rattle.project_book.specs.Slots.{Touches}
use Rattle.project_book.specs.Edits.{edited, new_horizon}
use Rattle.bench_core.specs.Shown.{last_counted, IsBench}
use Rattle.bench_core.proofs.Admitting.{admitted_room, admitted_clock}
use Rattle.bench_core.specs.Stands.{HasHistory}
use Rattle.bench_core.specs.Events.{Edited}
use Rattle.bench_core.proofs.Standing.{stands_edited, edit_stands, edit_costed}
use Rattle.bench_core.specs.Recent.{AreTold}
use Rattle.bench_core.proofs.Keeping.{told_later, holds_still}
use Rattle.bench_core.proofs.Touching.{bench_edited, after_edit, differ, to}
use Rattle.bench_core.proofs.Counting.{last_edited, counted_to, are_touched}
use Rattle.whole_rows.specs.Rows.{AreRowsOf}
use Rattle.bench_core.proofs.bench.Bench.edit.Goals as goal

pub forget-requires : goal.forget-requires
forget-requires c = counted_to c.self.inside.counters c.self.inside.table c.horizon-before.result c.self.invariant.1 c.self.invariant.0.short c.horizon-before.ensures

pub invariant_of-self : goal.invariant_of-self
invariant_of-self c =
    let i = c.self.inside in
    holds_still i.table i.table i.counters i.journal.items c.reserve.new.self.items i.recent (λ P. AreRowsOf P i.rows) refl (search rules) c.self.invariant

pub invariant_of-self-in-Err-touch : goal.invariant_of-self-in-Err-touch
invariant_of-self-in-Err-touch c =
    let i = c.self.inside in
    holds_still i.table c.touch.new.self i.counters i.journal.items c.reserve.new.self.items i.recent (λ P. AreRowsOf P i.rows) (search rules) (search rules) c.self.invariant

pub invariant_of-self-2 : goal.invariant_of-self-2
invariant_of-self-2 c =
    let old = c.self.inside.table in
    let new = c.touch.new.self in
    let next = c.in-Ok.made.0 in
    let listed = c.in-Ok.made.1.slots.items in
    let horizon = c.in-Ok.made.1.horizon in
    let is : next ≡ edited old.slots c.args.edit = rw (← c.self.view_is) at c.in-Ok.ensures.edited in
    let touches : Touches old.slots next listed = rw (← c.self.view_is) at c.in-Ok.ensures.slots in
    let moved : horizon ≡ new_horizon old.slots next = rw (← c.self.view_is) at c.in-Ok.ensures.horizon in
    let touched : IsAfterTouch rp3_rules old new next listed (unwrap_or horizon old.horizon) = c.in-Ok-touch.ensures.ok in
    let end = to old new c.self.inside.journal.items c.args.author c.args.edit next listed horizon c.self.invariant.0 is touches moved touched in
    let bench : IsBench new c.push_reserved.new.self.items = search (rules, bench_edited, admitted_room) in
    let noted : c.push_reserved.new.self.items ≡ c.self.inside.journal.items ++ record { author = c.args.author; edit = c.args.edit } ∷ [] = search rules in
    let behind = c.self.invariant.2 in
    let after = after_edit old new c.self.inside.journal.items c.args.author c.args.edit next listed horizon c.self.invariant.0 is touches moved touched in
    let history : HasHistory (record { table = new; journal = c.push_reserved.new.self.items }) =
    rw noted (behind.0, Edited c.args.author c.args.edit after.listed ∷ behind.1, stands_edited behind.0 (record { table = old; journal = c.self.inside.journal.items }) behind.1 behind.2 (record { table = new; journal = c.self.inside.journal.items ++ record { author = c.args.author; edit = c.args.edit } ∷ [] }) c.args.author c.args.edit (search rules) after) in
    let recent : AreTold new.slots (length c.push_reserved.new.self.items) c.self.inside.recent =
    rw (noted, length_push c.self.inside.journal.items (record { author = c.args.author; edit = c.args.edit })) (told_later old.slots (length c.self.inside.journal.items) c.self.inside.recent c.self.invariant.3 new.slots) in
    let at_end : c.horizon-to.result ≡ new.horizon = c.horizon-to.ensures.horizon ∙ sym (touched.horizon ∙ end) in
    let clears : IfSome c.self.inside.counters (λ s. IfSome c.forget.new.self (λ n. (at : States) → StandsFor s at → StandsFor n (cleared at (new.horizon + 1) old.horizon))) = rw (at_end, c.horizon-before.ensures) at c.forget.ensures.stands in
    (bench, are_touched c.self.inside.counters c.forget.new.self old new c.self.invariant.1 c.forget.ensures.there c.forget.ensures.shape c.forget.ensures.last (unwrap_or horizon old.horizon) next listed (sym touches.shape) (ap last_counted is ∙ last_edited old.slots c.args.edit) touched clears, history, recent, search rules)

pub returns-clause-ok : goal.returns-clause-ok
returns-clause-ok c = search (rules, differ, admitted_room, admitted_clock)

pub returns-clause-headline_stands : goal.returns-clause-headline_stands
returns-clause-headline_stands c =
    edit_stands c.args.self.now (record { table = c.touch.new.self; journal = c.push_reserved.new.self.items }) c.args.author c.args.edit {E = Unit {0}} (Ok 0) c.in-Ok.ensures.admitted (returns-clause-ok c)

pub returns-clause-cost : goal.returns-clause-cost
returns-clause-cost c =
    edit_costed c.args.self.now (record { table = c.touch.new.self; journal = c.push_reserved.new.self.items }) c.args.author c.args.edit {E = Unit {0}} (Ok 0) (returns-clause-ok c)
