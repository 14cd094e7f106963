use Rattle.std.proofs.Common.{◌≡◌, ℕ, ◌+◌, ◌-◌, ◌*◌, ◌^◌, ◌<◌, ◌≤◌, ◌||◌, ◌∙◌, refl, sym, ap, subst, arith, length, false}
use Rattle.std.proofs.lemmas.List.{length-replicate}
use Rattle.std.proofs.lemmas.List.Sums.{count_by-le-length}
use Rattle.cell_marks.specs.Marked.{count_in}
use Rattle.due_cells.specs.Seen.{Held, Seen, held_at, row_at, due_in_row}
use Rattle.cell_table.specs.Consistent.{IsWhole}
use Rattle.cell_states.specs.Filling.{is_awake}
use Rattle.due_cells.specs.Woken.{woken}
use Rattle.cell_table.specs.Settling.{NoneDueBefore, IsAt}
use Rattle.cell_table.specs.Advances.{Advances, PassesCycles}
use Rattle.cell_table.specs.Passing.{HoldsBut}
use Rattle.cell_states.specs.Versions.{any_changes}
use Rattle.cell_table.specs.Repeating.{BeginsAlike, StaysAlike, AreDueAlike}
use Rattle.cell_table.proofs.Held.{kept_alike, kept_behind}
use Rattle.cell_table.proofs.Passing.{woken_state}
use Rattle.cell_table.proofs.Passes.{begins_at, further_cycle}
use Rattle.cell_table.proofs.Repeated.{room_changed, stays_less, goes_on_to, stays_table, holds_but, ranges_within}
use Rattle.cell_table.proofs.table.Table.settle_alike.Goals as goal

pub mark_changed-requires-clause-fits : goal.mark_changed-requires-clause-fits
mark_changed-requires-clause-fits g c =
    let R = g.G.Grid.rules in
    let i = c.self.inside in
    let n = c.components-count.result in
    let e = c.due_alike_to-end.result in
    let m = e - c.args.cycle in
    let changes = c.begins_alike.new.changes in
    let wide : length c.args.spare.now.changes ≡ R.components i.slots = (rw (← c.self.view_is) at c.requires.spare).wide.changes in
    let width : length changes ≡ n = c.begins_alike.ensures.len ∙ ap length c.clear_all.ensures ∙ length-replicate (length c.args.spare.now.changes) false ∙ wide ∙ sym c.components-count.ensures in
    let few : count_in changes ≤ n = omega (arith, count_by-le-length (λ b. b) changes, width) in
    let room : i.clock + m * n < 2 ^ 64 = c.has_room.ensures c.if-not-has_room.false in
    let some : 0 < m = omega (arith, c.due_alike_to-end.ensures.after) in
    let is_before : c.clock_filled-before.result ≡ i.clock + (m - 1) * count_in changes = c.clock_filled-before.ensures ∙ ap (λ k. i.clock + (m - 1) * k) c.count-changed.ensures in
    omega (arith, is_before, width, room_changed i.clock m n (count_in changes) some few room)

pub mark_changed-requires-clause-width : goal.mark_changed-requires-clause-width
mark_changed-requires-clause-width g c =
    let R = g.G.Grid.rules in
    let i = c.self.inside in
    let spare = rw (← c.self.view_is) at c.requires.spare in
    let wide : length c.args.spare.now.changes ≡ R.components i.slots = spare.wide.changes in
    let reached : length c.args.spare.now.reached ≡ R.components i.slots = spare.wide.reached in
    let width : length c.begins_alike.new.changes ≡ R.components i.slots = c.begins_alike.ensures.len ∙ ap length c.clear_all.ensures ∙ length-replicate (length c.args.spare.now.changes) false ∙ wide in (
      width,
      c.reach_in.ensures.len ∙ reached,
      omega (arith, width, c.components-count.ensures, c.in-Ok-make.ensures),
    )

pub mark_changed-requires-clause-reached : goal.mark_changed-requires-clause-reached
mark_changed-requires-clause-reached g c = c.reach_in.ensures.reached

pub invariant_of-self-2 : goal.invariant_of-self-2
invariant_of-self-2 g c =
    let R = g.G.Grid.rules in
    let i = c.self.inside in
    let v : Seen g.row.G-State.Denot g.row.G-Slots.Denot = record { slots = i.slots; horizon = i.horizon; clock = i.clock; rows = i.cells } in
    let table = c.self.invariant.table in
    let s = c.args.cycle in
    let e = c.due_alike_to-end.result in
    let n = R.components i.slots in
    let changes = c.begins_alike.new.changes in
    let rows1 = c.repeat_cells.new.cells in
    let rows2 = c.mark_changed.new.cells in
    let clock = c.clock_filled-clock.result in
    let before = c.clock_filled-before.result in
    let within : c.args.end ≤ i.horizon + 1 = rw (← c.self.view_is) at c.requires.within in
    let there : s ≤ i.horizon = omega (arith, c.requires.there, within) in
    let none : NoneDueBefore R v s 0 = rw (← c.self.view_is) at c.requires.none in
    let wide : length c.args.spare.now.changes ≡ n = (rw (← c.self.view_is) at c.requires.spare).wide.changes in
    let width : length changes ≡ n = c.begins_alike.ensures.len ∙ ap length c.clear_all.ensures ∙ length-replicate (length c.args.spare.now.changes) false ∙ wide in
    let begins : BeginsAlike R v s changes = rw (← c.self.view_is) at (c.begins_alike.ensures.alike c.if-not-begins_alike.false) in
    let last : c.alike_end-end.result ≤ i.horizon + 1 = omega (arith, c.alike_end-end.ensures.before, within) in
    let so_far : StaysAlike R v s changes c.alike_end-end.result = rw (← c.self.view_is) at c.alike_end-end.ensures.stays in
    let stays = stays_less R v s changes c.alike_end-end.result e c.due_alike_to-end.ensures.before so_far in
    let reached : (d : ℕ) → d < n → is_awake c.reach_in.new.reached d ≡ any_changes changes (R.near i.slots d) n = c.reach_in.ensures.reached in
    let due : (d u : ℕ) → d < n → s < u → u < e → ((held_at i.cells u d).is_due || is_awake c.reach_in.new.reached d) ≡ (held_at i.cells s d).is_due = rw (← c.self.view_is) at c.due_alike_to-end.ensures.alike in
    let alike : AreDueAlike R v s changes e = λ d u k h l. ap (λ b. (held_at i.cells u d).is_due || b) (sym (reached d k)) ∙ due d u k h l in
    let end : e ≤ i.horizon + 1 = omega (arith, last, c.due_alike_to-end.ensures.before) in
    let after = c.due_alike_to-end.ensures.after in
    let few : n < 4294967296 = omega (arith, c.components-count.ensures) in
    let is_clock : clock ≡ i.clock + (e - s) * count_in changes = c.clock_filled-clock.ensures ∙ ap (λ k. i.clock + (e - s) * k) c.count-changed.ensures in
    let is_before : before ≡ i.clock + (e - s - 1) * count_in changes = c.clock_filled-before.ensures ∙ ap (λ k. i.clock + (e - s - 1) * k) c.count-changed.ensures in
    let room : i.clock + (e - s) * n < 2 ^ 64 = subst (λ k. i.clock + (e - s) * k < 2 ^ 64) c.components-count.ensures (c.has_room.ensures c.if-not-has_room.false) in
    let whole : IsWhole R i.slots i.horizon rows2 = record {
      cycles = c.mark_changed.ensures.len ∙ c.repeat_cells.ensures.len ∙ table.whole.cycles;
      components = λ t h. c.mark_changed.ensures.lens t ∙ c.repeat_cells.ensures.lens t (omega (arith, h, table.whole.cycles)) ∙ width;
    } in
    let last_one : e - 1 + 1 ≡ e = omega (arith, after) in
    let behind : e ≤ i.horizon → (d : ℕ) → d < n → held_at rows2 e d ≡ woken R i.slots rows1 (λ t k. is_awake changes k) before (e - 1) n d = λ h d k. subst (λ u. held_at rows2 u d ≡ woken R i.slots rows1 (λ t k. is_awake changes k) before (e - 1) n d) last_one (c.mark_changed.ensures.marked (omega (arith, h, last_one, c.repeat_cells.ensures.len, table.whole.cycles)) d k) in
    record {
      table = stays_table R g.G.Grid.laws v table s e there end none changes begins stays alike after width rows1 rows2 clock before few c.no_versions.ensures is_clock is_before room whole
          (λ t d k h l. c.in-Ok-repeat_cells.ensures.repeated.repeated t d (omega (arith, k, width)) h l)
          c.in-Ok-repeat_cells.ensures.repeated.earlier
          c.in-Ok-repeat_cells.ensures.repeated.later
          (λ t d h p. c.mark_changed.ensures.others t d (omega (arith, h, c.repeat_cells.ensures.len, table.whole.cycles)) (λ q. p (omega (arith, q, last_one))))
          behind (begins_at R g.G.Grid.laws v table s none (omega arith));
      index = c.self.invariant.index;
      near = c.self.invariant.near;
      states = λ t d h k.
          let same = λ (h : t < i.held). kept_alike R i.slots i.held i.cells rows1 changes s e
          (λ t d k h l. c.in-Ok-repeat_cells.ensures.repeated.repeated t d (omega (arith, k, width)) h l)
          c.in-Ok-repeat_cells.ensures.repeated.earlier c.in-Ok-repeat_cells.ensures.repeated.later c.self.invariant.states t d h k in
          kept_behind R i.slots i.held e rows1 rows2 t d (same h)
          (λ p. c.mark_changed.ensures.others t d (omega (arith, h, c.self.invariant.within, c.repeat_cells.ensures.len, table.whole.cycles)) (λ q. p (omega (arith, q, last_one))))
          (λ p. subst (λ u. (held_at rows2 u d).state ≡ (held_at rows1 u d).state) (sym p) (ap (λ (r : Held g.row.G-State.Denot). r.state) (behind (omega (arith, p, h, c.self.invariant.within)) d k) ∙ woken_state R (record { slots = i.slots; horizon = i.horizon; clock = i.clock; rows = rows1 }) (λ t k. is_awake changes k) 0 before (e - 1) n d ∙ ap (λ u. (held_at rows1 u d).state) last_one));
      within = c.self.invariant.within;
    }

pub returns-clause-passes : goal.returns-clause-passes
returns-clause-passes g c =
    let R = g.G.Grid.rules in
    let i = c.self.inside in
    let v : Seen g.row.G-State.Denot g.row.G-Slots.Denot = record { slots = i.slots; horizon = i.horizon; clock = i.clock; rows = i.cells } in
    let table = c.self.invariant.table in
    let s = c.args.cycle in
    let e = c.due_alike_to-end.result in
    let n = R.components i.slots in
    let changes = c.begins_alike.new.changes in
    let rows1 = c.repeat_cells.new.cells in
    let rows2 = c.mark_changed.new.cells in
    let clock = c.clock_filled-clock.result in
    let before = c.clock_filled-before.result in
    let within : c.args.end ≤ i.horizon + 1 = rw (← c.self.view_is) at c.requires.within in
    let there : s ≤ i.horizon = omega (arith, c.requires.there, within) in
    let none : NoneDueBefore R v s 0 = rw (← c.self.view_is) at c.requires.none in
    let wide : length c.args.spare.now.changes ≡ n = (rw (← c.self.view_is) at c.requires.spare).wide.changes in
    let width : length changes ≡ n = c.begins_alike.ensures.len ∙ ap length c.clear_all.ensures ∙ length-replicate (length c.args.spare.now.changes) false ∙ wide in
    let begins : BeginsAlike R v s changes = rw (← c.self.view_is) at (c.begins_alike.ensures.alike c.if-not-begins_alike.false) in
    let last : c.alike_end-end.result ≤ i.horizon + 1 = omega (arith, c.alike_end-end.ensures.before, within) in
    let so_far : StaysAlike R v s changes c.alike_end-end.result = rw (← c.self.view_is) at c.alike_end-end.ensures.stays in
    let stays = stays_less R v s changes c.alike_end-end.result e c.due_alike_to-end.ensures.before so_far in
    let reached : (d : ℕ) → d < n → is_awake c.reach_in.new.reached d ≡ any_changes changes (R.near i.slots d) n = c.reach_in.ensures.reached in
    let due : (d u : ℕ) → d < n → s < u → u < e → ((held_at i.cells u d).is_due || is_awake c.reach_in.new.reached d) ≡ (held_at i.cells s d).is_due = rw (← c.self.view_is) at c.due_alike_to-end.ensures.alike in
    let alike : AreDueAlike R v s changes e = λ d u k h l. ap (λ b. (held_at i.cells u d).is_due || b) (sym (reached d k)) ∙ due d u k h l in
    let end : e ≤ i.horizon + 1 = omega (arith, last, c.due_alike_to-end.ensures.before) in
    let after = c.due_alike_to-end.ensures.after in
    let few : n < 4294967296 = omega (arith, c.components-count.ensures) in
    let is_clock : clock ≡ i.clock + (e - s) * count_in changes = c.clock_filled-clock.ensures ∙ ap (λ k. i.clock + (e - s) * k) c.count-changed.ensures in
    let is_before : before ≡ i.clock + (e - s - 1) * count_in changes = c.clock_filled-before.ensures ∙ ap (λ k. i.clock + (e - s - 1) * k) c.count-changed.ensures in
    let room : i.clock + (e - s) * n < 2 ^ 64 = subst (λ k. i.clock + (e - s) * k < 2 ^ 64) c.components-count.ensures (c.has_room.ensures c.if-not-has_room.false) in
    let whole : IsWhole R i.slots i.horizon rows2 = record {
      cycles = c.mark_changed.ensures.len ∙ c.repeat_cells.ensures.len ∙ table.whole.cycles;
      components = λ t h. c.mark_changed.ensures.lens t ∙ c.repeat_cells.ensures.lens t (omega (arith, h, table.whole.cycles)) ∙ width;
    } in
    let last_one : e - 1 + 1 ≡ e = omega (arith, after) in
    let behind : e ≤ i.horizon → (d : ℕ) → d < n → held_at rows2 e d ≡ woken R i.slots rows1 (λ t k. is_awake changes k) before (e - 1) n d = λ h d k. subst (λ u. held_at rows2 u d ≡ woken R i.slots rows1 (λ t k. is_awake changes k) before (e - 1) n d) last_one (c.mark_changed.ensures.marked (omega (arith, h, last_one, c.repeat_cells.ensures.len, table.whole.cycles)) d k) in
    let number : (e - s) * due_in_row (row_at i.cells s) ≡ c.from.result * c.from-2.result = ap (λ k. (e - s) * k) (sym (c.from-2.ensures ∙ c.due_count-due.ensures)) ∙ ap (λ k. k * c.from-2.result) (sym c.from.ensures) in
    let now : Seen g.row.G-State.Denot g.row.G-Slots.Denot = record { slots = i.slots; horizon = i.horizon; clock = clock; rows = rows2 } in
    let comes : s + (e - s) ≡ e = omega (arith, after) in
    let advances : Advances R c.args.end v now s 0 e 0 (c.from.result * c.from-2.result) = record {
      on = λ first k at. subst (λ m. IsAt R first now e 0 (k + m)) number (subst (λ u. IsAt R first now u 0 (k + (e - s) * due_in_row (row_at i.cells s))) comes (goes_on_to R g.G.Grid.laws v table s e there end none changes begins stays alike after width rows1 rows2 clock before few c.no_versions.ensures is_clock is_before room whole
          (λ t d k h l. c.in-Ok-repeat_cells.ensures.repeated.repeated t d (omega (arith, k, width)) h l)
          c.in-Ok-repeat_cells.ensures.repeated.earlier
          c.in-Ok-repeat_cells.ensures.repeated.later
          (λ t d h p. c.mark_changed.ensures.others t d (omega (arith, h, c.repeat_cells.ensures.len, table.whole.cycles)) (λ q. p (omega (arith, q, last_one))))
          behind first k at));
      further = further_cycle i.horizon s 0 e after end;
      before = (omega (arith, c.alike_end-end.ensures.before, c.due_alike_to-end.ensures.before), λ q. omega arith);
    } in
    let but : HoldsBut R v now c.ranges_of.new.ranges.items = holds_but R g.G.Grid.laws v table s e there end none changes begins stays alike after width rows1 rows2 clock before few c.no_versions.ensures is_clock is_before room whole
    (λ t d k h l. c.in-Ok-repeat_cells.ensures.repeated.repeated t d (omega (arith, k, width)) h l)
    c.in-Ok-repeat_cells.ensures.repeated.earlier
    c.in-Ok-repeat_cells.ensures.repeated.later
    (λ t d h p. c.mark_changed.ensures.others t d (omega (arith, h, c.repeat_cells.ensures.len, table.whole.cycles)) (λ q. p (omega (arith, q, last_one))))
    behind c.ranges_of.new.ranges.items (ranges_within c.ranges_of.new.ranges.items e (i.horizon + 1) (length changes) n end width c.in-Ok.ensures.within) c.in-Ok.ensures.marked in
    let passes : PassesCycles R c.args.end v now s e 0 (c.from.result * c.from-2.result) c.ranges_of.new.ranges.items = record { on = advances; begins = refl; but = but } in
    rw (← c.self.view_is) passes
