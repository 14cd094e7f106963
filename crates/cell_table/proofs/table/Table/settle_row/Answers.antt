use Rattle.std.proofs.Common.{◌≡◌, ℕ, ◌+◌, ◌*◌, ◌^◌, ◌<◌, ◌≤◌, ◌∙◌, sym, ap, subst, arith, length, Some}
use Rattle.cell_marks.specs.Marked.{count_in}
use Rattle.grid_law.specs.Run.{run}
use Rattle.due_cells.specs.Seen.{Seen, held_at, row_at, due_in_row}
use Rattle.cell_table.specs.Cells.{IsThere}
use Rattle.cell_table.specs.Consistent.{IsWhole}
use Rattle.cell_states.specs.Filling.{is_awake}
use Rattle.due_cells.specs.Woken.{woken}
use Rattle.cell_table.specs.Passing.{HoldsBut}
use Rattle.cell_table.specs.Settling.{NoneDueBefore, IsAt}
use Rattle.due_cells.specs.WholeRows.{IsRowPut}
use Rattle.due_cells.specs.Spares.{IsSpare}
use Rattle.cell_table.proofs.LeftOut.{holds_already}
use Rattle.cell_table.proofs.Passes.{begins_at}
use Rattle.cell_table.proofs.Repeated.{ranges_within}
use Rattle.cell_table.proofs.SettledRow.{goes_behind, still_table, held_still, other_states, row_but}
use Rattle.cell_table.proofs.WideRows.{holds_earlier}
use Rattle.cell_table.proofs.table.Table.settle_row.Goals as goal

pub overflow_add-cycle : goal.overflow_add-cycle
overflow_add-cycle g c =
    let there : c.args.cycle ≤ c.self.inside.horizon = rw (← c.self.view_is) at c.requires.there in
    omega (arith, there, c.self.invariant.table.whole.cycles, c.cycles-cycles.ensures)

pub find_left-requires-clause-width : goal.find_left-requires-clause-width
find_left-requires-clause-width g c =
    let R = g.G.Grid.rules in
    let i = c.self.inside in
    let v : Seen g.row.G-State.Denot g.row.G-Slots.Denot = record { slots = i.slots; horizon = i.horizon; clock = i.clock; rows = i.cells } in
    let there : c.args.cycle ≤ i.horizon = rw (← c.self.view_is) at c.requires.there in
    let spare : IsSpare R v c.args.spare.now = rw (← c.self.view_is) at c.requires.workspace.spare in
    spare.wide.left ∙ sym (c.due_row-due_row.ensures.len ∙ c.self.invariant.table.whole.components c.args.cycle there)

pub find_left-requires-clause-known : goal.find_left-requires-clause-known
find_left-requires-clause-known g c =
    let R = g.G.Grid.rules in
    let i = c.self.inside in
    let v : Seen g.row.G-State.Denot g.row.G-Slots.Denot = record { slots = i.slots; horizon = i.horizon; clock = i.clock; rows = i.cells } in
    let there : c.args.cycle ≤ i.horizon = rw (← c.self.view_is) at c.requires.there in
    let spare : IsSpare R v c.args.spare.now = rw (← c.self.view_is) at c.requires.workspace.spare in
    spare.wide.known ∙ sym (c.due_row-due_row.ensures.len ∙ c.self.invariant.table.whole.components c.args.cycle there)

pub put_row-requires-clause-ready : goal.put_row-requires-clause-ready
put_row-requires-clause-ready g c =
    let R = g.G.Grid.rules in
    let i = c.self.inside in
    let v : Seen g.row.G-State.Denot g.row.G-Slots.Denot = record { slots = i.slots; horizon = i.horizon; clock = i.clock; rows = i.cells } in
    let table = c.self.invariant.table in
    let s = c.args.cycle in
    let there : s ≤ i.horizon = rw (← c.self.view_is) at c.requires.there in
    let none : NoneDueBefore R v s 0 = rw (← c.self.view_is) at c.requires.none in
    let spare : IsSpare R v c.args.spare.now = rw (← c.self.view_is) at c.requires.workspace.spare in
    let later : 0 < s = omega (arith, c.if-cycle-eq0.false) in
    record {
      later = later;
      within = omega (arith, there, table.whole.cycles);
      whole = λ u h. table.whole.components u (omega (arith, h, table.whole.cycles));
      wide = c.find_left.ensures.width ∙ spare.wide.left;
      due = λ d m. sym (c.due_row-due_row.ensures.due d) ∙ c.find_left.ensures.due d m;
      rest = λ d due out.
          let known = c.find_left.ensures.rest d (c.due_row-due_row.ensures.due d ∙ due) out in
          subst (λ t. (held_at i.cells t d).state ≡ Some (run R i.slots t d)) known.0 (spare.runs d (omega (arith, later, known.0)) known.1);
      before = λ u d h k. holds_earlier R g.G.Grid.laws v table s none u d (record { cycle = omega (arith, h, there); component = k }) h;
    }

pub invariant_of-self-2 : goal.invariant_of-self-2
invariant_of-self-2 g c =
    let R = g.G.Grid.rules in
    let i = c.self.inside in
    let v : Seen g.row.G-State.Denot g.row.G-Slots.Denot = record { slots = i.slots; horizon = i.horizon; clock = i.clock; rows = i.cells } in
    let table = c.self.invariant.table in
    let s = c.args.cycle in
    let n = R.components i.slots in
    let changes = c.put_row.new.changes in
    let rows1 = c.put_row.new.cells in
    let rows2 = c.mark_changed.new.cells in
    let clock = i.clock + c.from.result in
    let there : s ≤ i.horizon = rw (← c.self.view_is) at c.requires.there in
    let none : NoneDueBefore R v s 0 = rw (← c.self.view_is) at c.requires.none in
    let spare : IsSpare R v c.args.spare.now = rw (← c.self.view_is) at c.requires.workspace.spare in
    let same : c.find_reached.new.spare.changes ≡ changes = c.find_reached.ensures.kept.0 in
    let width : length changes ≡ n = c.put_row.ensures.marks.marks in
    let few : n < 4294967296 = omega (arith, c.components-count.ensures) in
    let is_clock : clock ≡ i.clock + count_in changes = ap (λ k. i.clock + k) (c.from.ensures ∙ c.count-changed.ensures ∙ ap count_in same) in
    let room : i.clock + 1 * n < 2 ^ 64 = subst (λ k. i.clock + 1 * k < 2 ^ 64) c.components-count.ensures (c.has_room.ensures c.if-not-has_room.false) in
    let cycles = table.whole.cycles in
    let p = c.put_row.ensures.put c.if-not-put_row.false in
    let m = c.mark_changed.ensures in
    let row_put : IsRowPut R i.slots i.cells rows1 s changes = p.row in
    let whole : IsWhole R i.slots i.horizon rows2 = record {
      cycles = m.len ∙ p.len ∙ cycles;
      components = λ t h. m.lens t ∙ p.lens t (omega (arith, h, cycles));
    } in
    let others : (t d : ℕ) → t ≤ i.horizon → (t ≡ s + 1 → ⊥) → held_at rows2 t d ≡ held_at rows1 t d = λ t d h f. m.others t d (omega (arith, h, p.len, cycles)) f in
    let behind : s + 1 ≤ i.horizon → (d : ℕ) → d < n → held_at rows2 (s + 1) d ≡ woken R i.slots rows1 (λ t k. is_awake changes k) i.clock s n d = λ h d k. subst (λ marks. held_at rows2 (s + 1) d ≡ woken R i.slots rows1 (λ t k. is_awake marks k) i.clock s n d) same (m.marked (omega (arith, h, p.len, cycles)) d k) in
    record {
      table = still_table R g.G.Grid.laws v table s there none changes width rows1 row_put rows2 clock few c.no_versions.ensures is_clock room whole others behind (begins_at R g.G.Grid.laws v table s none (omega arith));
      index = c.self.invariant.index;
      near = c.self.invariant.near;
      states = held_still R g.G.Grid.laws v table s there none changes width rows1 row_put rows2 clock few c.no_versions.ensures is_clock room whole others behind i.held c.self.invariant.within c.self.invariant.states;
      within = c.self.invariant.within;
    }

pub returns-clause-on : goal.returns-clause-on
returns-clause-on g c =
    let R = g.G.Grid.rules in
    let i = c.self.inside in
    let v : Seen g.row.G-State.Denot g.row.G-Slots.Denot = record { slots = i.slots; horizon = i.horizon; clock = i.clock; rows = i.cells } in
    let table = c.self.invariant.table in
    let s = c.args.cycle in
    let n = R.components i.slots in
    let changes = c.put_row.new.changes in
    let rows1 = c.put_row.new.cells in
    let rows2 = c.mark_changed.new.cells in
    let clock = i.clock + c.from.result in
    let there : s ≤ i.horizon = rw (← c.self.view_is) at c.requires.there in
    let none : NoneDueBefore R v s 0 = rw (← c.self.view_is) at c.requires.none in
    let spare : IsSpare R v c.args.spare.now = rw (← c.self.view_is) at c.requires.workspace.spare in
    let same : c.find_reached.new.spare.changes ≡ changes = c.find_reached.ensures.kept.0 in
    let width : length changes ≡ n = c.put_row.ensures.marks.marks in
    let few : n < 4294967296 = omega (arith, c.components-count.ensures) in
    let is_clock : clock ≡ i.clock + count_in changes = ap (λ k. i.clock + k) (c.from.ensures ∙ c.count-changed.ensures ∙ ap count_in same) in
    let room : i.clock + 1 * n < 2 ^ 64 = subst (λ k. i.clock + 1 * k < 2 ^ 64) c.components-count.ensures (c.has_room.ensures c.if-not-has_room.false) in
    let cycles = table.whole.cycles in
    let p = c.put_row.ensures.put c.if-not-put_row.false in
    let m = c.mark_changed.ensures in
    let row_put : IsRowPut R i.slots i.cells rows1 s changes = p.row in
    let whole : IsWhole R i.slots i.horizon rows2 = record {
      cycles = m.len ∙ p.len ∙ cycles;
      components = λ t h. m.lens t ∙ p.lens t (omega (arith, h, cycles));
    } in
    let others : (t d : ℕ) → t ≤ i.horizon → (t ≡ s + 1 → ⊥) → held_at rows2 t d ≡ held_at rows1 t d = λ t d h f. m.others t d (omega (arith, h, p.len, cycles)) f in
    let behind : s + 1 ≤ i.horizon → (d : ℕ) → d < n → held_at rows2 (s + 1) d ≡ woken R i.slots rows1 (λ t k. is_awake changes k) i.clock s n d = λ h d k. subst (λ marks. held_at rows2 (s + 1) d ≡ woken R i.slots rows1 (λ t k. is_awake marks k) i.clock s n d) same (m.marked (omega (arith, h, p.len, cycles)) d k) in
    let number : due_in_row (row_at i.cells s) ≡ c.due_count-due.result = sym c.due_count-due.ensures in
    rw (← c.self.view_is) (λ first k at. subst (λ l. IsAt R first (record { slots = i.slots; horizon = i.horizon; clock = clock; rows = rows2 }) (s + 1) 0 (k + l)) number (goes_behind R g.G.Grid.laws v table s there none changes width rows1 row_put rows2 clock few c.no_versions.ensures is_clock room whole others behind first k at))

pub returns-clause-but : goal.returns-clause-but
returns-clause-but g c =
    let R = g.G.Grid.rules in
    let i = c.self.inside in
    let v : Seen g.row.G-State.Denot g.row.G-Slots.Denot = record { slots = i.slots; horizon = i.horizon; clock = i.clock; rows = i.cells } in
    let table = c.self.invariant.table in
    let s = c.args.cycle in
    let n = R.components i.slots in
    let changes = c.put_row.new.changes in
    let rows1 = c.put_row.new.cells in
    let rows2 = c.mark_changed.new.cells in
    let clock = i.clock + c.from.result in
    let there : s ≤ i.horizon = rw (← c.self.view_is) at c.requires.there in
    let none : NoneDueBefore R v s 0 = rw (← c.self.view_is) at c.requires.none in
    let spare : IsSpare R v c.args.spare.now = rw (← c.self.view_is) at c.requires.workspace.spare in
    let same : c.find_reached.new.spare.changes ≡ changes = c.find_reached.ensures.kept.0 in
    let width : length changes ≡ n = c.put_row.ensures.marks.marks in
    let few : n < 4294967296 = omega (arith, c.components-count.ensures) in
    let is_clock : clock ≡ i.clock + count_in changes = ap (λ k. i.clock + k) (c.from.ensures ∙ c.count-changed.ensures ∙ ap count_in same) in
    let room : i.clock + 1 * n < 2 ^ 64 = subst (λ k. i.clock + 1 * k < 2 ^ 64) c.components-count.ensures (c.has_room.ensures c.if-not-has_room.false) in
    let cycles = table.whole.cycles in
    let p = c.put_row.ensures.put c.if-not-put_row.false in
    let m = c.mark_changed.ensures in
    let row_put : IsRowPut R i.slots i.cells rows1 s changes = p.row in
    let whole : IsWhole R i.slots i.horizon rows2 = record {
      cycles = m.len ∙ p.len ∙ cycles;
      components = λ t h. m.lens t ∙ p.lens t (omega (arith, h, cycles));
    } in
    let others : (t d : ℕ) → t ≤ i.horizon → (t ≡ s + 1 → ⊥) → held_at rows2 t d ≡ held_at rows1 t d = λ t d h f. m.others t d (omega (arith, h, p.len, cycles)) f in
    let behind : s + 1 ≤ i.horizon → (d : ℕ) → d < n → held_at rows2 (s + 1) d ≡ woken R i.slots rows1 (λ t k. is_awake changes k) i.clock s n d = λ h d k. subst (λ marks. held_at rows2 (s + 1) d ≡ woken R i.slots rows1 (λ t k. is_awake marks k) i.clock s n d) same (m.marked (omega (arith, h, p.len, cycles)) d k) in
    let ranges = c.list_told.new.ranges.items in
    let same_ranges : ranges ≡ c.find_reached.new.spare.ranges.items = ap (λ r. r.items) (sym c.find_reached.ensures.kept.1) in
    let r = c.list_told.ensures in
    λ told.
    rw (← c.self.view_is) (subst (HoldsBut R v (record { slots = i.slots; horizon = i.horizon; clock = clock; rows = rows2 })) same_ranges (row_but R g.G.Grid.laws v table s there none changes width rows1 row_put rows2 clock few c.no_versions.ensures is_clock room whole others behind ranges (r.within told) (r.marked told) (ranges_within ranges (s + 1) (i.horizon + 1) (length changes) n (omega (arith, there)) width (r.within told))))

pub returns-clause-workspace : goal.returns-clause-workspace
returns-clause-workspace g c =
    let R = g.G.Grid.rules in
    let i = c.self.inside in
    let v : Seen g.row.G-State.Denot g.row.G-Slots.Denot = record { slots = i.slots; horizon = i.horizon; clock = i.clock; rows = i.cells } in
    let table = c.self.invariant.table in
    let s = c.args.cycle in
    let n = R.components i.slots in
    let changes = c.put_row.new.changes in
    let rows1 = c.put_row.new.cells in
    let rows2 = c.mark_changed.new.cells in
    let clock = i.clock + c.from.result in
    let there : s ≤ i.horizon = rw (← c.self.view_is) at c.requires.there in
    let none : NoneDueBefore R v s 0 = rw (← c.self.view_is) at c.requires.none in
    let spare : IsSpare R v c.args.spare.now = rw (← c.self.view_is) at c.requires.workspace.spare in
    let same : c.find_reached.new.spare.changes ≡ changes = c.find_reached.ensures.kept.0 in
    let width : length changes ≡ n = c.put_row.ensures.marks.marks in
    let few : n < 4294967296 = omega (arith, c.components-count.ensures) in
    let is_clock : clock ≡ i.clock + count_in changes = ap (λ k. i.clock + k) (c.from.ensures ∙ c.count-changed.ensures ∙ ap count_in same) in
    let room : i.clock + 1 * n < 2 ^ 64 = subst (λ k. i.clock + 1 * k < 2 ^ 64) c.components-count.ensures (c.has_room.ensures c.if-not-has_room.false) in
    let cycles = table.whole.cycles in
    let p = c.put_row.ensures.put c.if-not-put_row.false in
    let m = c.mark_changed.ensures in
    let row_put : IsRowPut R i.slots i.cells rows1 s changes = p.row in
    let whole : IsWhole R i.slots i.horizon rows2 = record {
      cycles = m.len ∙ p.len ∙ cycles;
      components = λ t h. m.lens t ∙ p.lens t (omega (arith, h, cycles));
    } in
    let others : (t d : ℕ) → t ≤ i.horizon → (t ≡ s + 1 → ⊥) → held_at rows2 t d ≡ held_at rows1 t d = λ t d h f. m.others t d (omega (arith, h, p.len, cycles)) f in
    let behind : s + 1 ≤ i.horizon → (d : ℕ) → d < n → held_at rows2 (s + 1) d ≡ woken R i.slots rows1 (λ t k. is_awake changes k) i.clock s n d = λ h d k. subst (λ marks. held_at rows2 (s + 1) d ≡ woken R i.slots rows1 (λ t k. is_awake marks k) i.clock s n d) same (m.marked (omega (arith, h, p.len, cycles)) d k) in
    let f = c.find_reached.ensures in
    record {
      spare = record {
        wide = record {
          changes = f.wide.changes;
          reached = f.wide.reached;
          worded = f.wide.worded;
          left = f.wide.left;
          known = f.wide.known;
        };
        runs = λ d later here.
            let at = f.at later in
            let within : s + 1 ≤ i.horizon = omega (arith, at.1, p.len, cycles) in
            let left = f.known later d here in
            let there_now : IsThere R v (s + 1) d = record { cycle = within; component = left.there } in
            let holds = holds_already R g.G.Grid.laws v table s there none changes width rows1 row_put g.G.Grid.codec c.by_words.ensures c.put_row.new.worded p.words d within left in
            let other = other_states R g.G.Grid.laws v table s there none changes width rows1 row_put rows2 clock few c.no_versions.ensures is_clock room whole others behind (s + 1) d there_now (λ e. absurd (omega (arith, e))) in
            subst (λ t. (held_at rows2 t d).state ≡ Some (run R i.slots t d)) (sym at.0) (other ∙ holds);
      };
      along = c.put_row.ensures.rows.along;
      beside = c.put_row.ensures.rows.beside;
    }
