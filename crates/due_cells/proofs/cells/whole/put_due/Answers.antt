use Rattle.std.proofs.Common.{◌≡◌, ℕ, ◌+◌, ◌-◌, ◌<◌, ◌≤◌, ◌∙◌, sym, ap, arith, true, length, inl, inr, ◌⊎◌, Some, is_some, refl}
use Rattle.std.proofs.lemmas.Bool.{cases_lt}
use Rattle.grid_law.specs.Run.{run}
use Rattle.cell_marks.specs.Marked.{row_at as marks_at}
use Rattle.cell_states.specs.Versions.{lists}
use Rattle.due_cells.specs.Seen.{held_at}
use Rattle.cell_states.specs.Stated.{state_at}
use Rattle.due_cells.specs.Layout.{cleared}
use Rattle.cell_states.specs.Filling.{is_awake}
use Rattle.due_cells.proofs.Keeping.{seen_cycles, seen_state, length_row}
use Rattle.due_cells.proofs.FilledRows.{marks_filled, layout_filled, same_cell, cleared_cell}
use Rattle.due_cells.proofs.Stated.{bounded_by, stated_along, width_each}
use Rattle.cell_states.proofs.Whole.{awake_within, same_value}
use Rattle.cell_states.proofs.PutRow.{marked_exactly, not_due, due_value}
use Rattle.due_cells.proofs.cells.whole.put_due.Goals as goal

pub put_whole-requires-clause-at : goal.put_whole-requires-clause-at
put_whole-requires-clause-at g c =
    let i = c.cells.inside in
    let some : 0 < length c.args.cells.now = omega (arith, c.requires.ready.within) in
    record {
      later = c.requires.ready.later;
      within = omega (arith, c.cells.invariant.0.cycles, seen_cycles (state_at i.states) i.due (lists i.versions.items) c.args.cells.now c.cells.view_is, c.requires.ready.within);
      wide = c.requires.ready.wide ∙ sym (width_each i.states i.due (lists i.versions.items) c.args.cells.now (g.G.Grid.rules.components c.args.slots.now) c.cells.invariant.0 c.cells.view_is some c.requires.ready.whole);
      components = c.requires.ready.wide;
    }

pub put_whole-requires-clause-marks : goal.put_whole-requires-clause-marks
put_whole-requires-clause-marks g c = record {
  marks = c.requires.marks.marks ∙ sym c.requires.ready.wide;
  others = c.requires.marks.others ∙ sym c.requires.ready.wide;
}

pub put_whole-requires-clause-stepped : goal.put_whole-requires-clause-stepped
put_whole-requires-clause-stepped g c =
    let i = c.cells.inside in
    let R = g.G.Grid.rules in
    let C = g.G.Grid.codec in
    let later = c.requires.ready.later in
    let inside : (d : ℕ) → is_awake c.args.set.now d ≡ true → d < R.components c.args.slots.now = λ d a. omega (arith, awake_within c.args.set.now d a, c.requires.ready.wide) in
    let seen = λ (d : ℕ). seen_state (state_at i.states) i.due (lists i.versions.items) c.args.cells.now c.cells.view_is (bounded_by i.states i.due c.cells.invariant.0) c.cells.invariant.1 (c.args.cycle - 1) d in
    let before = λ (d : ℕ) (h : d < R.components c.args.slots.now). c.requires.ready.before (c.args.cycle - 1) d (omega (arith, later)) h in
    let same = λ (d : ℕ) (x : g.row.G-State.Denot) (h : d < R.components c.args.slots.now) (e : state_at i.states (c.args.cycle - 1) d ≡ Some x). same_value (run R c.args.slots.now (c.args.cycle - 1) d) x (sym (before d h) ∙ seen d ∙ e) in
    record {
      before = λ d a. ap is_some (sym (seen d) ∙ before d (inside d a));
      still = λ d x a e s. c.requires.row.states d (inside d a) ∙ c.requires.known.still d (inside d a) s ∙ same d x (inside d a) e;
      kept = λ d x a e s. ap C.memory (c.requires.row.states d (inside d a)) ∙ c.requires.known.kept d (inside d a) s ∙ ap C.memory (same d x (inside d a) e);
    }

pub clear_rows-requires-clause-end : goal.clear_rows-requires-clause-end
clear_rows-requires-clause-end g c =
    let i = c.cells.inside in
    omega (arith, c.requires.ready.within, seen_cycles (state_at i.states) i.due (lists i.versions.items) c.args.cells.now c.cells.view_is)

pub overflow_add-cycle : goal.overflow_add-cycle
overflow_add-cycle g c =
    let i = c.cells.inside in
    omega (arith, c.requires.ready.within, seen_cycles (state_at i.states) i.due (lists i.versions.items) c.args.cells.now c.cells.view_is, c.cells.invariant.1.short)

pub invariant_of-cells-2 : goal.invariant_of-cells-2
invariant_of-cells-2 g c =
    let i = c.cells.inside in
    let t = c.args.cycle in
    let r = c.clear_rows.ensures in
    let states1 = c.put_whole.new.self in
    let many = c.in-Ok.ensures.put.many in
    let bounded = bounded_by i.states i.due c.cells.invariant.0 in
    let bounded1 = bounded_by states1 i.due (stated_along i.states states1 i.due i.due c.cells.invariant.0 many refl refl) in
    let marks = marks_filled i.due c.clear_rows.new.due t (t + 1) c.cells.invariant.1.marks r.cleared r.earlier r.later in (
      stated_along i.states states1 i.due c.clear_rows.new.due c.cells.invariant.0 many r.width r.len,
      layout_filled (state_at i.states) (state_at states1) i.due c.clear_rows.new.due (lists i.versions.items) c.args.cells.now bounded c.cells.invariant.1 c.cells.view_is bounded1 r.width r.len marks,
    )

pub returns-clause-put : goal.returns-clause-put
returns-clause-put g c =
    let i = c.cells.inside in
    let R = g.G.Grid.rules in
    let W = g.M.WholeRow in
    let s = c.args.slots.now in
    let t = c.args.cycle in
    let r = c.clear_rows.ensures in
    let ok = c.in-Ok.ensures.put in
    let states1 = c.put_whole.new.self in
    let set = c.args.set.now in
    let ready = c.requires.ready in
    let bounded = bounded_by i.states i.due c.cells.invariant.0 in
    let marks = marks_filled i.due c.clear_rows.new.due t (t + 1) c.cells.invariant.1.marks r.cleared r.earlier r.later in
    let bounded1 = bounded_by states1 i.due (stated_along i.states states1 i.due i.due c.cells.invariant.0 ok.many refl refl) in
    let some : 0 < length c.args.cells.now = omega (arith, ready.within) in
    let width = width_each i.states i.due (lists i.versions.items) c.args.cells.now (R.components s) c.cells.invariant.0 c.cells.view_is some ready.whole in
    let seen = λ (d : ℕ). seen_state (state_at i.states) i.due (lists i.versions.items) c.args.cells.now c.cells.view_is bounded c.cells.invariant.1 t d in
    let stated1 = stated_along i.states states1 i.due c.clear_rows.new.due c.cells.invariant.0 ok.many r.width r.len in
    let layout1 = layout_filled (state_at i.states) (state_at states1) i.due c.clear_rows.new.due (lists i.versions.items) c.args.cells.now bounded c.cells.invariant.1 c.cells.view_is bounded1 r.width r.len marks in
    let seen1 = λ (d : ℕ). seen_state (state_at states1) c.clear_rows.new.due (lists i.versions.items) _ refl (bounded_by states1 c.clear_rows.new.due stated1) layout1 t d in
    record {
      len = seen_cycles (state_at states1) c.clear_rows.new.due (lists i.versions.items) _ refl ∙ r.len ∙ sym (seen_cycles (state_at i.states) i.due (lists i.versions.items) c.args.cells.now c.cells.view_is);
      lens = λ u h.
          length_row (state_at states1) c.clear_rows.new.due (lists i.versions.items) u (omega (arith, h, seen_cycles (state_at i.states) i.due (lists i.versions.items) c.args.cells.now c.cells.view_is, r.len))
          ∙ r.width ∙ sym c.cells.invariant.0.width ∙ width;
      row = record {
        tells = λ d h a. marked_exactly (is_awake set d) (is_awake c.put_whole.new.changes d) _ (λ e. (let q = ok.tells d e in (λ p. seen d ∙ q.0 p ∙ ap Some (c.requires.row.states d h), λ p. q.1 (sym (seen d) ∙ p ∙ ap Some (sym (c.requires.row.states d h)))))) (λ e. (ready.rest d a e, ok.unmarked d e));
        unmarked = λ d h a. ok.unmarked d (not_due (is_awake set d) (held_at c.args.cells.now t d).is_due (ready.due d) a);
        put = λ d h.
            cleared_cell (state_at i.states) (state_at states1) i.due c.clear_rows.new.due (lists i.versions.items) c.args.cells.now bounded c.cells.invariant.1 c.cells.view_is bounded1 r.width r.len marks t d _ (omega (arith, h, width, c.cells.invariant.0.width)) (r.cleared t (omega arith) (omega arith)) (ok.put d)
            ∙ ap cleared (due_value (is_awake set d) (held_at c.args.cells.now t d).is_due _ (state_at i.states t d) _ (held_at c.args.cells.now t d).state (ap Some (c.requires.row.states d h)) (sym (seen d)) (ready.due d) (λ a e. ready.rest d a e));
        others = λ u d p. same_cell (state_at i.states) (state_at states1) i.due c.clear_rows.new.due (lists i.versions.items) c.args.cells.now bounded c.cells.invariant.1 c.cells.view_is bounded1 r.width r.len marks u d (ok.others u d p) (by_cycle t u (marks_at c.clear_rows.new.due.rows) (marks_at i.due.rows) p r.earlier r.later (cases_lt u t));
      };
      words = λ d x y a e f. ok.words d x y a (sym (seen d) ∙ e) (sym (seen1 d) ∙ f);
      among = ok.among;
    }
  where
    by_cycle : {X : Type 0} (n t : ℕ) (now was : ℕ → X) → (t ≡ n → ⊥) → ((u : ℕ) → u < n → now u ≡ was u) → ((u : ℕ) → n + 1 ≤ u → now u ≡ was u) → (t < n) ⊎ (n ≤ t) → now t ≡ was t
    by_cycle n t now was p earlier later (inl h) = earlier t h
    by_cycle n t now was p earlier later (inr h) = later t (omega (arith, h, λ (e : t ≡ n). p e))
