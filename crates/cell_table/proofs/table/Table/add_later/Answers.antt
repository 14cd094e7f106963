use Rattle.std.proofs.Common.{ℕ, ◌≡◌, ◌<◌, ◌≤◌, ◌+◌, ◌-◌, ◌∙◌, ◌&&◌, ◌||◌, sym, ap, refl, arith, eqb, leb, ltb, is_some}
use Rattle.std.proofs.lemmas.Bool.{lt-ltb, ltb-true}
use Rattle.cell_states.specs.ReadsBy.{reads_by}
use Rattle.due_cells.specs.Seen.{held_at}
use Rattle.due_cells.specs.Inputs.{inputs_of}
use Rattle.due_cells.specs.Ranges.{is_marked}
use Rattle.cell_table.specs.Touches.{cell_reads_one}
use Rattle.cell_table.proofs.Asking.{later_more, up_to_more, later_all, by_own}
use Rattle.cell_table.proofs.Begun.{none_more, none_behind}
use Rattle.cell_table.proofs.table.Table.add_later.Goals as goal

pub loop-from-init : goal.loop-from-init
loop-from-init g c =
    let one = λ (t : ℕ). cell_reads_one g.G.Grid.rules c.args.self.now.slots c.args.self.now.rows c.args.slot.now t c.args.component in
    let begun = c.in_ok-begun.ensures in
    let asked = c.asked_from-from.ensures in
    record {
      first = omega (arith, begun.some, asked.from);
      to = asked.to;
      within = begun.within;
      at = λ t d h. none_more _ (is_marked c.args.ranges.now.items t d) (eqb d c.args.component) t c.in_ok-begun.begun c.asked_from-from.result (one t) (begun.at t d h) asked.from (asked.none t);
    }

pub reads_to-reads-requires-clause-within : goal.reads_to-reads-requires-clause-within
reads_to-reads-requires-clause-within g c =
    let horizon : c.args.last ≤ c.self.inside.horizon = rw (← c.self.view_is) at c.requires.there in
    omega (arith, horizon, c.self.invariant.table.whole.cycles)

pub loop-from-preserved : goal.loop-from-preserved
loop-from-preserved g c =
    let R = g.G.Grid.rules in
    let s = c.args.self.now.slots in
    let rows = c.args.self.now.rows in
    let component = c.args.component in
    let inv = c.loop-from.invariant in
    let from = c.loop-from.from in
    let reads = c.reads_to-reads.result.0 in
    let to = c.reads_to-reads.result.1 + 1 in
    let after : from ≤ c.reads_to-reads.result.1 = omega (arith, c.reads_to-reads.ensures.after, inv.first) in
    let within : to ≤ c.args.last + 1 = omega (arith, c.reads_to-reads.ensures.before) in
    let one = λ (t : ℕ). cell_reads_one R s rows c.args.slot.now t component in
    let ready = λ (t : ℕ). is_some (inputs_of R s rows t component) in
    let told : (t : ℕ) → from - 1 ≤ t → t < c.reads_to-reads.result.1 → reads ≡ reads_by R s component c.args.slot.now (held_at rows t component).state = rw (← c.self.view_is) c.reads_to-reads.ensures.reads in
    let same : (t : ℕ) → from ≤ t → t < to → one t ≡ (ready t && reads) = λ t k l.
    by_own R g.G.Grid.laws s rows component t c.args.slot.now (held_at rows (t - 1) component).state (omega (arith, inv.first, k)) refl
    ∙ ap (λ b. ready t && b) (sym (told (t - 1) (omega (arith, k)) (omega (arith, k, l, inv.first)))) in
    record {
      first = omega (arith, inv.first, after);
      to = within;
      within = c.in_ok-add_ready.ensures.within (c.args.last + 1) (R.components s) inv.within (omega (arith, after), within, c.requires.component);
      at = λ t d h.
          c.in_ok-add_ready.ensures.at t d
          ∙ ap (λ b. b || (((eqb d component) && (leb from t && ltb t to)) && (ready t && reads))) (inv.at t d h)
          ∙ later_more (is_marked c.add_always.new.ranges.items t d) (eqb d component) t from to (one t) (ready t && reads) inv.first (omega (arith, after)) (same t);
    }

pub returns-then-has_passed-clause-at : goal.returns-then-has_passed-clause-at
returns-then-has_passed-clause-at g c = λ t d h.
    let inv = c.loop-from.invariant in
    let one = λ (t : ℕ). cell_reads_one g.G.Grid.rules c.args.self.now.slots c.args.self.now.rows c.args.slot.now t c.args.component in
    let k = eqb d c.args.component in
    let end = c.args.last + 1 in
    let begun = c.in_ok-begun.ensures in
    inv.at t d h
    ∙ ap (λ b. is_marked c.add_always.new.ranges.items t d || b) (none_behind k t c.loop-from.from end (one t) inv.to (λ l m. c.has_passed.ensures c.if-has_passed.true t (omega (arith, l, inv.first)) (omega (arith, h, c.requires.there))))
    ∙ ap (λ b. b || (k && ((leb 1 t && ltb t end) && one t))) (begun.at t d h)
    ∙ up_to_more (is_marked c.args.ranges.now.items t d) k (leb 1 t) (ltb t c.in_ok-begun.begun) (ltb t end) (one t) (λ e. lt-ltb t end (omega (arith, ltb-true t c.in_ok-begun.begun e, begun.to)))
    ∙ ap (λ b. is_marked c.args.ranges.now.items t d || b) (later_all c.args.component d t c.args.last (one t) h)

pub returns-clause-at : goal.returns-clause-at
returns-clause-at g c = λ t d h.
    let inv = c.loop-from.invariant in
    let one = λ (t : ℕ). cell_reads_one g.G.Grid.rules c.args.self.now.slots c.args.self.now.rows c.args.slot.now t c.args.component in
    let end : c.loop-from.from ≡ c.args.last + 1 = omega (arith, inv.to, c.loop-from-test.false) in
    let k = eqb d c.args.component in
    let begun = c.in_ok-begun.ensures in
    inv.at t d h
    ∙ ap (λ b. b || (k && ((leb 1 t && ltb t c.loop-from.from) && one t))) (begun.at t d h)
    ∙ up_to_more (is_marked c.args.ranges.now.items t d) k (leb 1 t) (ltb t c.in_ok-begun.begun) (ltb t c.loop-from.from) (one t) (λ e. lt-ltb t c.loop-from.from (omega (arith, ltb-true t c.in_ok-begun.begun e, begun.to, end)))
    ∙ ap (λ n. is_marked c.args.ranges.now.items t d || ((eqb d c.args.component) && ((leb 1 t && ltb t n) && one t))) end
    ∙ ap (λ b. is_marked c.args.ranges.now.items t d || b) (later_all c.args.component d t c.args.last (one t) h)
