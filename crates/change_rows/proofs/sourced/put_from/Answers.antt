use Rattle.std.proofs.Common.{◌≡◌, ◌+◌, ◌<◌, ◌∙◌, ℕ, List, sym, ap, subst, refl, arith, true, false, cond, eqb, ◌&&◌, ◌||◌, length}
use Rattle.std.proofs.Math.ListN.{set, length-set}
use Rattle.change_rows.specs.Cells.{Held}
use Rattle.change_rows.specs.Marks.{is_in}
use Rattle.change_rows.specs.Standing.{standing, standing_before}
use Rattle.change_rows.specs.Changes.{begins_at, IsChanges}
use Rattle.change_rows.specs.Laid.{IsOver, IsTold}
use Rattle.change_rows.specs.Kinds.{IsNoted, IsRoomy}
use Rattle.change_rows.proofs.Editing.{changed}
use Rattle.change_rows.proofs.Putting.{alike_before}
use Rattle.change_rows.proofs.Sourcing.{stands_over, stands_still, told_same}
use Rattle.change_rows.proofs.Sorting.{noted_next}
use Rattle.change_rows.proofs.sourced.put_from.Goals as goal

pub lay_from-requires-clause-can : goal.lay_from-requires-clause-can
lay_from-requires-clause-can g c =
    let s = c.args.s.now in
    let r = c.bring_seam.new.s in
    let e = c.in_ok-bring_seam.ensures in
    record {
      row = omega (arith, c.requires.can.row, e.edited.len, e.here);
      has = λ d h m. c.requires.can.has d (omega (arith, h, e.edited.width)) m;
      still = λ d h m st.
          c.requires.can.still d (omega (arith, h, e.edited.width)) m st
          ∙ sym (alike_before (begins_at s.rows.items s.seam s.at d) (begins_at r.rows.items r.seam r.at d) c.args.t (λ k _. e.same d k))
          ∙ ap (standing_before (begins_at r.rows.items r.seam r.at d)) (sym e.here);
    }

pub lay_from-requires-clause-kept : goal.lay_from-requires-clause-kept
lay_from-requires-clause-kept g c =
    let e = c.in_ok-bring_seam.ensures in
    record {
      changes = e.edited.changes;
      room = subst (λ (v : ℕ). IsRoomy v c.args.k.now) (sym e.edited.width) c.requires.kept.room;
      notes = e.notes.room;
      noted = e.notes.noted;
    }

pub returns-clause-told : goal.returns-clause-told
returns-clause-told g c =
    let s = c.args.s.now in
    let r = c.bring_seam.new.s in
    let e = c.in_ok-bring_seam.ensures in
    let words = g.S.Source.words c.args.source.now in
    let told : IsTold r.rows.items r.seam r.at c.args.t c.args.set.now words r.width c.lay_from.new.changed = subst (λ (k : ℕ). IsTold r.rows.items r.seam r.at k c.args.set.now words r.width c.lay_from.new.changed) e.here c.in_ok-lay_from.ensures.told in
    rw (sym e.edited.width) (told_same s.rows.items r.rows.items s.seam r.seam s.at r.at c.args.t r.width c.args.set.now words c.lay_from.new.changed e.same told)

pub returns-clause-put : goal.returns-clause-put
returns-clause-put g c = λ d u small here.
    let s = c.args.s.now in
    let laid : c.in_ok-lay_from.field-0 ≡ true = c.if-not-branch.false in
    let r = c.bring_seam.new.s in
    let e = c.in_ok-bring_seam.ensures in
    let words = g.S.Source.words c.args.source.now in
    let there : c.args.t < length r.rows.items = omega (arith, c.requires.can.row, e.edited.len) in
    let over : IsOver r.rows.items r.seam r.at c.args.t r.width c.args.set.now words c.lay_from.new.row c.lay_from.new.seam = subst (λ (k : ℕ). IsOver r.rows.items r.seam r.at k r.width c.args.set.now words c.lay_from.new.row c.lay_from.new.seam) e.here (c.in_ok-lay_from.ensures.laid laid).over in
    stands_over s.rows.items r.rows.items c.lay.new.rows.items s.seam r.seam c.lay_from.new.seam c.swap.new.x c.lay_from.new.row c.lay_from.new.row s.at r.at c.args.t e.same e.edited.len c.in_ok-lay.ensures.rows refl c.swap.ensures.x_after there (λ n. absurd (n e.here)) r.width c.args.set.now words over d u (omega (arith, small, e.edited.width)) here

pub returns-clause-edited : goal.returns-clause-edited
returns-clause-edited g c =
    let laid : c.in_ok-lay_from.field-0 ≡ true = c.if-not-branch.false in
    let r = c.bring_seam.new.s in
    let e = c.in_ok-bring_seam.ensures in
    let o = (c.in_ok-lay_from.ensures.laid laid).over in
    let l = c.in_ok-lay.ensures in
    let there : c.args.t < length r.rows.items = omega (arith, c.requires.can.row, e.edited.len) in
    record {
      changes =
          subst (λ (v : List (List Held)). IsChanges r.width v c.lay.new.marks.items c.swap.new.x (c.args.t + 1)) (sym l.rows)
          (changed r.width r.rows.items r.marks.items c.lay.new.marks.items r.seam c.swap.new.x r.at (c.args.t + 1) c.args.t c.lay_from.new.row e.edited.changes there o.end l.len l.tall l.marks
          (rw (c.swap.ensures.x_after) o.seam_end)
          (λ n. c.swap.ensures.x_after ∙ o.seam_past (λ q. n (omega (arith, q, e.here)))));
      width = e.edited.width;
      len = ap length l.rows ∙ length-set r.rows.items c.args.t c.lay_from.new.row ∙ e.edited.len;
    }

pub returns-clause-kept : goal.returns-clause-kept
returns-clause-kept g c =
    let laid : c.in_ok-lay_from.field-0 ≡ true = c.if-not-branch.false in
    let r = c.bring_seam.new.s in
    let e = c.in_ok-bring_seam.ensures in
    let k = c.in_ok-lay_from.ensures.laid laid in
    let f = c.in_ok-lay_from.ensures in
    let words = g.S.Source.words c.args.source.now in
    let n = c.note.ensures in
    let there : r.at < length r.rows.items = omega (arith, c.requires.can.row, e.edited.len, e.here) in
    let rows : c.lay.new.rows.items ≡ set r.rows.items r.at c.lay_from.new.row = c.in_ok-lay.ensures.rows ∙ ap (λ (k : ℕ). set r.rows.items k c.lay_from.new.row) (sym e.here) in
    let put : (d u : ℕ) → d < r.width → u < length r.rows.items → standing (begins_at c.lay.new.rows.items c.swap.new.x (r.at + 1) d) u ≡ cond (eqb u r.at && is_in c.args.set.now d) (words d) (standing (begins_at r.rows.items r.seam r.at d) u) =
    stands_over r.rows.items r.rows.items c.lay.new.rows.items r.seam r.seam c.lay_from.new.seam c.swap.new.x c.lay_from.new.row c.lay_from.new.row r.at r.at r.at (λ _ _. refl) refl rows refl c.swap.ensures.x_after there (λ m. absurd (m refl)) r.width c.args.set.now words k.over in
    let still : (d : ℕ) → d < r.width → is_in c.args.set.now d ≡ true → g.S.Source.still c.args.source.now d ≡ true → words d ≡ standing_before (begins_at r.rows.items r.seam r.at d) r.at = λ d h m st.
    c.requires.can.still d (omega (arith, h, e.edited.width)) m st
    ∙ sym (alike_before (begins_at c.args.s.now.rows.items c.args.s.now.seam c.args.s.now.at d) (begins_at r.rows.items r.seam r.at d) c.args.t (λ k _. e.same d k))
    ∙ ap (standing_before (begins_at r.rows.items r.seam r.at d)) (sym e.here) in
    record {
      changes = (returns-clause-edited g c).changes;
      room = f.kept.room;
      notes = c.note.ensures.room r.width f.kept.notes;
      noted =
          subst (λ (k : ℕ). IsNoted c.lay.new.rows.items c.swap.new.x (k + 1) r.width c.note.new.n) e.here
          (noted_next r.rows.items c.lay.new.rows.items r.seam c.swap.new.x r.at r.width c.args.set.now c.lay_from.new.k.moved.items c.lay_from.new.changed c.lay_from.new.n.kept.items (g.S.Source.still c.args.source.now) words c.lay_from.new.n c.note.new.n there put f.moved still f.told k.kept f.kept.noted k.heads f.kept.notes.known n.apart n.heads
          (λ d h. n.known d h ∙ ap (λ (v : List ℕ). (is_in c.lay_from.new.n.known.items d && is_in c.args.set.now d) || is_in v d) c.deref.ensures.value));
    }

pub returns-then-not-branch-clause-put : goal.returns-then-not-branch-clause-put
returns-then-not-branch-clause-put g c = λ d u small _.
    let s = c.args.s.now in
    let r = c.bring_seam.new.s in
    let e = c.in_ok-bring_seam.ensures in
    let words = g.S.Source.words c.args.source.now in
    let told : IsTold r.rows.items r.seam r.at c.args.t c.args.set.now words r.width c.lay_from.new.changed = subst (λ (k : ℕ). IsTold r.rows.items r.seam r.at k c.args.set.now words r.width c.lay_from.new.changed) e.here c.in_ok-lay_from.ensures.told in
    let none : c.in_ok-lay_from.field-0 ≡ false = c.if-not-branch.true in
    stands_still s.rows.items r.rows.items s.seam r.seam s.at r.at c.args.t r.width c.args.set.now words c.lay_from.new.changed e.same told (c.in_ok-lay_from.ensures.none none) d u (omega (arith, small, e.edited.width))

pub returns-then-not-branch-clause-told : goal.returns-then-not-branch-clause-told
returns-then-not-branch-clause-told g c =
    let s = c.args.s.now in
    let r = c.bring_seam.new.s in
    let e = c.in_ok-bring_seam.ensures in
    let words = g.S.Source.words c.args.source.now in
    let told : IsTold r.rows.items r.seam r.at c.args.t c.args.set.now words r.width c.lay_from.new.changed = subst (λ (k : ℕ). IsTold r.rows.items r.seam r.at k c.args.set.now words r.width c.lay_from.new.changed) e.here c.in_ok-lay_from.ensures.told in
    rw (sym e.edited.width) (told_same s.rows.items r.rows.items s.seam r.seam s.at r.at c.args.t r.width c.args.set.now words c.lay_from.new.changed e.same told)
