use Rattle.std.proofs.Common.{◌+◌, ◌<◌, ◌∙◌, ap, sym, subst, refl, arith, rules, length, List, ℕ}
use Rattle.change_rows.specs.Marks.{is_in}
use Rattle.change_rows.specs.Cells.{Held}
use Rattle.change_rows.specs.Changes.{begins_at, IsChanges}
use Rattle.change_rows.proofs.Editing.{changed}
use Rattle.change_rows.proofs.Putting.{alike, alike_before}
use Rattle.change_rows.proofs.Filling.{filled_kept, blank_kept}
use Rattle.change_rows.proofs.Sourcing.{stands_at}
use Rattle.change_rows.proofs.fill.fill.Goals as goal

pub blank_behind-requires : goal.blank_behind-requires
blank_behind-requires g c =
    let s = c.args.s.now in
    let m = c.settle_for.new.s in
    let e = c.in_ok-settle_for.ensures in
    record {
      changes = e.edited.changes;
      row = omega (arith, c.requires.blank.row, e.edited.len);
      none = λ d h. alike (begins_at s.rows.items s.seam s.at d) (begins_at m.rows.items m.seam m.at d) c.args.t (λ u _. e.same d u) ∙ c.requires.blank.none d (omega (arith, h, e.edited.width));
    }

pub returns-clause-filled : goal.returns-clause-filled
returns-clause-filled g c = λ d u small here.
    let s = c.args.s.now in
    let m = c.settle_for.new.s in
    let e = c.in_ok-settle_for.ensures in
    let b = c.in_ok-blank_behind.ensures in
    let w = c.in_ok-write_all.ensures in
    let words = g.S.Source.words c.args.source.now in
    let there : c.args.t < length m.rows.items = omega (arith, c.requires.blank.row, e.edited.len) in
    let low : d < m.width = omega (arith, small, e.edited.width) in
    stands_at s.rows.items m.rows.items c.lay.new.rows.items s.seam m.seam c.blank_behind.new.out c.swap.new.x c.write_all.new.row c.write_all.new.row s.at m.at c.args.t e.same e.edited.len c.in_ok-lay.ensures.rows refl c.swap.ensures.x_after there e.elsewhere d (words d)
    (filled_kept (is_in c.deref.result.now d) _ _ (words d) (w.written d low) (w.still d) (λ still. c.requires.still d small (c.mark_moved.ensures.still d (omega (arith, small, c.requires.room.moved)) (ap (λ (v : List ℕ). is_in v d) (sym c.deref.ensures.value) ∙ still)) ∙ sym (alike_before (begins_at s.rows.items s.seam s.at d) (begins_at m.rows.items m.seam m.at d) c.args.t (λ k _. e.same d k))))
    (λ l _. blank_kept _ (words d) _ (b.found l d low) (alike (begins_at s.rows.items s.seam s.at d) (begins_at m.rows.items m.seam m.at d) c.args.t (λ k _. e.same d k) ∙ c.requires.blank.none d small))
    u here

pub returns-in_err-write_all-clause-room : goal.returns-in_err-write_all-clause-room
returns-in_err-write_all-clause-room g c = c.mark_moved.ensures.room c.args.s.now.width c.requires.room

pub returns-in_err-lay-clause-room : goal.returns-in_err-lay-clause-room
returns-in_err-lay-clause-room g c = c.mark_moved.ensures.room c.args.s.now.width c.requires.room

pub returns-clause-room : goal.returns-clause-room
returns-clause-room g c = c.mark_moved.ensures.room c.args.s.now.width c.requires.room

pub returns-clause-edited : goal.returns-clause-edited
returns-clause-edited g c =
    let r = c.settle_for.new.s in
    let e = c.in_ok-settle_for.ensures in
    let b = c.in_ok-blank_behind.ensures in
    let l = c.in_ok-lay.ensures in
    let there : c.args.t < length r.rows.items = omega (arith, c.requires.blank.row, e.edited.len) in
    record {
      changes =
          subst (λ (v : List (List Held)). IsChanges r.width v c.lay.new.marks.items c.swap.new.x (c.args.t + 1)) (sym l.rows)
          (changed r.width r.rows.items r.marks.items c.lay.new.marks.items r.seam c.swap.new.x r.at (c.args.t + 1) c.args.t c.write_all.new.row e.edited.changes there c.in_ok-write_all.ensures.end l.len l.tall l.marks (rw (c.swap.ensures.x_after) b.end) (λ n. c.swap.ensures.x_after ∙ b.past n));
      width = e.edited.width;
      len = search rules;
    }
