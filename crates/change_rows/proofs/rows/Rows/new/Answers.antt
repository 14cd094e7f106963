use Rattle.std.proofs.Common.{◌≡◌, ℕ, ◌%◌, ◌/◌, ◌∙◌, sym, ap, arith, is_some, List, [], length}
use Rattle.change_rows.specs.Cells.{Held, found, end_of}
use Rattle.change_rows.specs.Marks.{is_set}
use Rattle.change_rows.specs.Changes.{row_at}
use Rattle.change_rows.proofs.Members.{no_one}
use Rattle.change_rows.proofs.Noting.{forgotten}
use Rattle.change_rows.proofs.rows.Rows.new.Goals as goal

pub invariant_of-result : goal.invariant_of-result
invariant_of-result c =
    let rows = c.new-3.ensures.items in
    let none : (t : ℕ) → row_at c.new-3.result.items t ≡ [] = λ t. ap (λ (v : List (List Held)). row_at v t) rows in
    record {
      changes = record {
        wide = λ t. omega (arith, ap end_of (none t));
        seam_wide = omega (arith, ap end_of c.new-4.ensures);
        seam_there = λ _. c.new-4.ensures;
        room = omega (arith, c.div_ceil.ensures, c.in_ok-marks.ensures.len);
        tall = λ w _. omega (arith, ap length rows);
        marked = λ t d _. ap (λ (v : List ℕ). is_set v t (d % 64)) (c.in_ok-marks.ensures.none (d / 64)) ∙ no_one (d % 64) ∙ sym (ap (λ (v : List Held). is_some (found v d)) (none t));
        short = omega (arith, ap length rows);
      };
      room = c.in_ok-kinds.ensures;
      notes = c.in_ok-notes.ensures.room;
      noted = forgotten c.new-3.result.items c.new-4.result 0 c.args.width c.in_ok-notes.notes c.in_ok-notes.ensures.apart c.in_ok-notes.ensures.known;
    }
