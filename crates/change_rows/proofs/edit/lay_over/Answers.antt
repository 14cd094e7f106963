use Rattle.std.proofs.Common.{◌≡◌, ◌+◌, ◌<◌, ◌∙◌, ap, sym, subst, arith, List, ℕ, Option, None, length, take, get_or, unwrap_or}
use Rattle.std.proofs.lemmas.List.{take_all}
use Rattle.change_rows.specs.Cells.{Held, no_cell, found, end_of, component_at}
use Rattle.change_rows.specs.Standing.{standing, standing_before}
use Rattle.change_rows.specs.Changes.{row_at, begins_at}
use Rattle.change_rows.proofs.Finding.{below_end}
use Rattle.change_rows.proofs.Merging.{taken_end}
use Rattle.change_rows.proofs.Editing.{kept_more, only_more}
use Rattle.change_rows.proofs.Laying.{ran_below, ran_low, ran_others, ran_end, slice_end, some_low, laid_kept, laid_others}
use Rattle.change_rows.proofs.edit.lay_over.Goals as goal

pub put_cell-requires-clause-component : goal.put_cell-requires-clause-component
put_cell-requires-clause-component c =
    let there : c.loop-i.i < length c.args.draft.now = omega (arith, c.loop-i-test.true, c.len-i-end.ensures.count) in
    omega (arith, c.component-c.ensures, below_end c.args.draft.now c.loop-i.i there, c.requires.wide)

pub put_cell-requires-clause-ascending : goal.put_cell-requires-clause-ascending
put_cell-requires-clause-ascending c =
    let s = c.args.s.now in
    let l = c.loop-i in
    let t = c.args.t in
    let draft = c.args.draft.now in
    let row = c.args.under.now in
    let there : l.i < length draft = omega (arith, c.loop-i-test.true, c.len-i-end.ensures.count) in
    ran_below row (take l.i draft) l.row c.append.new.self l.from c.seek-place.result c.seek-place.ensures.ascending c.seek-place.ensures.order c.seek-place.ensures.split.within l.invariant.high c.in_ok-append.ensures c.component-c.result
    (omega (arith, l.invariant.end, c.len-i-end.ensures.ascending l.i there, c.component-c.ensures)) c.seek-place.ensures.split.below

pub loop-i-preserved : goal.loop-i-preserved
loop-i-preserved c =
    let s = c.args.s.now in
    let l = c.loop-i in
    let t = c.args.t in
    let draft = c.args.draft.now in
    let row = c.args.under.now in
    let there : l.i < length draft = omega (arith, c.loop-i-test.true, c.len-i-end.ensures.count) in
    let e = c.in_ok-put_cell.ensures in
    let row1 = c.put_cell.new.row in
    let seam1 = c.put_cell.new.seam in
    let seam_others : (d : ℕ) → (d ≡ component_at draft l.i → ⊥) → found seam1 d ≡ found l.seam d = λ d n. e.seam_others d (λ k. n (k ∙ c.component-c.ensures)) in
    let next_end : end_of (take (l.i + 1) draft) ≡ c.component-c.result + 1 = omega (arith, taken_end draft l.i there, c.component-c.ensures, c.len-i-end.ensures.ascending l.i there) in
    record {
      there = c.behind-from.ensures.there;
      low = omega (arith, next_end, c.behind-from.ensures.low);
      high = λ h. omega (arith, next_end, c.behind-from.ensures.high h);
      kept = laid_kept row draft l.row c.append.new.self c.put_cell.new.row l.from l.i c.component-c.result c.seek-place.result c.behind-from.result c.seek-place.ensures.ascending c.len-i-end.ensures.ascending c.seek-place.ensures.order c.seek-place.ensures.split.within there c.component-c.ensures l.invariant.high c.in_ok-append.ensures e.pushed.others c.behind-from.ensures.others
          (λ (k : ℕ) (w : List ℕ) (o : Option (List ℕ)). unwrap_or o (standing_before (begins_at s.rows.items s.seam s.at k) t) ≡ w)
          l.invariant.kept
          (subst (λ (k : ℕ). unwrap_or (found row1 k) (standing_before (begins_at s.rows.items s.seam s.at k) t) ≡ (get_or draft l.i no_cell).words) c.component-c.ensures (e.pushed.kept ∙ c.words.ensures));
      others = laid_others row draft l.row c.append.new.self c.put_cell.new.row l.from l.i c.component-c.result c.seek-place.result c.behind-from.result c.seek-place.ensures.ascending c.len-i-end.ensures.ascending c.seek-place.ensures.order c.seek-place.ensures.split.within there c.component-c.ensures l.invariant.high c.in_ok-append.ensures e.pushed.others c.behind-from.ensures.others l.invariant.others;
      end = omega (arith, e.pushed.end, next_end);
      seam_kept = kept_more draft l.seam seam1 l.i c.len-i-end.ensures.ascending there seam_others
          (λ (k : ℕ) (w : List ℕ) (o : Option (List ℕ)). t + 1 < length s.rows.items → found (row_at s.rows.items (t + 1)) k ≡ None → unwrap_or o w ≡ standing (begins_at s.rows.items s.seam s.at k) t)
          l.invariant.seam_kept
          (subst (λ (k : ℕ). t + 1 < length s.rows.items → found (row_at s.rows.items (t + 1)) k ≡ None → unwrap_or (found seam1 k) (get_or draft l.i no_cell).words ≡ standing (begins_at s.rows.items s.seam s.at k) t) c.component-c.ensures (λ h none. ap (unwrap_or (found seam1 c.component-c.result)) (sym c.words.ensures) ∙ e.seam_kept h none));
      seam_only = only_more draft l.seam seam1 l.i c.len-i-end.ensures.ascending there seam_others l.invariant.seam_only;
      seam_end = omega (arith, e.seam_end, next_end);
      seam_past = λ n. e.seam_past n ∙ l.invariant.seam_past n;
    }

pub returns : goal.returns
returns c =
    let s = c.args.s.now in
    let l = c.loop-i in
    let t = c.args.t in
    let draft = c.args.draft.now in
    let row = c.args.under.now in
    let n : c.len.result ≡ length row = c.len.ensures.count in
    let whole : take l.i draft ≡ draft = take_all l.i draft (omega (arith, c.loop-i-test.false, c.len-i-end.ensures.count)) in
    let here : (d : ℕ) → found (take l.i draft) d ≡ found draft d = λ d. ap (λ (v : List Held). found v d) whole in
    record {
      kept = λ d w e.
          ap (λ (o : Option (List ℕ)). unwrap_or o (standing_before (begins_at s.rows.items s.seam s.at d) t)) (ran_low row (take l.i draft) l.row c.append-2.new.self l.from c.len.result c.len.ensures.ascending (omega (arith, n, l.invariant.there)) (omega (arith, n)) l.invariant.high c.in_ok-append-2.ensures d (some_low (take l.i draft) d w (here d ∙ e)))
          ∙ l.invariant.kept d w (here d ∙ e);
      others = λ d e.
          ran_others row (take l.i draft) l.row c.append-2.new.self l.from c.len.result c.len.ensures.ascending (omega (arith, n, l.invariant.there)) (omega (arith, n)) l.invariant.high c.in_ok-append-2.ensures d (l.invariant.others d (here d ∙ e))
          ∙ ap (λ (v : List Held). found v d) (take_all c.len.result row (omega (arith, n)));
      end = omega (arith, ran_end row (take l.i draft) l.row c.append-2.new.self l.from c.len.result c.len.ensures.ascending (omega (arith, n, l.invariant.there)) (omega (arith, n)) l.invariant.high c.in_ok-append-2.ensures, slice_end row l.from c.len.result (omega (arith, n, l.invariant.there)), ap end_of (take_all c.len.result row (omega (arith, n))), ap end_of whole, l.invariant.end, c.requires.under_wide, c.requires.wide);
      seam_kept = λ h d w e. l.invariant.seam_kept d w (here d ∙ e) h;
      seam_only = λ d e. l.invariant.seam_only d (here d ∙ e);
      seam_end = omega (arith, ap end_of whole, l.invariant.seam_end, c.requires.wide);
      seam_past = l.invariant.seam_past;
    }
