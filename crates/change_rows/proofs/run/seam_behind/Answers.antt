use Rattle.std.proofs.Common.{◌≡◌, ◌+◌, ◌<◌, ◌∙◌, subst, arith, List, ℕ, Option, None, unwrap_or, length}
use Rattle.change_rows.specs.Cells.{found, component_at}
use Rattle.change_rows.specs.Standing.{standing}
use Rattle.change_rows.specs.Changes.{row_at, begins_at}
use Rattle.change_rows.proofs.Editing.{kept_more, only_more, end_more}
use Rattle.change_rows.proofs.Finding.{below_end}
use Rattle.change_rows.proofs.run.seam_behind.Goals as goal

pub keep_behind-requires-clause-component : goal.keep_behind-requires-clause-component
keep_behind-requires-clause-component c = omega (arith, c.component.ensures, below_end c.args.chosen.now c.loop-i.i (omega (arith, c.len-i-end.ensures.count)), c.requires.wide)

pub loop-i-preserved : goal.loop-i-preserved
loop-i-preserved c =
    let s = c.args.s.now in
    let chosen = c.args.chosen.now in
    let i = c.loop-i.i in
    let out = c.loop-i.out in
    let out1 = c.keep_behind.new.out in
    let e = c.in_ok-keep_behind.ensures in
    let there : i < length chosen = omega (arith, c.len-i-end.ensures.count) in
    let others : (d : ℕ) → (d ≡ component_at chosen i → ⊥) → found out1 d ≡ found out d = λ d n. e.others d (λ q. n (q ∙ c.component.ensures)) in
    record {
      kept = kept_more chosen out out1 i c.len-i-end.ensures.ascending there others
          (λ (k : ℕ) (w : List ℕ) (o : Option (List ℕ)). found (row_at s.rows.items (c.args.last + 1)) k ≡ None → unwrap_or o (standing (begins_at s.rows.items s.seam s.at k) c.args.before) ≡ standing (begins_at s.rows.items s.seam s.at k) c.args.last)
          c.loop-i.invariant.kept
          (subst (λ (k : ℕ). found (row_at s.rows.items (c.args.last + 1)) k ≡ None → unwrap_or (found out1 k) (standing (begins_at s.rows.items s.seam s.at k) c.args.before) ≡ standing (begins_at s.rows.items s.seam s.at k) c.args.last) c.component.ensures e.kept);
      only = only_more chosen out out1 i c.len-i-end.ensures.ascending there others c.loop-i.invariant.only;
      end = end_more chosen out1 i there (omega (arith, e.end, c.component.ensures));
    }
