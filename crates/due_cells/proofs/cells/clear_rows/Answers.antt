use Rattle.std.proofs.Common.{◌≡◌, ◌<◌, ◌∙◌, sym, ap, arith, inl, inr, false, [], length, replicate, slice_index_or}
use Rattle.std.proofs.lemmas.Bool.{cases_lt}
use Rattle.due_cells.proofs.Counts.{none_counted_at}
use Rattle.due_cells.proofs.cells.clear_rows.Goals as goal

pub returns-then-total-eq0-clause-cleared : goal.returns-then-total-eq0-clause-cleared
returns-then-total-eq0-clause-cleared c t h l = elim (cases_lt t c.loop-t.t) [
  | inl before ↦ c.loop-t.invariant.cleared t h before
  | inr left ↦
      let inv = c.loop-t.invariant in
      let there : t < length c.args.due.now.rows = omega (arith, l, c.requires.end) in
      let width : length (slice_index_or c.loop-t.due.rows t []) ≡ c.args.due.now.width = ap length (inv.later t left) ∙ c.requires.whole t there in
      none_counted_at c.loop-t.due.rows t (sym c.total.ensures ∙ c.if-total-eq0.true) (omega (arith, there, inv.len)) ∙ ap (λ n. replicate n false) width
]
