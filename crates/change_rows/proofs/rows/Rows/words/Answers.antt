use Rattle.std.proofs.Common.{◌≤◌, ◌∙◌, ◌⊎◌, inl, inr, sym, ap, arith, length}
use Rattle.change_rows.specs.Rows.{Table, words_at}
use Rattle.change_rows.proofs.Tables.{at_table, no_cell_there}
use Rattle.change_rows.proofs.Viewing.{cells}
use Rattle.change_rows.proofs.rows.Rows.words.Goals as goal
use Rattle.change_rows.proofs.rows.Rows.words.Goals.{then-t-len-via-then-t-len, then-t-len-via-else-t-len+then-c-self}

pub returns-then-t-len : goal.returns-then-t-len
returns-then-t-len c =
    let i = c.self.inside.changes in
    let past : (length i.rows.items ≤ c.args.t) ⊎ (i.width ≤ c.args.c) =
    elim c.then-t-len.branch [
      | then-t-len-via-then-t-len w ↦ inl (omega (arith, w.if-t-len.true, c.len.ensures, i.rows.ok.0))
      | then-t-len-via-else-t-len+then-c-self w ↦ inr (omega (arith, w.if-c-self.true))
    ]
    in
    sym (no_cell_there (cells i.rows.items i.seam i.at) (length i.rows.items) i.width c.args.t c.args.c past)
    ∙ ap (λ (v : Table). words_at v.rows c.args.t c.args.c) c.self.view_is

pub returns : goal.returns
returns c =
    let i = c.self.inside.changes in
    c.words_in.ensures
    ∙ sym (at_table (cells i.rows.items i.seam i.at) (length i.rows.items) i.width c.args.t c.args.c (omega (arith, c.if-t-len.false, c.len.ensures, i.rows.ok.0)) (omega (arith, c.if-c-self.false)))
    ∙ ap (λ (v : Table). words_at v.rows c.args.t c.args.c) c.self.view_is
