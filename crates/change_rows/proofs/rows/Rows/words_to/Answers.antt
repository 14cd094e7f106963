use Rattle.std.proofs.Common.{◌≤◌, ◌<◌, ◌∙◌, inr, sym, ap, arith, length}
use Rattle.change_rows.specs.Rows.{Table, words_at}
use Rattle.change_rows.specs.Changes.{begins_at}
use Rattle.change_rows.proofs.Standing.{carried}
use Rattle.change_rows.proofs.Tables.{at_table, length_table, no_cell_there}
use Rattle.change_rows.proofs.Viewing.{cells}
use Rattle.change_rows.proofs.rows.Rows.words_to.Goals as goal

pub returns-then-c-self-clause-same : goal.returns-then-c-self-clause-same
returns-then-c-self-clause-same c = λ u low high.
    let i = c.self.inside.changes in
    sym (ap (λ (v : Table). words_at v.rows u c.args.c) c.self.view_is)
    ∙ no_cell_there (cells i.rows.items i.seam i.at) (length i.rows.items) i.width u c.args.c (inr (omega (arith, c.if-c-self.true)))

pub words_to-requires-clause-end : goal.words_to-requires-clause-end
words_to-requires-clause-end c =
    let i = c.self.inside.changes in
    omega (arith, c.requires.within, length_table (cells i.rows.items i.seam i.at) (length i.rows.items) i.width, ap (λ (v : Table). length v.rows) c.self.view_is)

pub returns-clause-same : goal.returns-clause-same
returns-clause-same c = λ u low high.
    let i = c.self.inside.changes in
    let e = c.words_to.ensures in
    let within : c.args.end ≤ length i.rows.items = omega (arith, c.requires.within, length_table (cells i.rows.items i.seam i.at) (length i.rows.items) i.width, ap (λ (v : Table). length v.rows) c.self.view_is) in
    let here : u < length i.rows.items = omega (arith, high, e.to, within) in
    sym (ap (λ (v : Table). words_at v.rows u c.args.c) c.self.view_is)
    ∙ at_table (cells i.rows.items i.seam i.at) (length i.rows.items) i.width u c.args.c here (omega (arith, c.if-c-self.false))
    ∙ carried (begins_at i.rows.items i.seam i.at c.args.c) c.args.t u low (λ k l h. e.steady k l (omega (arith, h, high)))
    ∙ sym e.words
