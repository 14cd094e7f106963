use Rattle.std.proofs.Common.{◌∙◌, sym, ap, arith, eqb, length, ◌∷◌, []}
use Rattle.change_rows.specs.Rows.{words_at}
use Rattle.change_lists.specs.Changes.{held_at as memory_at}
use Rattle.cell_states.specs.ReadsBy.{reads_by}
use Rattle.cell_states.proofs.Codes.{empty_words, no_state, some_state}
use Rattle.cell_states.proofs.Coded.{seen_at, seen_cycles}
use Rattle.cell_states.proofs.states.States.reads_to.Goals as goal

pub words_to-to-requires-clause-within : goal.words_to-to-requires-clause-within
words_to-to-requires-clause-within g c =
    let i = c.self.inside in
    omega (arith, c.requires.within, seen_cycles g.G.Grid.codec i.words i.memories c.args.self.now c.self.view_is)

pub returns-then-is_empty-clause-reads : goal.returns-then-is_empty-clause-reads
returns-then-is_empty-clause-reads g c = λ t low high.
    let i = c.self.inside in
    let C = g.G.Grid.codec in
    let s = c.args.self.now in
    let d = c.args.cell.component in
    let none = empty_words _ (ap (λ ws. eqb (length ws) 0) (c.words_to-to.ensures.same t low high) ∙ sym c.is_empty.ensures ∙ c.if-is_empty.true) in
    sym (ap (reads_by g.G.Grid.rules c.args.slots.now d c.args.slot.now) (seen_at C i.words i.memories s c.self.view_is c.self.invariant.0.whole t d ∙ no_state C _ _ none))

pub returns-clause-reads : goal.returns-clause-reads
returns-clause-reads g c = λ t low high.
    let i = c.self.inside in
    let C = g.G.Grid.codec in
    let s = c.args.self.now in
    let d = c.args.cell.component in
    let R = g.G.Grid.rules in
    let m = memory_at i.memories d t in
    let same = c.words_to-to.ensures.same t low high in
    let some = ap (λ ws. eqb (length ws) 0) same ∙ sym c.is_empty.ensures ∙ c.if-is_empty.false in
    c.words_read.ensures m
    ∙ ap (λ ws. R.reads c.args.slots.now (C.state ws m ∷ []) d c.args.slot.now) (sym same)
    ∙ sym (ap (reads_by R c.args.slots.now d c.args.slot.now) (seen_at C i.words i.memories s c.self.view_is c.self.invariant.0.whole t d ∙ some_state C (words_at i.words.rows t d) m some))
