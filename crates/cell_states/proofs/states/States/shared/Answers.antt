use Rattle.std.proofs.Common.{◌∙◌, sym, ap, eqb, length, Some}
use Rattle.std.specs.Option.{option_copied}
use Rattle.change_rows.specs.Rows.{words_at}
use Rattle.change_lists.specs.Changes.{held_at as memory_at}
use Rattle.cell_states.proofs.Codes.{empty_words, no_state, some_state}
use Rattle.cell_states.proofs.Coded.{seen_at}
use Rattle.cell_states.proofs.states.States.shared.Goals as goal

pub returns-then-is_empty : goal.returns-then-is_empty
returns-then-is_empty g c =
    let i = c.self.inside in
    let C = g.G.Grid.codec in
    let s = c.args.self.now in
    let t = c.args.cell.cycle in
    let d = c.args.cell.component in
    let none = empty_words _ (ap (λ ws. eqb (length ws) 0) (sym c.words-words.ensures) ∙ sym c.is_empty.ensures ∙ c.if-is_empty.true) in
    sym (seen_at C i.words i.memories s c.self.view_is c.self.invariant.0.whole t d ∙ no_state C _ _ none)

pub returns : goal.returns
returns g c =
    let i = c.self.inside in
    let C = g.G.Grid.codec in
    let s = c.args.self.now in
    let t = c.args.cell.cycle in
    let d = c.args.cell.component in
    let m = memory_at i.memories d t in
    let some = ap (λ ws. eqb (length ws) 0) (sym c.words-words.ensures) ∙ sym c.is_empty.ensures ∙ c.if-is_empty.false in
    ap Some (c.in_ok-state.ensures ∙ ap (λ ws. C.state ws (option_copied c.at-memory.result)) c.words-words.ensures ∙ ap (C.state (words_at i.words.rows t d)) c.at-memory.ensures)
    ∙ sym (some_state C (words_at i.words.rows t d) m some)
    ∙ sym (seen_at C i.words i.memories s c.self.view_is c.self.invariant.0.whole t d)
