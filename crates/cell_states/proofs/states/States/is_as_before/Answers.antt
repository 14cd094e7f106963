use Rattle.std.proofs.Common.{rules, ◌-◌, ◌∙◌, sym, ap, refl, eqb, length}
use Rattle.std.proofs.lemmas.Bool.{false≢true}
use Rattle.std.proofs.lemmas.Slice.Eq.{slice_eq-Decides}
use Rattle.change_rows.specs.Rows.{words_at}
use Rattle.cell_states.proofs.Codes.{same_code, same_words, same_memory, empty_words, no_state, has_words}
use Rattle.cell_states.proofs.Coded.{seen_at}
use Rattle.cell_states.proofs.states.States.is_as_before.Goals as goal

pub returns-then-not-same : goal.returns-then-not-same
returns-then-not-same g c =
    let i = c.self.inside in
    let C = g.G.Grid.codec in
    let s = c.args.self.now in
    let t = c.args.cell.cycle in
    let d = c.args.cell.component in
    let seen = seen_at C i.words i.memories s c.self.view_is c.self.invariant.0.whole in
    let codes = c.self.invariant.0.codes in
    let eq = slice_eq-Decides (λ a b. search rules) _ _ _ c.eq-same.ensures in (
      λ e. absurd (false≢true e),
      λ e. sym c.if-not-same.true ∙ eq.1 (c.words-before.ensures ∙ same_words C g.G.Grid.codec_laws _ _ _ _ (codes (t - 1) d) (codes t d) (sym (seen (t - 1) d) ∙ e ∙ seen t d) ∙ sym c.words-words.ensures),
    )

pub returns-then-is_empty : goal.returns-then-is_empty
returns-then-is_empty g c =
    let i = c.self.inside in
    let C = g.G.Grid.codec in
    let s = c.args.self.now in
    let t = c.args.cell.cycle in
    let d = c.args.cell.component in
    let seen = seen_at C i.words i.memories s c.self.view_is c.self.invariant.0.whole in
    let codes = c.self.invariant.0.codes in
    let eq = slice_eq-Decides (λ a b. search rules) _ _ _ c.eq-same.ensures in
    let none = empty_words (words_at i.words.rows t d) (ap (λ ws. eqb (length ws) 0) (sym c.words-words.ensures) ∙ sym c.is_empty.ensures ∙ c.if-is_empty.true) in
    let same = sym c.words-before.ensures ∙ eq.0 c.if-not-same.false ∙ c.words-words.ensures in (
      λ e. seen (t - 1) d ∙ no_state C _ _ (same ∙ none) ∙ sym (no_state C _ _ none) ∙ sym (seen t d),
      λ e. refl,
    )

pub returns : goal.returns
returns g c =
    let i = c.self.inside in
    let C = g.G.Grid.codec in
    let s = c.args.self.now in
    let t = c.args.cell.cycle in
    let d = c.args.cell.component in
    let seen = seen_at C i.words i.memories s c.self.view_is c.self.invariant.0.whole in
    let codes = c.self.invariant.0.codes in
    let eq = slice_eq-Decides (λ a b. search rules) _ _ _ c.eq-same.ensures in
    let some = has_words (words_at i.words.rows t d) (ap (λ ws. eqb (length ws) 0) (sym c.words-words.ensures) ∙ sym c.is_empty.ensures ∙ c.if-is_empty.false) in
    let same = sym c.words-before.ensures ∙ eq.0 c.if-not-same.false ∙ c.words-words.ensures in
    let is = c.is_same.ensures in (
      λ e. seen (t - 1) d ∙ same_code C _ _ _ _ same (sym c.at.ensures ∙ is.0 e ∙ c.at-2.ensures) ∙ sym (seen t d),
      λ e. is.1 (c.at.ensures ∙ sym (same_memory C g.G.Grid.codec_laws _ _ _ _ some (codes t d) (codes (t - 1) d) (sym (seen t d) ∙ sym e ∙ seen (t - 1) d)) ∙ sym c.at-2.ensures),
    )
