use Rattle.std.proofs.Common.{◌≡◌, ◌∙◌, sym, ap, arith, rules, List, ℕ, length}
use Rattle.std.proofs.lemmas.List.{with_items_is, places}
use Rattle.std.proofs.lemmas.Bool.{true≢false, not-true}
use Rattle.change_rows.specs.Marks.{is_in}
use Rattle.cell_states.proofs.Whole.{words_are_put, words_filled, awake_within, all_awake}
use Rattle.cell_states.proofs.states.whole.put_words.Goals as goal

pub fill-requires-clause-none : goal.fill-requires-clause-none
fill-requires-clause-none g c = λ d h. c.is_blank.ensures c.if-is_blank.true d h

pub fill-requires-clause-has : goal.fill-requires-clause-has
fill-requires-clause-has g c = λ d h. (c.requires.stands, omega (arith, h, c.requires.at.wide, c.requires.at.components))

pub fill-requires-clause-still : goal.fill-requires-clause-still
fill-requires-clause-still g c = λ d h s. (c.requires.at.later, c.requires.still d (all_awake c.args.set.now (omega (arith, c.count.ensures, c.len.ensures, c.if-count-len.true)) d (omega (arith, h, c.requires.at.wide))) (not-true _ s))

pub put_from-requires-clause-has : goal.put_from-requires-clause-has
put_from-requires-clause-has g c = λ d h a. (c.requires.stands, omega (arith, h, c.requires.at.wide, c.requires.at.components))

pub put_from-requires-clause-still : goal.put_from-requires-clause-still
put_from-requires-clause-still g c = λ d h a s. (c.requires.at.later, c.requires.still d (sym (c.words-words.ensures.bits d (omega (arith, h, c.requires.at.wide))) ∙ a) (not-true _ s))

pub returns-in-Ok-clause-put : goal.returns-in-Ok-clause-put
returns-in-Ok-clause-put g c =
    words_filled c.args.rows.now c.fill.new.self c.len-end.ensures.whole c.args.cycle c.requires.at.within c.words-words.result.now (λ d. g.G.Grid.codec.words (g.M.WholeRow.state c.args.row.now d)) c.args.set.now c.requires.at.wide c.words-words.ensures.bits (omega (arith, c.count.ensures, c.len.ensures, c.if-count-len.true)) c.in-Ok.ensures

pub returns-in-Ok-put_from-clause-put : goal.returns-in-Ok-put_from-clause-put
returns-in-Ok-put_from-clause-put g c =
    words_are_put c.args.rows.now c.put_from.new.self c.len-end.ensures.whole c.args.cycle c.requires.at.within c.words-words.result.now (λ d. g.G.Grid.codec.words (g.M.WholeRow.state c.args.row.now d)) c.args.set.now c.requires.at.wide c.words-words.ensures.bits c.in-Ok-put_from.ensures.row

pub returns-in-Ok-clause-reworded : goal.returns-in-Ok-clause-reworded
returns-in-Ok-clause-reworded g c = record {
  room = omega (arith, c.words-words.ensures.room, ap length c.in_ok-copy_words.ensures);
  changed = λ d h e. (
    sym (c.words-words.ensures.bits d h) ∙ sym (ap (λ (ws : List ℕ). is_in ws d) c.in_ok-copy_words.ensures) ∙ e,
    λ q. g.G.Grid.codec_laws.some (g.M.WholeRow.state c.args.row.now d) (sym q ∙ c.is_blank.ensures c.if-is_blank.true d (omega (arith, h, c.requires.at.wide))),
  );
  same = λ d a e. absurd (true≢false (sym (ap (λ (ws : List ℕ). is_in ws d) c.in_ok-copy_words.ensures ∙ c.words-words.ensures.bits d (awake_within c.args.set.now d a) ∙ a) ∙ e));
}

pub returns-in-Ok-put_from-clause-reworded : goal.returns-in-Ok-put_from-clause-reworded
returns-in-Ok-put_from-clause-reworded g c =
    let v = c.copy_words.new.buffer in
    let lens : length c.put_from.new.changed ≡ v.len = search (rules, places) in
    let items = with_items_is v c.put_from.new.changed lens in
    record {
      room = omega (arith, c.words-words.ensures.room, ap length c.in_ok-copy_words.ensures, ap length items, lens, v.ok.0);
      changed = λ d h e. (let q = c.in-Ok-put_from.ensures.changed d (sym (ap (λ (ws : List ℕ). is_in ws d) items) ∙ e) in (sym (c.words-words.ensures.bits d h) ∙ q.1, q.2));
      same = λ d a e. (let h = awake_within c.args.set.now d a in c.in-Ok-put_from.ensures.same d (omega (arith, h, c.requires.at.wide)) (c.words-words.ensures.bits d h ∙ a) (sym (ap (λ (ws : List ℕ). is_in ws d) items) ∙ e));
    }
