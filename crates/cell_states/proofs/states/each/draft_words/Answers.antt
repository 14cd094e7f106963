use Rattle.std.proofs.Common.{rules, ◌∙◌, sym}
use Rattle.std.proofs.lemmas.Bool.{true≢false}
use Rattle.std.proofs.lemmas.Slice.Eq.{slice_eq-Decides}
use Rattle.change_rows.proofs.Editing.{pushed_other}
use Rattle.cell_states.proofs.Drafted.{drafted_none, drafted_end, drafted_more}
use Rattle.cell_states.proofs.states.each.draft_words.Goals as goal

pub returns-then-eq-clause-here : goal.returns-then-eq-clause-here
returns-then-eq-clause-here c =
    let eq = slice_eq-Decides (λ a b. search rules) _ _ _ c.eq.ensures in
    drafted_none c.args.rows.now.rows c.args.draft.now c.args.cell.cycle c.args.cell.component c.args.words.now c.requires.after (sym (eq.0 c.if-eq.true ∙ c.words.ensures))

pub returns-in-Ok-clause-after : goal.returns-in-Ok-clause-after
returns-in-Ok-clause-after c =
    drafted_end c.args.rows.now.rows c.args.draft.now c.push.new.self c.args.cell.cycle c.args.cell.component c.args.words.now c.requires.after c.in-Ok.ensures

pub returns-in-Ok-clause-here : goal.returns-in-Ok-clause-here
returns-in-Ok-clause-here c =
    let eq = slice_eq-Decides (λ a b. search rules) _ _ _ c.eq.ensures in
    drafted_more c.args.rows.now.rows c.args.draft.now c.push.new.self c.args.cell.cycle c.args.cell.component c.args.words.now c.requires.after c.in-Ok.ensures
    (λ same. true≢false (sym (eq.1 (sym (c.words.ensures ∙ same))) ∙ c.if-eq.false))

pub returns-in-Ok-clause-others : goal.returns-in-Ok-clause-others
returns-in-Ok-clause-others c = λ d n. pushed_other c.args.draft.now c.push.new.self c.args.cell.component c.args.words.now c.in-Ok.ensures d n
