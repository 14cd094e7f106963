use Rattle.std.proofs.Common.{◌≡◌, ◌-◌, ◌∙◌, sym, subst, All, get_or}
use Rattle.std.proofs.lemmas.List.{take_all}
use Rattle.std.proofs.lemmas.List.Elements.{All-more}
use Rattle.change_rows.specs.Rows.{words_at}
use Rattle.change_lists.specs.Changes.{list_at, held_at as memory_at}
use Rattle.cell_states.proofs.Changed.{before_is}
use Rattle.cell_states.proofs.states.each.all_stay.Goals as goal

pub loop-component-preserved : goal.loop-component-preserved
loop-component-preserved g c =
    let t = c.args.cycle in
    let b = c.begins.ensures c.if-begins.false in
    let d = get_or c.args.near.now c.loop-component.component-index 0 in
    All-more (λ d. (words_at c.args.rows.now.rows (t - 1) d ≡ words_at c.args.rows.now.rows t d) × (memory_at c.args.memories.now d (t - 1) ≡ memory_at c.args.memories.now d t)) c.args.near.now c.loop-component.component-index 0 c.loop-component-test.true c.loop-component.invariant
    (sym b.1, sym (c.begins-else-begins.ensures.steady c.if-begins-2.false ∙ before_is (list_at c.args.memories.now d) t b.0))

pub returns : goal.returns
returns g c = λ _.
    let t = c.args.cycle in
    subst (All (λ d. (words_at c.args.rows.now.rows (t - 1) d ≡ words_at c.args.rows.now.rows t d) × (memory_at c.args.memories.now d (t - 1) ≡ memory_at c.args.memories.now d t))) (take_all c.loop-component.component-index c.args.near.now c.loop-component-test.false) c.loop-component.invariant
