use Rattle.std.proofs.Common.{◌≡◌, suc, ◌+◌, ◌∙◌, subst, arith, take, All, get_or}
use Rattle.std.proofs.lemmas.List.{take_all}
use Rattle.std.proofs.lemmas.List.Elements.{All-more}
use Rattle.cell_states.proofs.Next.{passed_more}
use Rattle.cell_states.proofs.states.each.load_near.Goals as goal

pub loop-component-preserved : goal.loop-component-preserved
loop-component-preserved g c =
    let inv = c.loop-component.invariant in
    let e = c.hold_words.ensures in
    let i = c.loop-component.component-index in
    let near = c.args.near.now in
    let n = c.args.cycle + 1 in
    let old = c.loop-component.held.at.items in
    let new = c.hold_words.new.held.at.items in
    let loaded = e.loaded c.if-not-hold_words.false in record {
      held = e.held;
      passed = All-more (λ d. get_or new d 0 ≡ n) near i 0 c.loop-component-test.true (passed_more old new (get_or near i 0) n (take i near) loaded e.others inv.passed) loaded;
    }

pub returns-clause-loaded : goal.returns-clause-loaded
returns-clause-loaded g c = λ _ k d h.
    let inv = c.loop-component.invariant in
    let near = c.args.near.now in
    let at = c.loop-component.held.at.items in
    let one : c.args.cycle + 1 ≡ suc c.args.cycle = omega arith in
    let passed = subst (All (λ d. get_or at d 0 ≡ c.args.cycle + 1)) (take_all c.loop-component.component-index near c.loop-component-test.false) inv.passed in
    inv.held.words (get_or near k d) c.args.cycle (c.requires.within k d h) (passed k d h ∙ one)
