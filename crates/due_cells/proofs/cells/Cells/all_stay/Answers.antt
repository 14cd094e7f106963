use Rattle.std.proofs.Common.{◌≡◌, ◌-◌, subst, All}
use Rattle.std.proofs.lemmas.List.{take_all}
use Rattle.std.proofs.lemmas.List.Elements.{All-more}
use Rattle.due_cells.specs.Seen.{held_at}
use Rattle.due_cells.proofs.cells.Cells.all_stay.Goals as goal

pub loop-component-preserved : goal.loop-component-preserved
loop-component-preserved g c =
    All-more (λ d. (held_at c.args.self.now (c.args.cycle - 1) d).state ≡ (held_at c.args.self.now c.args.cycle d).state) c.args.near.now c.loop-component.component-index 0 c.loop-component-test.true c.loop-component.invariant (c.stays.ensures c.if-not-stays.false).1

pub returns : goal.returns
returns g c = λ _.
    subst (All (λ d. (held_at c.args.self.now (c.args.cycle - 1) d).state ≡ (held_at c.args.self.now c.args.cycle d).state)) (take_all c.loop-component.component-index c.args.near.now c.loop-component-test.false) c.loop-component.invariant
