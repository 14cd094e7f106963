use Rattle.std.proofs.Common.{◌≡◌, ℕ, ◌-◌, ◌<◌, ◌∙◌, sym, arith}
use Rattle.change_lists.specs.Changes.{list_at}
use Rattle.cell_states.specs.Stated.{state_at}
use Rattle.cell_states.proofs.Codes.{same_code}
use Rattle.cell_states.proofs.Coded.{seen_at, stands}
use Rattle.cell_states.proofs.Changed.{before_is}
use Rattle.cell_states.proofs.states.States.stands_to.Goals as goal

pub returns-clause-before : goal.returns-clause-before
returns-clause-before g c = omega (arith, c.next.ensures.to, c.next_of-to.ensures.to (omega (arith, c.requires.before)))

pub returns-clause-same : goal.returns-clause-same
returns-clause-same g c =
    let i = c.self.inside in
    let C = g.G.Grid.codec in
    let s = c.args.self.now in
    let t = c.args.cell.cycle in
    let d = c.args.cell.component in
    let seen = seen_at C i.words i.memories s c.self.view_is c.self.invariant.0.whole in
    let step : (u : ℕ) → t < u → u < c.next.result → state_at s u d ≡ state_at s (u - 1) d = λ u h k. (
    let w = c.next_of-to.ensures.steady u (omega (arith, h)) (omega (arith, k, c.next.ensures.to)) in
    let m = c.next.ensures.steady u (omega (arith, h)) k in
    seen u d ∙ same_code C _ _ _ _ w.1 (m ∙ before_is (list_at i.memories d) u w.0) ∙ sym (seen (u - 1) d)) in
    stands (λ u. state_at s u d) t c.next.result step
