use Rattle.std.proofs.Common.{◌-◌, ◌∙◌, sym}
use Rattle.change_lists.specs.Changes.{list_at}
use Rattle.cell_states.proofs.Codes.{same_code, is_not}
use Rattle.cell_states.proofs.Coded.{seen_at}
use Rattle.cell_states.proofs.Changed.{before_is}
use Rattle.cell_states.proofs.states.States.stays.Goals as goal

pub returns-then-not-begins : goal.returns-then-not-begins
returns-then-not-begins g c = λ h.
    let i = c.self.inside in
    let C = g.G.Grid.codec in
    let s = c.args.self.now in
    let t = c.args.cell.cycle in
    let d = c.args.cell.component in
    let seen = seen_at C i.words i.memories s c.self.view_is c.self.invariant.0.whole in
    let w = c.begins.ensures c.if-not-begins.true in
    let m = c.begins-then-not-begins.ensures.steady (is_not _ h) in
    (w.0, seen (t - 1) d ∙ same_code C _ _ _ _ (sym w.1) (sym (m ∙ before_is (list_at i.memories d) t w.0)) ∙ sym (seen t d))
