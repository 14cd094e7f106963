use Rattle.std.proofs.Common.{◌≡◌, ℕ, ◌∙◌, ap, sym, subst, Some}
use Rattle.omega_net.specs.declared.component.Component.{Component}
use Rattle.omega_net.specs.Numbers.{component_of, number_of, Exists}
use Rattle.machine_cells.specs.Words.{memory_of, with_memory}
use Rattle.flat_row.specs.Row.{Arrays, state_of}
use Rattle.whole_rows.proofs.Loading.{loads, others_hold}
use Rattle.whole_rows.proofs.row.MachineRowWholeRowRp3.load.Goals as goal

pub returns-clause-loaded : goal.returns-clause-loaded
returns-clause-loaded c = λ _ x told words.
    let d = c.component-component.result in
    let N = c.load.new.self in
    let can = c.can_hold.ensures c.if-not-can_hold.false x told words in
    loads c.args.s.now c.args.self.now N d c.args.c c.requires.stands (c.load.ensures.size ∙ ap (λ (r : Arrays). r.k) c.self.view_is ∙ c.requires.stands.size)
    (ap (λ (k : ℕ). component_of k c.args.c) (sym c.requires.stands.size) ∙ c.component-component.ensures.is)
    c.args.words.now x can words
    (subst (λ (r : Arrays). state_of N (Some d) ≡ with_memory (memory_of (state_of r (Some d))) x) c.self.view_is (c.load.ensures.loaded x (c.are_of_a_state.ensures x told words) (sym words) can))

pub returns-clause-others : goal.returns-clause-others
returns-clause-others c =
    let d = c.component-component.result in
    let N = c.load.new.self in
    others_hold c.args.s.now c.args.self.now N d c.args.c c.requires.stands (c.load.ensures.size ∙ ap (λ (r : Arrays). r.k) c.self.view_is ∙ c.requires.stands.size)
    (ap (λ (k : ℕ). number_of k d) (sym c.requires.stands.size) ∙ c.component-component.ensures.number)
    (subst (λ (r : Arrays). (y : Component) → Exists r.k y → (y ≡ d → ⊥) → state_of N (Some y) ≡ state_of r (Some y)) c.self.view_is c.load.ensures.others)
