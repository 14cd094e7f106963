use Rattle.std.proofs.Common.{◌∙◌, ap, subst, sym}
use Rattle.std.proofs.lemmas.List.{take-map}
use Rattle.cell_states.specs.Stated.{state_at}
use Rattle.cell_states.specs.Versions.{VersionRow, lists}
use Rattle.due_cells.specs.Layout.{IsStated}
use Rattle.due_cells.proofs.Keeping.{layout_cut, rows_cut}
use Rattle.due_cells.proofs.Stated.{bounded_by, same_cut, stated_cut}
use Rattle.due_cells.proofs.cells.Cells.truncate.Goals as goal

pub invariant_of-self : goal.invariant_of-self
invariant_of-self g c =
    let i = c.self.inside in
    let versions = ap lists c.truncate-3.ensures.items ∙ sym (take-map (λ (row : VersionRow). row.at) c.args.n i.versions.items) in (
      subst (λ s. IsStated s c.truncate-2.new.self) (sym c.truncate.ensures) (stated_cut i.states i.due c.truncate-2.new.self c.args.n c.self.invariant.0 c.truncate-2.ensures),
      layout_cut i.due c.truncate-2.new.self (lists i.versions.items) (lists c.truncate-3.new.self.items) c.args.n c.self.invariant.1 c.truncate-2.ensures versions,
    )

pub returns : goal.returns
returns g c =
    let i = c.self.inside in
    let versions = ap lists c.truncate-3.ensures.items ∙ sym (take-map (λ (row : VersionRow). row.at) c.args.n i.versions.items) in
    rows_cut (state_at i.states) (state_at c.truncate.new.self) i.due c.truncate-2.new.self (lists i.versions.items) (lists c.truncate-3.new.self.items) c.args.self.now c.args.n (bounded_by i.states i.due c.self.invariant.0) c.self.invariant.1 c.self.view_is c.truncate-2.ensures versions (λ t d h. ap (λ s. state_at s t d) c.truncate.ensures ∙ same_cut i.states c.args.n t d h)
