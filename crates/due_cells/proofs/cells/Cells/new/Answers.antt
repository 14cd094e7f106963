use Rattle.std.proofs.Common.{◌++◌, ◌∙◌, ap, arith, length, replicate, subst, sym, true}
use Rattle.std.proofs.lemmas.List.{length-replicate}
use Rattle.cell_marks.specs.Marked.{Marked}
use Rattle.cell_states.specs.Stated.{state_at}
use Rattle.cell_states.specs.Versions.{lists}
use Rattle.due_cells.specs.Layout.{IsStated}
use Rattle.due_cells.proofs.Keeping.{rows_new, layout_new}
use Rattle.due_cells.proofs.Stated.{none_new, stated_new}
use Rattle.due_cells.proofs.cells.Cells.new.Goals as goal

pub invariant_of-result : goal.invariant_of-result
invariant_of-result g c =
    let n = c.args.cycles in
    let due = c.grow.new.self in
    let e = c.in_ok-grow.ensures ∙ ap (λ (m : Marked). record { width = m.width; rows = m.rows ++ replicate n (replicate m.width true) }) c.new-due.ensures in
    let cycles = ap (λ (m : Marked). length m.rows) e ∙ length-replicate n (replicate c.args.count true) in (
      subst (λ s. IsStated s due) (sym c.in_ok-states.ensures) (stated_new c.args.count n due (ap (λ (m : Marked). m.width) e) cycles),
      layout_new due (lists c.in_ok-versions.versions.items) c.args.count n c.args.version e c.in_ok-versions.ensures (omega (arith, c.ranges.count.fits)) (omega (arith, c.ranges.cycles.fits)),
    )

pub returns : goal.returns
returns g c =
    rows_new (state_at c.in_ok-states.states) c.grow.new.self (lists c.in_ok-versions.versions.items) c.args.count c.args.cycles c.args.version (c.in_ok-grow.ensures ∙ ap (λ (m : Marked). record { width = m.width; rows = m.rows ++ replicate c.args.cycles (replicate m.width true) }) c.new-due.ensures) c.in_ok-versions.ensures (λ t d h k. ap (λ s. state_at s t d) c.in_ok-states.ensures ∙ none_new c.args.count c.args.cycles t d h k)
