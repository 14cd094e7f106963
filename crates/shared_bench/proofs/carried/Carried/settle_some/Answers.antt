use Rattle.std.proofs.Common.{◌∙◌, sym, subst, ℕ, Option, Result}
use Rattle.cell_table.specs.Settling.{computed_of}
use Rattle.cell_table.specs.declared.given.SettleFault.{SettleFault}
use Rattle.shared_bench.specs.Slices.{SlicesAs}
use Rattle.shared_bench.proofs.Slices.{slice_settled, slice_stopped}
use Rattle.shared_bench.proofs.carried.Carried.settle_some.Goals.{in-Ok, in-Err}
use Rattle.shared_bench.proofs.carried.Carried.settle_some.Goals as goal

pub returns-clause-slices : goal.returns-clause-slices
returns-clause-slices c =
    let d = c.args.self.now in
    let met = c.deref_mut.result.now in
    let next = c.settle_to.new.self in
    let same = c.deref_mut.ensures.value ∙ c.self.view_is in
    elim c.match-settle_to.branch [
      | in-Ok w ↦ subst (λ (r : Result (Option ℕ) SettleFault). SlicesAs d c.args.cells r next) (sym w.result-is)
          (slice_settled d met next same c.args.cells c.in-Some.last w.in-Ok.field-0.computed c.in-Some.ensures w.in-Ok.ensures.headline_settles)
      | in-Err w ↦ subst (λ (r : Result (Option ℕ) SettleFault). SlicesAs d c.args.cells r next) (sym w.result-is)
          (slice_stopped d met next same c.args.cells c.in-Some.last (computed_of w.in-Err.fault) c.in-Some.ensures w.in-Err.ensures.after_fault w.in-Err.fault w.in-Err.ensures.differs)
    ]
