use Rattle.std.proofs.Common.{◌≡◌, ℕ, ◌<◌, ◌∙◌, sym, subst}
use Rattle.std.specs.Prelude.{slice_get}
use Rattle.omega_net.specs.Numbers.{components, component_of}
use Rattle.whole_rows.proofs.Stepping.{starts}
use Rattle.whole_rows.proofs.row.MachineRowWholeRowRp3.new.Goals as goal

pub invariant_of-result : goal.invariant_of-result
invariant_of-result c = (
  c.in-Ok-start.ensures.of.size ∙ sym c.shape-in-Ok-start.ensures,
  subst (λ k. (d : ℕ) → d < components k → slice_get c.in-Some.by_number.items d ≡ component_of k d) (c.shape.ensures ∙ sym c.shape-in-Ok-start.ensures) c.in-Some.ensures,
)

pub returns-in-Ok-start-clause-states : goal.returns-in-Ok-start-clause-states
returns-in-Ok-start-clause-states c = starts c.args.s.now c.in-Ok-start.row c.in-Ok-start.ensures.of c.in-Ok-start.ensures.states
