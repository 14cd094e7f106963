use Rattle.std.proofs.Common.{◌≡◌, ◌∙◌, ◌++◌, ◌∷◌, [], ℕ, List, Some, sym, ap, map, arith}
use Rattle.omega_net.specs.Numbers.{component_of, components}
use Rattle.omega_net.specs.Wires.{below}
use Rattle.machine_cells.specs.declared.state.MachineState.{MachineState}
use Rattle.flat_row.specs.Row.{state_of}
use Rattle.run_reports.proofs.Marking.{one_more_value}
use Rattle.run_reports.proofs.full_queues.states_now.Goals as goal

pub loop-number-preserved : goal.loop-number-preserved
loop-number-preserved c =
    let R = c.args.runner.now.row in
    let n = c.loop-number.number in
    let f : ℕ → MachineState = λ m. state_of R (component_of R.k m) in
    let named : component_of R.k n ≡ Some c.unwrap-component.result = ap (λ (k : ℕ). component_of k n) (sym c.shape-shape.ensures) ∙ sym c.component.ensures.value ∙ c.unwrap-component.ensures in
    let is : c.in_ok-state.state ≡ f n = c.in_ok-state.ensures ∙ ap (state_of R) (sym named) in
    c.in-Ok.ensures.items
    ∙ ap (λ (xs : List MachineState). xs ++ c.in_ok-state.state ∷ []) c.loop-number.invariant
    ∙ ap (λ (s : MachineState). map f (below n) ++ s ∷ []) is
    ∙ sym (one_more_value f n)

pub returns : goal.returns
returns c =
    let R = c.args.runner.now.row in
    let all : c.components-number-end.result ≡ components R.k = c.components-number-end.ensures.value ∙ ap components c.shape-shape.ensures in
    let end : c.loop-number.number ≡ components R.k = omega (arith, c.loop-number-test.false, c.loop-number.auto.number-end, all) in
    c.loop-number.invariant ∙ ap (λ (n : ℕ). map (λ m. state_of R (component_of R.k m)) (below n)) end
