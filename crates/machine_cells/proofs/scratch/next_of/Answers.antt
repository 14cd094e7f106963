use Rattle.std.proofs.Common.{◌≡◌, ℕ, List, ◌∙◌, ap, sym, refl, map, take, Bor, [], ◌∷◌, length, ◌<◌, All, Some, arith}
use Rattle.std.specs.Prelude.{slice_get, option_map}
use Rattle.std.specs.Arc.{arc_value}
use Rattle.std.proofs.lemmas.List.{length-map}
use Rattle.std.proofs.lemmas.Option.{slice_get-map, slice_get_read}
use Rattle.omega_net.specs.Numbers.{components, component_of}
use Rattle.omega_net.specs.Near.{near, near_of}
use Rattle.machine_cells.specs.declared.state.MachineState.{MachineState}
use Rattle.machine_cells.specs.Cells.{states_at, near_or, pulled}
use Rattle.machine_cells.specs.Cycle.{cycle}
use Rattle.machine_cells.proofs.Rows.{near_are, pulled_is_part, if_ok}
use Rattle.machine_cells.proofs.scratch.next_of.Goals as goal

pub returns : goal.returns
returns c =
    let P = c.args.project.now in
    let S = map arc_value c.args.row.now in
    let ns = c.near-near.result.items in
    let x = c.component_at-component.result in
    let holder = c.index-row-c.result in
    let own = arc_value holder in
    let long : length S ≡ length c.args.row.now = length-map c.args.row.now arc_value in
    let N = map (λ (r : Bor MachineState). r.now) c.first.result.now in
    let size = ap components c.shape-shape.ensures in
    let found : slice_get S c.args.c ≡ Some own = slice_get-map arc_value c.args.row.now c.args.c
    ∙ ap (option_map arc_value) (slice_get_read c.args.row.now (length c.args.row.now) c.args.c holder refl (omega (arith, c.requires.size, c.requires.there)) c.index-row-c.is) in
    let there : All (λ n. n < length S) ns = λ i d lt. omega (arith, c.near-near.ensures.there i d lt, c.requires.size, size, long) in
    let is : component_of P.k c.args.c ≡ Some x = sym (ap (λ k. component_of k c.args.c) c.shape-shape.ensures) ∙ c.component_at-component.ensures.is in
    let numbers : ns ≡ near P.k c.args.c = c.near-near.ensures.listed ∙ ap (near_of c.shape-shape.result) (sym c.component_at-component.ensures.is) ∙ ap (λ k. near k c.args.c) c.shape-shape.ensures in
    let five = λ (ys : List ℕ) (o : MachineState). near_or S ys 0 o ∷ near_or S ys 1 o ∷ near_or S ys 2 o ∷ near_or S ys 3 o ∷ near_or S ys 4 o ∷ [] in
    let places = map (λ (r : Bor MachineState). r.now) c.near_states-states.result in
    let states : N ≡ states_at S (near P.k c.args.c) =
    c.first.ensures
    ∙ ap (λ n. take n places) c.len.ensures.value
    ∙ near_are S ns own places there c.near-near.ensures.few (c.near_states-states.ensures ∙ ap (five c.deref.result.now) c.deref-2.ensures ∙ ap (λ ys. five ys own) c.deref.ensures.0)
    ∙ ap (states_at S) numbers in
    if_ok (λ s. arc_value s ≡ pulled P N (Some x) own) (λ s. slice_get (cycle P S) c.args.c ≡ Some (arc_value s))
    (λ s e. pulled_is_part P S N c.args.c x own (arc_value s) (long ∙ c.requires.size) c.requires.there states is found e) c.pulled.result c.pulled.ensures
