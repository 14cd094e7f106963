use Rattle.std.proofs.Common.{ℕ, find, ◌+◌, List, Vec, Global, Bor, ap, ◌∙◌, sym, length, map, slice_get, arith}
use Rattle.std.proofs.lemmas.List.{length-map}
use Rattle.std.proofs.lemmas.Simd.{map-map}
use Rattle.std.specs.Prelude.{nat_le, slice_index}
use Rattle.omega_net.specs.Wires.{below}
use Rattle.machine_cells.specs.declared.state.MachineState.{MachineState}
use Rattle.saturation.specs.Levels.{level}
use Rattle.saturation.proofs.Reports.{tree_made}
use Rattle.saturation.proofs.trees.tree.Goals as goal

pub first_cycles-first-requires-clause-there : goal.first_cycles-first-requires-clause-there
first_cycles-first-requires-clause-there g c =
    let size = ap length c.in_ok-levels.ensures ∙ length-map c.args.rows.now _ ∙ c.requires.cycles in
    omega (arith, ap length c.deref.ensures.value, size, c.horizon.ensures.horizon)

pub returns : goal.returns
returns g c =
    let shown = λ (row : Vec (Bor MachineState) Global). map (λ (r : Bor MachineState). r.now) row.items in
    let made = λ (S : List MachineState). level c.args.project.now c.args.net c.args.module (slice_get S) in
    let same = λ (xs : List ℕ). map (λ (j : ℕ). find (λ t. nat_le (j + 1) (slice_index xs t)) (below (c.horizon.result + 1))) (below c.k.result) in
    tree_made c.args.project.now c.args.net c.args.module (map shown c.args.rows.now) (length-map c.args.rows.now shown ∙ c.requires.cycles)
    c.from_vec.result c.first_cycles-first.result.items (c.horizon.result + 1) c.k.result
    (c.from_vec.ensures ∙ c.in_ok-levels.ensures ∙ sym (map-map made shown c.args.rows.now))
    (ap (λ n. n + 1) c.horizon.ensures.horizon) c.k.ensures.k
    (c.first_cycles-first.ensures ∙ ap same (c.deref.ensures.value ∙ sym c.from_vec.ensures))
