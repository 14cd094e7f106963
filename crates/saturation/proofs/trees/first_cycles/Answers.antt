use Rattle.std.proofs.Common.{◌≡◌, ◌+◌, ◌∷◌, [], ◌++◌, ℕ, length, map, find, List, Option, sym, ap, ◌∙◌, arith}
use Rattle.std.specs.Prelude.{nat_le, slice_index}
use Rattle.std.proofs.lemmas.List.{length-map}
use Rattle.omega_net.specs.Wires.{below}
use Rattle.machine_cells.proofs.Runs.{length-below}
use Rattle.saturation.proofs.Below.{map-next}
use Rattle.saturation.proofs.trees.first_cycles.Goals as goal

pub push-requires : goal.push-requires
push-requires c =
    let made = λ (j : ℕ). find (λ t. nat_le (j + 1) (slice_index c.args.levels.now t)) (below c.args.cycles) in
    let size : length c.loop-level.first.items ≡ c.loop-level.level =
    ap length c.loop-level.invariant ∙ length-map (below c.loop-level.level) made ∙ length-below c.loop-level.level in
    (omega arith, omega (arith, size))

pub loop-level-preserved : goal.loop-level-preserved
loop-level-preserved c =
    let made = λ (j : ℕ). find (λ t. nat_le (j + 1) (slice_index c.args.levels.now t)) (below c.args.cycles) in
    c.push.ensures.items
    ∙ ap (λ (xs : List (Option ℕ)). xs ++ c.first_cycle.result ∷ []) c.loop-level.invariant
    ∙ ap (λ (o : Option ℕ). map made (below c.loop-level.level) ++ o ∷ []) c.first_cycle.ensures
    ∙ sym (map-next made c.loop-level.level)
