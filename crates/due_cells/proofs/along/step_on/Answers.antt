use Rattle.std.proofs.Common.{◌≡◌, ℕ, ◌<◌, map, true, false}
use Rattle.due_cells.specs.WholeRows.{HoldsRow, IsKnown}
use Rattle.due_cells.proofs.WideRows.{row_steps, row_known, some_with}
use Rattle.due_cells.proofs.along.step_on.Goals as goal

pub returns-clause-row : goal.returns-clause-row
returns-clause-row g c =
    let R = g.G.Grid.rules in
    let W = g.M.WholeRow in
    let s = c.args.slots.now in
    let t = c.args.cycle in
    some_with c.step.result (λ step. W.stands c.step.new.self s)
    (λ step. (d : ℕ) → d < R.components s → W.state c.step.new.self d ≡ R.step s (map (W.state c.args.row.now) (R.near s d)) d)
    (λ step. HoldsRow R W.stands W.state s c.step.new.self t)
    (λ step stands states. row_steps R g.G.Grid.laws W.stands W.state s t c.requires.later c.args.row.now c.step.new.self c.requires.row stands states)
    c.step.ensures.stands c.step.ensures.states

pub returns-clause-known : goal.returns-clause-known
returns-clause-known g c =
    let R = g.G.Grid.rules in
    let C = g.G.Grid.codec in
    let W = g.M.WholeRow in
    let s = c.args.slots.now in
    let t = c.args.cycle in
    let old = c.args.row.now in
    let new = c.step.new.self in
    let next = some_with c.step.result (λ step. W.stands new s)
    (λ step. (d : ℕ) → d < R.components s → W.state new d ≡ R.step s (map (W.state old) (R.near s d)) d)
    (λ step. HoldsRow R W.stands W.state s new t)
    (λ step stands states. row_steps R g.G.Grid.laws W.stands W.state s t c.requires.later old new c.requires.row stands states)
    c.step.ensures.stands c.step.ensures.states in
    let both = some_with c.step.result (λ step. (d : ℕ) → d < R.components s → W.is_still step s d ≡ true → W.state new d ≡ W.state old d)
    (λ step. (d : ℕ) → d < R.components s → W.has_written step s d ≡ false → C.memory (W.state new d) ≡ C.memory (W.state old d))
    (λ step. HoldsRow R W.stands W.state s new t → IsKnown R C (W.is_still step s) (W.has_written step s) s t)
    (λ step still kept holds. row_known R g.G.Grid.laws W.stands W.state s t c.requires.later old new c.requires.row C (W.is_still step s) (W.has_written step s) holds still kept)
    c.step.ensures.still c.step.ensures.kept in
    some_with c.step.result (λ step. HoldsRow R W.stands W.state s new t)
    (λ step. HoldsRow R W.stands W.state s new t → IsKnown R C (W.is_still step s) (W.has_written step s) s t)
    (λ step. IsKnown R C (W.is_still step s) (W.has_written step s) s t)
    (λ step holds known. known holds)
    next both
