use Rattle.std.proofs.Common.{◌≡◌, ◌∙◌, ap, arith, length}
use Rattle.cell_states.specs.Versions.{any_changes}
use Rattle.due_cells.proofs.Gathered.{is_first}
use Rattle.due_cells.proofs.rows.reach_in.Goals as goal

pub gather-requires-clause-width : goal.gather-requires-clause-width
gather-requires-clause-width g c = omega (arith, c.requires.width, c.requires.index.one_each)

pub gather-requires-clause-reached : goal.gather-requires-clause-reached
gather-requires-clause-reached g c = omega (arith, c.requires.len, c.requires.index.one_each)

pub returns-clause-reached : goal.returns-clause-reached
returns-clause-reached g c = λ k h.
    let R = g.G.Grid.rules in
    let s = c.args.slots.now in
    let len : length c.args.readers.now ≡ R.components s = c.requires.index.one_each in
    c.gather.ensures.reached k (omega (arith, h, len)) (R.near s k) (λ d l. c.requires.index.readers d k (omega (arith, l, len)) h) (is_first (R.near s k) (g.G.Grid.laws.near_first s k).0 k (g.G.Grid.laws.near_first s k).1)
    ∙ ap (any_changes c.args.changes.now (R.near s k)) len
