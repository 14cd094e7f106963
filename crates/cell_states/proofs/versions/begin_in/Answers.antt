use Rattle.std.proofs.Common.{rules, ◌<◌, ◌∙◌, ap, length, get_or, arith}
use Rattle.std.proofs.lemmas.List.{length-replicate, get_or-replicate}
use Rattle.cell_states.proofs.Rooms.{lent_at, list_here, other_row}
use Rattle.cell_states.proofs.versions.begin_in.Goals as goal

pub returns-then-t-len-clause-row : goal.returns-then-t-len-clause-row
returns-then-t-len-clause-row c =
    let rows = c.args.rows.now.items in
    let t = c.args.t in
    let there : t < length rows = search rules in
    other_row rows t there c.begin.new.self (ap length c.begin.ensures.at ∙ length-replicate _ _ ∙ ap length (lent_at rows t there c.index_mut-row.result.now _ c.index_mut-row.ensures.value))

pub returns-then-t-len-clause-begun : goal.returns-then-t-len-clause-begun
returns-then-t-len-clause-begun c = λ d h.
    let rows = c.args.rows.now.items in
    let t = c.args.t in
    let there : t < length rows = search rules in
    let lent = lent_at rows t there c.index_mut-row.result.now _ c.index_mut-row.ensures.value in
    ap (λ vs. get_or vs d 0) (list_here rows t there c.begin.new.self ∙ c.begin.ensures.at)
    ∙ get_or-replicate (length c.index_mut-row.result.now.at) d c.args.version 0 (omega (arith, h, ap length lent))
