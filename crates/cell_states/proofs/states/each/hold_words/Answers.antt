use Rattle.std.proofs.Common.{◌+◌, refl, arith}
use Rattle.std.specs.Vec.{with_item}
use Rattle.std.proofs.lemmas.List.{get_or_read}
use Rattle.cell_states.proofs.Next.{known_more, still_held}
use Rattle.cell_states.proofs.states.each.hold_words.Goals as goal

pub returns-then-has_words-clause-held : goal.returns-then-has_words-clause-held
returns-then-has_words-clause-held g c =
    let R = g.G.Grid.rules in
    let C = g.G.Grid.codec in
    let W = g.M.WholeRow in
    let s = c.args.slots.now in
    let t = c.args.cell.cycle in
    let d = c.args.cell.component in
    let near = c.args.held.now in
    let at = get_or_read near.at.items d c.index.result.now (omega (arith, c.requires.there, c.requires.held.each)) c.index.ensures 0 in
    known_more R C W.stands W.state s near (record { row = near.row; at = with_item near.at d (t + 1) }) d t c.requires.held refl refl
    (still_held R C W.stands W.state s near c.args.rows.now.rows t d c.index.result.now c.requires.held c.requires.there at c.requires.run.told c.requires.run.words c.requires.earlier (c.has_words.ensures c.if-has_words.true))
