use Rattle.std.proofs.Common.{◌+◌, ◌∙◌, sym, refl}
use Rattle.std.specs.Vec.{with_item}
use Rattle.grid_law.specs.Run.{run}
use Rattle.cell_states.proofs.Next.{known_less, known_more}
use Rattle.cell_states.proofs.states.each.load_words.Goals as goal

pub returns-then-not-load-clause-held : goal.returns-then-not-load-clause-held
returns-then-not-load-clause-held g c =
    let W = g.M.WholeRow in
    let d = c.args.cell.component in
    known_less g.G.Grid.rules g.G.Grid.codec W.stands W.state c.args.slots.now c.args.held.now (record { row = c.load.new.self; at = with_item c.args.held.now.at d 0 }) d
    c.requires.held c.load.ensures.stands refl c.load.ensures.others

pub returns-clause-held : goal.returns-clause-held
returns-clause-held g c =
    let R = g.G.Grid.rules in
    let C = g.G.Grid.codec in
    let W = g.M.WholeRow in
    let s = c.args.slots.now in
    let t = c.args.cell.cycle in
    let d = c.args.cell.component in
    let words = c.words.ensures ∙ c.requires.run.words in
    let code = c.load.ensures.loaded c.if-not-load.false (run R s t d) c.requires.run.told (sym words) in
    let less = known_less R C W.stands W.state s c.args.held.now (record { row = c.load.new.self; at = with_item c.args.held.now.at d 0 }) d c.requires.held c.load.ensures.stands refl c.load.ensures.others in
    known_more R C W.stands W.state s (record { row = c.load.new.self; at = with_item c.args.held.now.at d 0 }) (record { row = c.load.new.self; at = with_item (with_item c.args.held.now.at d 0) d (t + 1) }) d t less refl refl
    (record { told = c.requires.run.told; row_told = c.is_told.ensures; words = code.words_are ∙ words })
