use Rattle.std.proofs.Common.{◌∙◌, sym}
use Rattle.grid_law.specs.Run.{run}
use Rattle.cell_states.proofs.Stepped.{same_told}
use Rattle.due_cells.proofs.WideRows.{told_alone}
use Rattle.due_cells.proofs.along.load_one.Goals as goal

pub returns-else-not-load_memory-clause-loaded : goal.returns-else-not-load_memory-clause-loaded
returns-else-not-load_memory-clause-loaded g c = λ _.
    let d = c.args.cell.component in
    let x = run g.G.Grid.rules c.args.slots.now c.args.cell.cycle d in
    let held = c.words.ensures.told x c.requires.held in
    let first = c.load.ensures.loaded c.if-not-load.false x held.0 held.1 in
    let second = c.load_memory.ensures.loaded c.if-not-load_memory.false in
    same_told g.G.Grid.codec x (g.M.WholeRow.state c.load_memory.new.self d) held.0 c.is_told.ensures
    (second.words_are ∙ first.words_are ∙ sym held.1) (second.memory_is ∙ sym (c.in-Some.ensures x c.requires.held))

pub returns-in-None-clause-loaded : goal.returns-in-None-clause-loaded
returns-in-None-clause-loaded g c = λ _.
    let d = c.args.cell.component in
    let x = run g.G.Grid.rules c.args.slots.now c.args.cell.cycle d in
    let held = c.words.ensures.told x c.requires.held in
    let first = c.load.ensures.loaded c.if-not-load.false x held.0 held.1 in
    told_alone g.G.Grid.codec g.G.Grid.codec_laws x (g.M.WholeRow.state c.load.new.self d) held.0 c.is_told-in-None.ensures
    (first.words_are ∙ sym held.1) (c.in-None.ensures x c.requires.held)
