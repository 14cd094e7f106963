use Rattle.cell_states.proofs.Knowing.{nothing_known}
use Rattle.cell_states.proofs.near.Near.resume.Goals as goal

pub returns-in-Ok : goal.returns-in-Ok
returns-in-Ok g c = λ stays.
    nothing_known g.G.Grid.rules g.G.Grid.codec g.M.WholeRow.stands g.M.WholeRow.state c.args.slots.now (record { row = c.resume.new.self; at = c.know_nothing.new.at })
    c.components.result (c.resume.ensures stays) c.components.ensures c.in-Ok.ensures
