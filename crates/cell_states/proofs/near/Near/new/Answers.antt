use Rattle.std.proofs.Common.{subst, IfSome}
use Rattle.cell_states.proofs.Knowing.{nothing_known}
use Rattle.cell_states.proofs.near.Near.new.Goals as goal

pub returns-in-Some : goal.returns-in-Some
returns-in-Some g c =
    let W = g.M.WholeRow in
    let s = c.args.slots.now in
    nothing_known g.G.Grid.rules g.G.Grid.codec W.stands W.state s (record { row = c.in-Some.row; at = c.know_nothing.new.at })
    c.components.result (subst (λ o. IfSome o (λ row. W.stands row s)) c.in-Some.is c.requires) c.components.ensures c.in-Ok.ensures
