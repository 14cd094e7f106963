use Rattle.std.proofs.Common.{◌≡◌, ◌∙◌, sym, ap, arith, length, option_map}
use Rattle.std.specs.Arc.{arc_value}
use Rattle.cell_states.specs.Versions.{VersionRow}
use Rattle.cell_states.proofs.Since.{length_view}
use Rattle.cell_states.proofs.versions.Versions.follow.Goals as goal

pub take_room-requires-clause-room : goal.take_room-requires-clause-room
take_room-requires-clause-room c =
    let i = c.self.inside in
    let width = length_view (option_map arc_value i.near) i.changes i.clock i.count i.all i.each.items c.self.invariant.0 in
    omega (arith, ap (λ (v : VersionRow). length v.at) (sym c.self.view_is), width, c.requires.room)
