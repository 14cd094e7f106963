use Rattle.std.proofs.Common.{◌≡◌, ◌∙◌, sym, ap, subst, arith, length, option_map}
use Rattle.std.specs.Arc.{arc_value}
use Rattle.cell_states.specs.Versions.{VersionRow, IsEach}
use Rattle.cell_states.proofs.Since.{length_view}
use Rattle.cell_states.proofs.versions.Versions.make_room.Goals as goal

pub returns-in_ok-reserve_exact-clause-room : goal.returns-in_ok-reserve_exact-clause-room
returns-in_ok-reserve_exact-clause-room c =
    let i = c.self.inside in
    let same = length_view (option_map arc_value i.near) i.changes i.clock i.count i.all c.reserve_exact.new.self.items (subst (IsEach i.count) (sym c.reserve_exact.ensures.items) c.self.invariant.0) in
    omega (arith, same, c.in_ok-reserve_exact.ensures.ok)

pub returns-else-capacity-self-clause-room : goal.returns-else-capacity-self-clause-room
returns-else-capacity-self-clause-room c =
    let i = c.self.inside in
    let width = length_view (option_map arc_value i.near) i.changes i.clock i.count i.all i.each.items c.self.invariant.0 in
    omega (arith, ap (λ (v : VersionRow). length v.at) (sym c.self.view_is), ap (λ (v : VersionRow). v.room) (sym c.self.view_is), width, c.if-capacity-self.false, c.capacity.ensures)
