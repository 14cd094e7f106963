use Rattle.std.proofs.Common.{◌≡◌, ◌<◌, ◌∙◌, sym, ap, arith, length, get_or, option_map}
use Rattle.std.proofs.lemmas.List.{get_or-replicate}
use Rattle.std.specs.Arc.{arc_value}
use Rattle.cell_states.specs.Versions.{VersionRow}
use Rattle.std.proofs.lemmas.List.Elements.{recursion_from_All}
use Rattle.cell_states.proofs.Cases.{has_item}
use Rattle.cell_states.proofs.Since.{length_view}
use Rattle.cell_states.proofs.versions.Versions.give.Goals as goal

pub returns-then-is_all-clause-given : goal.returns-then-is_all-clause-given
returns-then-is_all-clause-given c = λ d h.
    c.is_all.ensures c.if-is_all.true d (has_item (λ m. m < length c.args.self.now.at) c.args.components.now d (recursion_from_All (λ m. m < length c.args.self.now.at) c.args.components.now c.requires) h)

pub returns-then-capacity-self-clause-given : goal.returns-then-capacity-self-clause-given
returns-then-capacity-self-clause-given c = λ d h.
    ap (λ vs. get_or vs d 0) c.begin.ensures.at
    ∙ get_or-replicate (length c.args.self.now.at) d c.args.version 0 (has_item (λ m. m < length c.args.self.now.at) c.args.components.now d (recursion_from_All (λ m. m < length c.args.self.now.at) c.args.components.now c.requires) h)

pub returns-then-capacity-self-clause-others : goal.returns-then-capacity-self-clause-others
returns-then-capacity-self-clause-others c = λ room.
    let i = c.self.inside in
    let width = length_view (option_map arc_value i.near) i.changes i.clock i.count i.all i.each.items c.self.invariant.0 in
    absurd (omega (arith, room, ap (λ (v : VersionRow). length v.at) (sym c.self.view_is), ap (λ (v : VersionRow). v.room) (sym c.self.view_is), width, c.if-capacity-self.true, c.capacity.ensures))
