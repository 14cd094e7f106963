use Rattle.std.proofs.Common.{◌≡◌, ℕ, ◌∙◌, sym, ap, length, option_map, replicate}
use Rattle.std.specs.Arc.{arc_value}
use Rattle.cell_states.specs.Versions.{VersionRow}
use Rattle.cell_states.proofs.Since.{length_view, one_version}
use Rattle.cell_states.proofs.versions.Versions.begin.Goals as goal

pub returns-clause-at : goal.returns-clause-at
returns-clause-at c =
    let i = c.self.inside in
    let width : length c.args.self.now.at ≡ i.count = ap (λ (v : VersionRow). length v.at) (sym c.self.view_is) ∙ length_view (option_map arc_value i.near) i.changes i.clock i.count i.all i.each.items c.self.invariant.0 in
    one_version (option_map arc_value c.take.new.self) i.changes i.clock i.count c.args.version c.clear.new.self.items (ap (option_map arc_value) c.take.ensures.after) c.clear.ensures.items
    ∙ ap (λ (n : ℕ). replicate n c.args.version) (sym width)
