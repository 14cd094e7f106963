use Rattle.std.proofs.Common.{◌<◌, ◌∙◌, sym, ap, arith, length, slice_index_or, option_map}
use Rattle.std.specs.Arc.{arc_value}
use Rattle.cell_states.specs.Versions.{VersionRow, versions_of, version_by, shown}
use Rattle.cell_states.specs.Near.{near_at}
use Rattle.cell_states.proofs.Since.{length_versions, past_view, shown_at}
use Rattle.cell_states.proofs.versions.Versions.of.Goals as goal

pub returns-then-c-self : goal.returns-then-c-self
returns-then-c-self c =
    let i = c.self.inside in
    sym (ap (λ (v : VersionRow). slice_index_or v.at c.args.c 0) (sym c.self.view_is) ∙ past_view (option_map arc_value i.near) i.changes i.clock i.count i.all i.each.items c.self.invariant.0 c.args.c c.if-c-self.true)

pub returns-in-Some : goal.returns-in-Some
returns-in-Some c =
    let i = c.self.inside in
    let near = arc_value c.in-Some.near in
    let standing = versions_of i.count i.all i.each.items in
    let inside : c.args.c < length standing = omega (arith, c.if-c-self.false, length_versions i.count i.all i.each.items c.self.invariant.0) in
    c.version_near.ensures
    ∙ ap (λ ms. version_by i.changes ms i.clock c.standing-own.result (length i.changes)) (c.of.ensures ∙ ap (λ ms. near_at ms c.args.c) c.deref.ensures)
    ∙ ap (λ v. version_by i.changes (near_at near c.args.c) i.clock v (length i.changes)) c.standing-own.ensures
    ∙ sym (shown_at near i.changes i.clock standing c.args.c inside)
    ∙ ap (λ o. slice_index_or (shown o i.changes i.clock standing) c.args.c 0) (sym (ap (option_map arc_value) c.in-Some.is))
    ∙ ap (λ (v : VersionRow). slice_index_or v.at c.args.c 0) c.self.view_is
