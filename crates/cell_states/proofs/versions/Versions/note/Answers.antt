use Rattle.std.proofs.Common.{◌≡◌, ◌<◌, ◌∙◌, sym, ap, arith, length, slice_index_or, option_map}
use Rattle.std.specs.Arc.{arc_value}
use Rattle.cell_marks.specs.Marked.{union}
use Rattle.cell_states.specs.Versions.{VersionRow, versions_of, version_by, shown}
use Rattle.cell_states.specs.Near.{near_at}
use Rattle.cell_states.proofs.Since.{length_versions, length_view, shown_at, union_none, unnoted}
use Rattle.cell_states.proofs.versions.Versions.note.Goals as goal

pub invariant_of-self-2 : goal.invariant_of-self-2
invariant_of-self-2 c =
    let i = c.self.inside in
    let changes = c.args.changes.now in
    let width : length c.args.self.now.at ≡ i.count = ap (λ (v : VersionRow). length v.at) (sym c.self.view_is) ∙ length_view (option_map arc_value i.near) i.changes i.clock i.count i.all i.each.items c.self.invariant.0 in
    let wide : length changes ≡ i.count = c.requires.width ∙ width in
    let taken = c.add.ensures ∙ ap (λ r. union r changes) c.clear_all.ensures ∙ union_none (length i.changes) changes (wide ∙ sym c.self.invariant.1) in (
      c.self.invariant.0,
      ap length taken ∙ wide,
      omega (arith, c.requires.fits, wide),
    )

pub returns-clause-len : goal.returns-clause-len
returns-clause-len c =
    let i = c.self.inside in
    length_view (option_map arc_value c.own_too.new.near) c.add.new.self c.args.clock i.count i.all i.each.items c.self.invariant.0
    ∙ sym (length_view (option_map arc_value i.near) i.changes i.clock i.count i.all i.each.items c.self.invariant.0)
    ∙ ap (λ (v : VersionRow). length v.at) c.self.view_is

pub returns-clause-noted : goal.returns-clause-noted
returns-clause-noted c = λ d h.
    let i = c.self.inside in
    let changes = c.args.changes.now in
    let near = arc_value c.args.near.now in
    let standing = versions_of i.count i.all i.each.items in
    let width : length c.args.self.now.at ≡ i.count = ap (λ (v : VersionRow). length v.at) (sym c.self.view_is) ∙ length_view (option_map arc_value i.near) i.changes i.clock i.count i.all i.each.items c.self.invariant.0 in
    let wide : length changes ≡ i.count = c.requires.width ∙ width in
    let taken = c.add.ensures ∙ ap (λ r. union r changes) c.clear_all.ensures ∙ union_none (length i.changes) changes (wide ∙ sym c.self.invariant.1) in
    let inside : d < length standing = omega (arith, h, wide, length_versions i.count i.all i.each.items c.self.invariant.0) in
    ap (λ o. slice_index_or (shown o c.add.new.self c.args.clock standing) d 0) (c.own_too.ensures.yes c.if-not-own_too.false)
    ∙ shown_at near c.add.new.self c.args.clock standing d inside
    ∙ ap (λ ch. version_by ch (near_at near d) c.args.clock (slice_index_or standing d 0) (length ch)) taken
    ∙ ap (λ v. version_by changes (near_at near d) c.args.clock (slice_index_or v d 0) (length changes)) (ap (λ o. shown o i.changes i.clock standing) (sym (unnoted arc_value i.near (sym c.is_some.ensures ∙ c.if-is_some.false))) ∙ ap (λ (v : VersionRow). v.at) c.self.view_is)
