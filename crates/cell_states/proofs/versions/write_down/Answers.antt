use Rattle.std.proofs.Common.{◌≡◌, ℕ, ◌∙◌, sym, ap, arith, length, slice_index_or, option_map}
use Rattle.std.specs.Arc.{arc_value}
use Rattle.std.proofs.lemmas.List.FromFn.{fill_by_all}
use Rattle.cell_states.specs.Versions.{versions_of, version_by, shown}
use Rattle.cell_states.specs.Near.{near_at}
use Rattle.cell_states.proofs.Rooms.{written_back}
use Rattle.cell_states.proofs.versions.write_down.Goals as goal

pub returns-in-Some-clause-each : goal.returns-in-Some-clause-each
returns-in-Some-clause-each c =
    let near = arc_value c.in-Some.near in
    let changes = c.args.changes.now in
    let clock = c.args.clock in
    let olds = c.spread_out.new.each.items in
    let news = c.follow.new.each in
    let standing = versions_of c.args.count c.args.all c.args.each.now.items in
    let lent = c.as_mut_slice.ensures.value in
    let len : length news ≡ length olds = c.follow.ensures.len ∙ ap length lent in
    let by = λ (d : ℕ). version_by changes (near_at near d) clock (slice_index_or standing d 0) (length changes) in
    written_back olds news c.spread_out.new.each.len (sym (ap length lent) ∙ c.as_mut_slice.ensures.len) (c.follow.ensures.len ∙ c.as_mut_slice.ensures.len)
    ∙ fill_by_all by news (length standing) 0 (len ∙ ap length c.spread_out.ensures.each) (λ d h. (
    c.follow.ensures.at d (omega (arith, h, ap length lent, ap length c.spread_out.ensures.each))
    ∙ ap (λ ms. version_by changes (near_at ms d) clock (slice_index_or c.as_mut_slice.result.now d 0) (length changes)) c.deref.ensures
    ∙ ap (λ vs. version_by changes (near_at near d) clock (slice_index_or vs d 0) (length changes)) (lent ∙ c.spread_out.ensures.each)
    ))
    ∙ ap (λ o. shown o changes clock standing) (sym (ap (option_map arc_value) (sym c.take.ensures.value ∙ c.in-Some.is)))
