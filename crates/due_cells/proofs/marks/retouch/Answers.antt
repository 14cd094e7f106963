use Rattle.std.proofs.Common.{◌≡◌, ◌+◌, ◌∙◌, ap, arith, rules, length, []}
use Rattle.std.proofs.lemmas.List.{get_or-take, length-replicate}
use Rattle.due_cells.specs.Seen.{held_in, held_at, row_at}
use Rattle.due_cells.proofs.MarkedRow.{grown_marked, grown_whole}
use Rattle.due_cells.proofs.marks.retouch.Goals as goal

pub mark_ranges-requires-clause-whole : goal.mark_ranges-requires-clause-whole
mark_ranges-requires-clause-whole g c = λ t h.
    let wide : length c.gather.new.row ≡ c.args.count = c.gather.ensures.len ∙ ap length c.in_ok-row.ensures ∙ length-replicate c.args.count _ in
    omega (arith, wide, grown_whole c.args.cells.now c.grow_to.new.cells c.args.version c.args.count t (c.in_ok-grow_to.ensures.at t h) c.requires.some c.requires.whole)

pub returns-clause-ok : goal.returns-clause-ok
returns-clause-ok g c =
    let grown = c.in_ok-grow_to.ensures in
    record {
      len = search rules;
      whole = λ t h.
          ap (λ rows. length (row_at rows t)) c.cut.ensures
          ∙ ap length (get_or-take (c.args.horizon + 1) c.mark_ranges.new.self t [] (omega (arith, h)))
          ∙ c.in-Ok.ensures.lens.1 t
          ∙ grown_whole c.args.cells.now c.grow_to.new.cells c.args.version c.args.count t (grown.at t (omega (arith, h, grown.len))) c.requires.some c.requires.whole;
      at = λ t d h k.
          ap (λ rows. held_at rows t d) c.cut.ensures
          ∙ ap (λ row. held_in row d) (get_or-take (c.args.horizon + 1) c.mark_ranges.new.self t [] (omega (arith, h)))
          ∙ c.in-Ok.ensures.marked t d
          ∙ grown_marked (c.args.last + 1) t d c.args.cells.now c.grow_to.new.cells c.args.ranges.now c.args.version (grown.at t (omega (arith, h, grown.len))) (omega (arith, k, c.requires.whole 0 c.requires.some));
    }
