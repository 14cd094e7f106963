use Rattle.std.proofs.Common.{◌++◌, ◌∙◌, ap, arith, List, length, map, slice_range}
use Rattle.change_rows.specs.declared.head.Head.{Head}
use Rattle.change_rows.specs.Cells.{Held, end_of, component_at}
use Rattle.change_rows.specs.Packed.{moved}
use Rattle.change_rows.proofs.Packing.{length_cells}
use Rattle.change_rows.proofs.Appending.{run_climbs, run_small, appended_cells, appended_packed}
use Rattle.change_rows.proofs.cells.Cells.append.Goals as goal

pub words_between-more-requires-clause-there : goal.words_between-more-requires-clause-there
words_between-more-requires-clause-there c =
    let o = c.others.inside in
    omega (arith, c.requires.there, length_cells o.heads.items o.words.items, ap length c.others.view_is, ap length c.as_slice-heads.ensures.value)

pub copy_heads-requires-clause-there : goal.copy_heads-requires-clause-there
copy_heads-requires-clause-there c =
    let o = c.others.inside in
    omega (arith, c.requires.there, length_cells o.heads.items o.words.items, ap length c.others.view_is, ap length c.as_slice-heads.ensures.value)

pub copy_heads-requires-clause-climbs : goal.copy_heads-requires-clause-climbs
copy_heads-requires-clause-climbs c =
    let i = c.self.inside in
    let o = c.others.inside in
    run_climbs i.heads.items o.heads.items c.as_slice-heads.result.now i.words.items o.words.items c.as_slice-words.result.now c.words_between-more.result.now c.args.from c.args.to c.start_in-start.result c.len-base.result _ c.self.invariant c.others.invariant c.requires.order
    (omega (arith, c.requires.there, length_cells o.heads.items o.words.items, ap length c.others.view_is)) c.as_slice-heads.ensures.value c.as_slice-words.ensures.value c.start_in-start.ensures (ap length c.as_slice-words.ensures.value) (omega (arith, c.len-base.ensures, i.words.ok.0)) c.words_between-more.ensures

pub copy_heads-requires-clause-small : goal.copy_heads-requires-clause-small
copy_heads-requires-clause-small c =
    let i = c.self.inside in
    let o = c.others.inside in
    run_small i.heads.items o.heads.items c.as_slice-heads.result.now i.words.items o.words.items c.as_slice-words.result.now c.words_between-more.result.now c.args.from c.args.to c.start_in-start.result c.len-base.result _ c.self.invariant c.others.invariant c.requires.order
    (omega (arith, c.requires.there, length_cells o.heads.items o.words.items, ap length c.others.view_is)) c.as_slice-heads.ensures.value c.as_slice-words.ensures.value c.start_in-start.ensures (ap length c.as_slice-words.ensures.value) (omega (arith, c.len-base.ensures, i.words.ok.0)) c.words_between-more.ensures (omega (arith, c.if-more-base.false, c.len-base.ensures, i.words.ok.0))

pub invariant_of-self-in-Ok : goal.invariant_of-self-in-Ok
invariant_of-self-in-Ok c =
    let i = c.self.inside in
    let o = c.others.inside in
    appended_packed i.heads.items o.heads.items c.as_slice-heads.result.now i.words.items o.words.items c.as_slice-words.result.now c.words_between-more.result.now c.args.from c.args.to c.start_in-start.result c.len-base.result _ c.self.invariant c.others.invariant c.requires.order
    (omega (arith, c.requires.there, length_cells o.heads.items o.words.items, ap length c.others.view_is)) c.as_slice-heads.ensures.value c.as_slice-words.ensures.value c.start_in-start.ensures (ap length c.as_slice-words.ensures.value) (omega (arith, c.len-base.ensures, i.words.ok.0)) c.words_between-more.ensures
    c.copy_heads.new.heads.items c.extend_from_slice.new.self.items
    (λ l. omega (arith, c.requires.above l, ap end_of c.self.view_is, ap (λ (v : List Held). component_at v c.args.from) c.others.view_is))
    (c.copy_heads.ensures ∙ ap (λ (v : List Head). v ++ map (moved c.start_in-start.result c.len-base.result) (slice_range c.as_slice-heads.result.now c.args.from c.args.to)) c.in_ok-reserve.ensures.items) c.in-Ok.ensures.items (omega (arith, c.if-more-base.false, c.len-base.ensures, i.words.ok.0))

pub returns-in-Ok : goal.returns-in-Ok
returns-in-Ok c =
    let i = c.self.inside in
    let o = c.others.inside in
    appended_cells i.heads.items o.heads.items c.as_slice-heads.result.now i.words.items o.words.items c.as_slice-words.result.now c.words_between-more.result.now c.args.from c.args.to c.start_in-start.result c.len-base.result _ c.self.invariant c.others.invariant c.requires.order
    (omega (arith, c.requires.there, length_cells o.heads.items o.words.items, ap length c.others.view_is)) c.as_slice-heads.ensures.value c.as_slice-words.ensures.value c.start_in-start.ensures (ap length c.as_slice-words.ensures.value) (omega (arith, c.len-base.ensures, i.words.ok.0)) c.words_between-more.ensures
    c.copy_heads.new.heads.items c.extend_from_slice.new.self.items
    (λ l. omega (arith, c.requires.above l, ap end_of c.self.view_is, ap (λ (v : List Held). component_at v c.args.from) c.others.view_is))
    (c.copy_heads.ensures ∙ ap (λ (v : List Head). v ++ map (moved c.start_in-start.result c.len-base.result) (slice_range c.as_slice-heads.result.now c.args.from c.args.to)) c.in_ok-reserve.ensures.items) c.in-Ok.ensures.items (omega (arith, c.if-more-base.false, c.len-base.ensures, i.words.ok.0))
    ∙ ap (λ (v : List Held). v ++ slice_range (Rattle.change_rows.specs.Packed.cells_of o.heads.items o.words.items) c.args.from c.args.to) c.self.view_is
    ∙ ap (λ (v : List Held). c.args.self.now ++ slice_range v c.args.from c.args.to) c.others.view_is
