use Rattle.std.proofs.Common.{◌≡◌, ◌<◌, ◌∙◌, refl, ap, sym, map, length, arith, Some}
use Rattle.std.specs.Prelude.{option_map}
use Rattle.std.specs.Arc.{arc_value}
use Rattle.std.proofs.lemmas.Option.{slice_get-map, slice_get_read}
use Rattle.bench_core.proofs.Rows.{one_more}
use Rattle.bench_core.proofs.lent.lend_all.Goals as goal

pub loop-row-preserved : goal.loop-row-preserved
loop-row-preserved c =
    let i = c.loop-row.row-index in
    let rows = c.args.rows.now in
    let there : i < length rows = omega (arith, c.loop-row-test.true) in
    let same : map arc_value c.row-item.result.items ≡ map (λ r. r.now) c.in_ok-lend.field-0.items = ap (map arc_value) (sym c.as_slice.ensures.value) ∙ sym c.in_ok-lend.ensures in
    ap (map (λ row. map (λ r. r.now) row.items)) c.in_ok-push.ensures.items
    ∙ one_more (λ row. map (λ r. r.now) row.items) c.loop-row.lent.items c.in_ok-lend.field-0 (map (λ row. map arc_value row.items) rows) i c.loop-row.invariant
    (slice_get-map (λ row. map arc_value row.items) rows i ∙ ap (option_map (λ row. map arc_value row.items)) (slice_get_read rows (length rows) i c.row-item.result refl there c.row-item.is) ∙ ap Some same)
