use Rattle.std.proofs.Common.{◌<◌, ◌∙◌, refl, ap, sym, map, length, arith, Some}
use Rattle.std.specs.Prelude.{option_map}
use Rattle.std.specs.Arc.{arc_value}
use Rattle.std.proofs.lemmas.Option.{slice_get-map, slice_get_read}
use Rattle.bench_core.proofs.Rows.{one_more}
use Rattle.bench_core.proofs.lent.lend.Goals as goal

pub loop-state-preserved : goal.loop-state-preserved
loop-state-preserved c =
    let i = c.loop-state.state-index in
    let row = c.args.row.now in
    let there : i < length row = omega (arith, c.loop-state-test.true) in
    ap (map (λ r. r.now)) c.in_ok-push.ensures.items
    ∙ one_more (λ r. r.now) c.loop-state.lent.items c.deref.result (map arc_value row) i c.loop-state.invariant
    (slice_get-map arc_value row i ∙ ap (option_map arc_value) (slice_get_read row (length row) i c.state-item.result refl there c.state-item.is) ∙ ap Some (sym c.deref.ensures))
