use Rattle.std.proofs.Common.{◌≡◌, ◌<◌, ◌∙◌, [], length, ap, sym, subst, arith}
use Rattle.std.specs.Prelude.{◌||◌, bit_or, slice_index_or}
use Rattle.std.proofs.Math.ListN.{length-set}
use Rattle.std.proofs.lemmas.List.{get_or_read, get_or-set_other}
use Rattle.flat_row.specs.Masks.{IsSetOf}
use Rattle.flat_row.specs.Row.{Arrays, Buffers, buffers_at}
use Rattle.flat_row.specs.Changed.{crosses, has_combined}
use Rattle.flat_row.proofs.Touching.{stages_so, combs_so}
use Rattle.flat_row.proofs.row.Row.combs_crossed.Goals as goal

pub loop-stage-preserved : goal.loop-stage-preserved
loop-stage-preserved c =
    let R = c.args.self.now in
    let plan = c.args.plan.now in
    let s = c.loop-stage.stage in
    let size : c.self.inside.shape ≡ R.k = ap (λ (r : Arrays). r.k) c.self.view_is in
    let waits : Buffers = record { entries = c.waits.inside.entries.items; once = c.waits.inside.once; twice = c.waits.inside.twice } in
    let there : s < length c.self.inside.waits.items = omega (arith, c.loop-stage-test.true, c.k-stage-end.ensures.value, c.self.invariant.buffers) in
    let here : waits ≡ buffers_at R s =
    c.waits.view_is ∙ get_or_read c.self.inside.waits.items s c.index-waits.result.now there c.index-waits.ensures (record { entries = []; once = 0; twice = 0 })
    ∙ ap (λ (r : Arrays). buffers_at r s) c.self.view_is in
    let was = slice_index_or c.loop-stage.sets s 0 in
    let next = bit_or was (bit_or c.waits.inside.once c.waits.inside.twice) in
    let within : s < length c.loop-stage.sets = omega (arith, c.loop-stage.invariant.long, c.loop-stage-test.true, c.k-stage-end.ensures.within) in
    let in_stage : s < R.k = omega (arith, c.loop-stage-test.true, c.k-stage-end.ensures.value, size) in
    let one : IsSetOf (λ x. crosses R.k plan s x || has_combined (buffers_at R s) x) next =
    subst (λ b. IsSetOf (λ x. crosses R.k plan s x || has_combined b x) next) here (combs_so R.k plan s was waits (c.loop-stage.invariant.rest s (omega arith) in_stage)) in
    record {
      long = length-set c.loop-stage.sets s next ∙ c.loop-stage.invariant.long;
      all = stages_so (λ t set. IsSetOf (λ x. crosses R.k plan t x || has_combined (buffers_at R t) x) set) s c.loop-stage.sets next within c.loop-stage.invariant.all one;
      rest = λ t le lt. subst (λ set. IsSetOf (crosses R.k plan t) set) (sym (get_or-set_other c.loop-stage.sets s t next 0 (λ e. omega (arith, e, le)))) (c.loop-stage.invariant.rest t (omega (arith, le)) lt);
    }

pub returns : goal.returns
returns c = λ s h. c.loop-stage.invariant.all s (omega (arith, h, c.loop-stage-test.false, c.k-stage-end.ensures.value, ap (λ (r : Arrays). r.k) c.self.view_is, c.loop-stage.auto.stage-end))
