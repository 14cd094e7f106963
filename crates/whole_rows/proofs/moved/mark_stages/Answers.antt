use Rattle.std.proofs.Common.{◌+◌, ◌*◌, ◌∙◌, ap, arith}
use Rattle.std.specs.Prelude.{◌||◌, slice_index_or}
use Rattle.omega_net.specs.Numbers.{half}
use Rattle.cell_states.specs.Filling.{is_awake}
use Rattle.whole_rows.specs.Among.{is_among, in_stage}
use Rattle.whole_rows.proofs.Marking.{stage_joins}
use Rattle.whole_rows.proofs.moved.mark_stages.Goals as goal

pub loop-stage-preserved : goal.loop-stage-preserved
loop-stage-preserved c =
    let k = c.args.shape in
    let s = c.loop-stage.stage in
    record {
      len = c.mark_stage.ensures.len ∙ c.loop-stage.invariant.len;
      marks = λ d h. stage_joins k c.args.first s d c.args.sets.now (is_awake c.args.marks.now d) (is_awake c.loop-stage.marks d) (is_awake c.mark_stage.new.marks d) (c.loop-stage.invariant.marks d h)
          (c.mark_stage.ensures.marks d (omega (arith, c.loop-stage.invariant.len, c.requires.width, h))
          ∙ ap (λ n. is_awake c.loop-stage.marks d || is_among (c.args.first + s * n) (half k) (in_stage k s (slice_index_or c.args.sets.now s 0)) d) c.half.ensures.value);
    }
