use Rattle.std.proofs.Common.{◌≡◌, ◌+◌, suc, ◌∙◌, ap, refl, arith}
use Rattle.std.specs.Prelude.{◌||◌, bit_or, slice_index_or}
use Rattle.flat_row.specs.Masks.{has}
use Rattle.flat_row.specs.Moving.{leaves_forth, leaves_back}
use Rattle.flat_row.proofs.Touching.{has_either}
use Rattle.flat_row.proofs.changed.passed_at.Goals as goal

pub returns : goal.returns
returns c = λ x.
    let s = c.args.stage in
    let plan = c.args.plan.now in
    let after : s + 1 ≡ suc s = omega arith in
    let forth : has c.requests_leave.result x ≡ leaves_forth c.args.shape plan.forth.leave plan.enter (suc s) x = c.requests_leave.ensures x ∙ ap (λ l. leaves_forth c.args.shape plan.forth.leave plan.enter l x) after in
    has_either (bit_or (slice_index_or plan.forth.leave s 0) c.requests_leave.result) (bit_or (slice_index_or plan.back.leave s 0) c.replies_leave.result) x
    (has (slice_index_or plan.forth.leave s 0) x || leaves_forth c.args.shape plan.forth.leave plan.enter (suc s) x) (has (slice_index_or plan.back.leave s 0) x || leaves_back plan.receive plan.back.leave s x)
    (has_either (slice_index_or plan.forth.leave s 0) c.requests_leave.result x (has (slice_index_or plan.forth.leave s 0) x) (leaves_forth c.args.shape plan.forth.leave plan.enter (suc s) x) refl forth)
    (has_either (slice_index_or plan.back.leave s 0) c.replies_leave.result x (has (slice_index_or plan.back.leave s 0) x) (leaves_back plan.receive plan.back.leave s x) refl (c.replies_leave.ensures x))
