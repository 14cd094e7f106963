use Rattle.std.proofs.Common.{◌∙◌, sym}
use Rattle.flat_row.specs.Masks.{has}
use Rattle.flat_row.proofs.Processing.{neither, not_false}
use Rattle.flat_row.proofs.step.active.Goals as goal

pub returns-clause-rests : goal.returns-clause-rests
returns-clause-rests c = λ p small out.
    let n = neither (has c.not_in-awake.result p) (has c.either-woken.result p) (sym (c.either.ensures p small) ∙ out) in
    not_false (has c.args.rests p) (sym (c.not_in-awake.ensures p small) ∙ n.0)

pub returns-clause-low : goal.returns-clause-low
returns-clause-low c = λ p small out.
    let n = neither (has c.not_in-awake.result p) (has c.either-woken.result p) (sym (c.either.ensures p small) ∙ out) in
    let m = neither (has c.either-asked.result p) (has c.either-leave.result p) (sym (c.either-woken.ensures p small) ∙ n.1) in
    (neither (has c.args.low.now.receive p) (has c.args.comb.now.receive p) (sym (c.either-asked.ensures p small) ∙ m.0)).0

pub returns-clause-comb : goal.returns-clause-comb
returns-clause-comb c = λ p small out.
    let n = neither (has c.not_in-awake.result p) (has c.either-woken.result p) (sym (c.either.ensures p small) ∙ out) in
    let m = neither (has c.either-asked.result p) (has c.either-leave.result p) (sym (c.either-woken.ensures p small) ∙ n.1) in
    (neither (has c.args.low.now.receive p) (has c.args.comb.now.receive p) (sym (c.either-asked.ensures p small) ∙ m.0)).1

pub returns-clause-low_leave : goal.returns-clause-low_leave
returns-clause-low_leave c = λ p small out.
    let n = neither (has c.not_in-awake.result p) (has c.either-woken.result p) (sym (c.either.ensures p small) ∙ out) in
    let m = neither (has c.either-asked.result p) (has c.either-leave.result p) (sym (c.either-woken.ensures p small) ∙ n.1) in
    sym (c.requests_leave-low_leave.ensures p) ∙ (neither (has c.requests_leave-low_leave.result p) (has c.requests_leave-comb_leave.result p) (sym (c.either-leave.ensures p small) ∙ m.1)).0

pub returns-clause-comb_leave : goal.returns-clause-comb_leave
returns-clause-comb_leave c = λ p small out.
    let n = neither (has c.not_in-awake.result p) (has c.either-woken.result p) (sym (c.either.ensures p small) ∙ out) in
    let m = neither (has c.either-asked.result p) (has c.either-leave.result p) (sym (c.either-woken.ensures p small) ∙ n.1) in
    sym (c.requests_leave-comb_leave.ensures p) ∙ (neither (has c.requests_leave-low_leave.result p) (has c.requests_leave-comb_leave.result p) (sym (c.either-leave.ensures p small) ∙ m.1)).1
