use Rattle.std.proofs.Common.{◌<◌, ◌≤◌, ◌∙◌, ap, arith, true, List, Bool, length}
use Rattle.std.proofs.Math.ListN.{length-set}
use Rattle.change_rows.specs.Cells.{end_of}
use Rattle.change_rows.proofs.Finding.{below_end}
use Rattle.cell_states.specs.Filling.{is_awake}
use Rattle.cell_states.proofs.Drafted.{marked_more}
use Rattle.cell_states.proofs.states.each.mark_draft.Goals as goal

pub set-requires : goal.set-requires
set-requires c =
    omega (arith, c.component.ensures, below_end c.args.draft.now c.loop-i.i (omega (arith, c.loop-i-test.true, c.len-i-end.ensures.count)), c.requires, c.loop-i.invariant.len)

pub loop-i-preserved : goal.loop-i-preserved
loop-i-preserved c =
    let inv = c.loop-i.invariant in
    let h : c.loop-i.i < length c.args.draft.now = omega (arith, c.loop-i-test.true, c.len-i-end.ensures.count) in
    let within : end_of c.args.draft.now ≤ length c.loop-i.changes = omega (arith, c.requires, inv.len) in record {
      len = ap length c.set.ensures ∙ length-set c.loop-i.changes c.component.result true ∙ inv.len;
      marks = λ d. ap (λ (m : List Bool). is_awake m d) c.set.ensures ∙ marked_more c.args.changes.now c.loop-i.changes c.args.draft.now c.loop-i.i c.component.result h c.component.ensures within inv.marks d;
    }
