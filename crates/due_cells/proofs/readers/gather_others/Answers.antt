use Rattle.std.proofs.Common.{◌<◌, ◌∙◌, ap, arith, length, true}
use Rattle.std.specs.List.{list_any}
use Rattle.std.proofs.lemmas.List.{length-replicate}
use Rattle.cell_states.specs.Near.{near_at}
use Rattle.cell_states.specs.Filling.{is_awake}
use Rattle.cell_states.proofs.Looking.{joined_at, long_union}
use Rattle.due_cells.proofs.Others.{woken_or_marked}
use Rattle.due_cells.proofs.readers.gather_others.Goals as goal

pub returns-clause-len : goal.returns-clause-len
returns-clause-len c =
    long_union c.keep_woken.new.rest c.args.changes.now c.add.new.self c.add.ensures
    ∙ c.keep_woken.ensures.len ∙ c.remove.ensures.len ∙ ap length c.mark_all.ensures ∙ length-replicate (length c.args.reached.now) true

pub returns-clause-at : goal.returns-clause-at
returns-clause-at c = λ k h.
    let n = length c.args.reached.now in
    let marks = c.args.changes.now in
    let l : k < length c.mark_all.new.self = omega (arith, h, ap length c.mark_all.ensures, length-replicate n true) in
    woken_or_marked c.mark_all.new.self c.remove.new.self c.keep_woken.new.rest c.add.new.self marks (list_any (is_awake marks) (near_at c.args.near.now k)) n k h c.mark_all.ensures
    (c.remove.ensures.marks k l)
    (c.keep_woken.ensures.at k)
    (joined_at c.keep_woken.new.rest marks c.add.new.self c.add.ensures k (omega (arith, l, c.keep_woken.ensures.len, c.remove.ensures.len)))
