use Rattle.std.proofs.Common.{◌∙◌, sym, arith, length}
use Rattle.std.proofs.lemmas.Bool.{true≢false}
use Rattle.due_cells.proofs.Taken.{long_copied, copied_at, stays_marked, taken_away}
use Rattle.due_cells.proofs.spare.find_left.Goals as goal

pub remove-requires : goal.remove-requires
remove-requires c = c.requires.known ∙ sym c.requires.width ∙ sym (long_copied c.clear_all.new.self c.args.due.now c.add.new.self (length c.args.left.now) c.clear_all.ensures c.add.ensures)

pub returns-then-known_at-cycle-clause-width : goal.returns-then-known_at-cycle-clause-width
returns-then-known_at-cycle-clause-width c = c.remove.ensures.len ∙ long_copied c.clear_all.new.self c.args.due.now c.add.new.self (length c.args.left.now) c.clear_all.ensures c.add.ensures

pub returns-then-known_at-cycle-clause-due : goal.returns-then-known_at-cycle-clause-due
returns-then-known_at-cycle-clause-due c = λ d m.
    sym (copied_at c.clear_all.new.self c.args.due.now c.add.new.self (length c.args.left.now) c.clear_all.ensures c.add.ensures (sym c.requires.width) d)
    ∙ (stays_marked c.add.new.self c.args.known.now c.remove.new.self c.remove.ensures.len c.remove.ensures.marks d m).0

pub returns-then-known_at-cycle-clause-rest : goal.returns-then-known_at-cycle-clause-rest
returns-then-known_at-cycle-clause-rest c = λ d due gone.
    let copied = copied_at c.clear_all.new.self c.args.due.now c.add.new.self (length c.args.left.now) c.clear_all.ensures c.add.ensures (sym c.requires.width) d in
    (omega (arith, c.if-known_at-cycle.true), taken_away c.add.new.self c.args.known.now c.remove.new.self c.remove.ensures.len c.remove.ensures.marks d (copied ∙ due) gone)

pub returns-else-known_at-cycle-clause-width : goal.returns-else-known_at-cycle-clause-width
returns-else-known_at-cycle-clause-width c = long_copied c.clear_all.new.self c.args.due.now c.add.new.self (length c.args.left.now) c.clear_all.ensures c.add.ensures

pub returns-else-known_at-cycle-clause-due : goal.returns-else-known_at-cycle-clause-due
returns-else-known_at-cycle-clause-due c = λ d m.
    sym (copied_at c.clear_all.new.self c.args.due.now c.add.new.self (length c.args.left.now) c.clear_all.ensures c.add.ensures (sym c.requires.width) d) ∙ m

pub returns-else-known_at-cycle-clause-rest : goal.returns-else-known_at-cycle-clause-rest
returns-else-known_at-cycle-clause-rest c = λ d due gone.
    let copied = copied_at c.clear_all.new.self c.args.due.now c.add.new.self (length c.args.left.now) c.clear_all.ensures c.add.ensures (sym c.requires.width) d in
    absurd (true≢false (sym due ∙ sym copied ∙ gone))
