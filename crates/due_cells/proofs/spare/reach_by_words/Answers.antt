use Rattle.std.proofs.Common.{◌≡◌, ℕ, ◌∙◌, sym, ap, arith, length, not, ◌&&◌}
use Rattle.cell_states.specs.Filling.{is_awake}
use Rattle.cell_states.specs.Versions.{any_changes}
use Rattle.due_cells.proofs.Taken.{long_copied, long_union, copied_at, any_left, joined_reads}
use Rattle.due_cells.proofs.spare.reach_by_words.Goals as goal

pub remove-requires : goal.remove-requires
remove-requires g c = c.requires.worded.marks.others ∙ sym c.requires.left ∙ sym (long_copied c.clear_all.new.self c.args.changes.now c.add.new.self (length c.args.left.now) c.clear_all.ensures c.add.ensures)

pub reach_in-requires-2-clause-width : goal.reach_in-requires-2-clause-width
reach_in-requires-2-clause-width g c = c.remove.ensures.len ∙ long_copied c.clear_all.new.self c.args.changes.now c.add.new.self (length c.args.left.now) c.clear_all.ensures c.add.ensures ∙ c.requires.left

pub returns-clause-left : goal.returns-clause-left
returns-clause-left g c = c.remove.ensures.len ∙ long_copied c.clear_all.new.self c.args.changes.now c.add.new.self (length c.args.left.now) c.clear_all.ensures c.add.ensures

pub returns-clause-readers : goal.returns-clause-readers
returns-clause-readers g c = record {
  marks = ap length c.add-2.ensures ∙ long_union c.reach_in.new.reached c.remove-2.new.self ∙ c.reach_in.ensures.len ∙ c.requires.readers.marks;
  others = c.remove-2.ensures.len ∙ c.reach_in-2.ensures.len ∙ c.requires.readers.others;
}

pub returns-clause-reached : goal.returns-clause-reached
returns-clause-reached g c = λ d h.
    let n = g.G.Grid.rules.components c.args.slots.now in
    let near = g.G.Grid.rules.near c.args.slots.now d in
    let changes = c.args.changes.now in
    let worded = c.args.worded.now in
    let left = c.remove.new.self in
    let long = long_copied c.clear_all.new.self changes c.add.new.self (length c.args.left.now) c.clear_all.ensures c.add.ensures ∙ c.requires.left in
    let copied : (k : ℕ) → is_awake c.add.new.self k ≡ is_awake changes k = copied_at c.clear_all.new.self changes c.add.new.self (length c.args.left.now) c.clear_all.ensures c.add.ensures (c.requires.worded.marks.marks ∙ sym c.requires.left) in
    joined_reads c.reach_in.new.reached c.add-2.new.self c.reach_in-2.new.reached c.remove-2.new.self n d
    (any_changes worded near n) (any_changes left near n) (any_changes changes near n) h
    (c.reach_in.ensures.len ∙ c.requires.readers.marks) c.add-2.ensures (c.reach_in.ensures.reached d h) (c.reach_in-2.ensures.reached d h)
    (c.remove-2.ensures.marks d (omega (arith, h, c.reach_in-2.ensures.len, c.requires.readers.others)))
    (any_left changes worded left near n c.requires.worded.among (λ k l. c.remove.ensures.marks k (omega (arith, l, long)) ∙ ap (λ b. b && not (is_awake worded k)) (copied k)))
