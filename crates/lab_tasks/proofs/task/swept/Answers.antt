use Rattle.std.proofs.Common.{◌≡◌, ◌<◌, [], length, arith}
use Rattle.std.proofs.lemmas.Grind.{common_steps}
use Rattle.lab_tasks.specs.Words.{texts_of}
use Rattle.lab_tasks.specs.SetUps.{IsSetUp}
use Rattle.lab_tasks.proofs.SweptTexts.{none_of, some_of, swept-plain, swept-edits, unswept-plain, unswept-edits}
use Rattle.lab_tasks.proofs.task.swept.Goals as goal

pub returns-then-is_empty-clause-refused : goal.returns-then-is_empty-clause-refused
returns-then-is_empty-clause-refused g c =
    let W = c.args.words.now in
    let Q = c.in-Ok.project in
    let set : IsSetUp c.args.project (texts_of W.setups.items) Q = rw c.as_slice.ensures.value at c.in-Ok.ensures.done in
    let none : texts_of W.edits.items ≡ [] = none_of W.edits.items (rw (← c.as_slice-edits.ensures.value) (grind (arith, common_steps, c.if-is_empty.ensures))) in
    unswept-plain (λ table. table) W c.args.project Q c.sweep_table.result set none (rw (c.as_slice-depths.ensures.value, c.as_slice-asks.ensures.value) at c.sweep_table.ensures.refused)

pub returns-then-is_empty-clause-done : goal.returns-then-is_empty-clause-done
returns-then-is_empty-clause-done g c =
    let W = c.args.words.now in
    let Q = c.in-Ok.project in
    let set : IsSetUp c.args.project (texts_of W.setups.items) Q = rw c.as_slice.ensures.value at c.in-Ok.ensures.done in
    let none : texts_of W.edits.items ≡ [] = none_of W.edits.items (rw (← c.as_slice-edits.ensures.value) (grind (arith, common_steps, c.if-is_empty.ensures))) in
    swept-plain (λ table. table) W c.args.project Q c.sweep_table.result set none
    (rw (c.has_numbers-numbers.ensures, c.as_slice-depths.ensures.value, c.as_slice-asks.ensures.value) at c.sweep_table.ensures.table)

pub returns-clause-done : goal.returns-clause-done
returns-clause-done g c =
    let W = c.args.words.now in
    let Q = c.in-Ok.project in
    let set : IsSetUp c.args.project (texts_of W.setups.items) Q = rw c.as_slice.ensures.value at c.in-Ok.ensures.done in
    let some : 0 < length (texts_of W.edits.items) = some_of W.edits.items (rw (← c.as_slice-edits.ensures.value) (grind (arith, common_steps, c.if-is_empty.ensures))) in
    swept-edits (λ table. table) W c.args.project Q c.edit_table.result set some
    (rw (c.has_numbers-numbers.ensures, c.as_slice-depths.ensures.value, c.as_slice-asks.ensures.value, c.as_slice-edits.ensures.value) at c.edit_table.ensures.table)

pub returns-clause-refused : goal.returns-clause-refused
returns-clause-refused g c =
    let W = c.args.words.now in
    let Q = c.in-Ok.project in
    let set : IsSetUp c.args.project (texts_of W.setups.items) Q = rw c.as_slice.ensures.value at c.in-Ok.ensures.done in
    let some : 0 < length (texts_of W.edits.items) = some_of W.edits.items (rw (← c.as_slice-edits.ensures.value) (grind (arith, common_steps, c.if-is_empty.ensures))) in
    unswept-edits (λ table. table) W c.args.project Q c.edit_table.result set some
    (rw (c.as_slice-depths.ensures.value, c.as_slice-asks.ensures.value, c.as_slice-edits.ensures.value) at c.edit_table.ensures.refused)
