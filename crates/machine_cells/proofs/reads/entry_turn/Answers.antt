use Rattle.std.proofs.Common.{◌∙◌, ◌/◌, ◌%◌, ◌^◌, ap}
use Rattle.std.specs.Prelude.{drop}
use Rattle.project_book.specs.declared.slot.Slot.TheVariants.{Entry}
use Rattle.machine_cells.proofs.Turning.{ahead_by_index, passed_by_index}
use Rattle.machine_cells.proofs.reads.entry_turn.Goals as goal

pub returns-then-index-i-clause-ahead : goal.returns-then-index-i-clause-ahead
returns-then-index-i-clause-ahead c = λ e.
    ahead_by_index c.args.proc c.from-index.result c.in-Entry.i c.args.words.now c.args.slot (c.in-Entry.is ∙ ap (λ p. Entry p c.in-Entry.i) (c.if-p-from.true ∙ c.from.ensures))
    (c.from-index.ensures ∙ c.index_in.ensures (drop 1 c.args.words.now) ∙ ap (λ h. h / 2 ^ 6 % 2 ^ 16) c.split_first-head.ensures.first) c.if-index-i.true

pub returns-then-index-i-2-clause-passed : goal.returns-then-index-i-2-clause-passed
returns-then-index-i-2-clause-passed c = λ e.
    passed_by_index c.args.proc c.from-index.result c.in-Entry.i c.args.words.now c.args.slot (c.in-Entry.is ∙ ap (λ p. Entry p c.in-Entry.i) (c.if-p-from.true ∙ c.from.ensures))
    (c.from-index.ensures ∙ c.index_in.ensures (drop 1 c.args.words.now) ∙ ap (λ h. h / 2 ^ 6 % 2 ^ 16) c.split_first-head.ensures.first) c.if-index-i-2.true
