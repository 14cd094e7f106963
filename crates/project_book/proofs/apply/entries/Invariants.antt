use Rattle.project_book.specs.Slots.{AreEntries}
use Rattle.project_book.proofs.apply.entries.Given as goal

abbrev pub invariant-loop-index : goal.invariant-loop-index
invariant-loop-index l = AreEntries l.proc l.from l.index l.slots.items
