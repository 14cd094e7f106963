use Rattle.std.proofs.Common.{◌≡◌, length}
use Rattle.std.specs.Vec.Iter.{into_iter_items, into_iter_len}
use Rattle.wave_workers.specs.Working.{counted, stored_in}
use Rattle.wave_workers.proofs.lot.tally_of.Given as goal

abbrev pub invariant-loop-given : goal.invariant-loop-given
invariant-loop-given l = record {
  left : into_iter_len l.given-iterator ≡ length (into_iter_items l.given-iterator);
  given : counted l.tally.given (length (into_iter_items l.given-iterator)) ≡ counted 0 (length l.fn.answers.items);
  stored : counted l.tally.stored (stored_in (into_iter_items l.given-iterator)) ≡ counted 0 (stored_in l.fn.answers.items);
}
