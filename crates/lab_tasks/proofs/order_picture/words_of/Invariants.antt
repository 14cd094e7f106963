use Rattle.std.proofs.Common.{◌≡◌, ◌≤◌, [], drop, length}
use Rattle.lab_tasks.specs.OrderPictures.{words_from}
use Rattle.lab_tasks.proofs.order_picture.words_of.Given as goal

abbrev pub invariant-loop-row : goal.invariant-loop-row
invariant-loop-row l = record {
  rest : words_from l.words.items (drop l.row-index l.rows) ≡ words_from [] l.rows;
  few : length l.words.items ≤ 4;
}
