use Rattle.std.proofs.Common.{◌≡◌, ◌++◌, drop}
use Rattle.lab_tasks.specs.OrderPictures.{keys_from}
use Rattle.lab_tasks.proofs.order_picture.keys_of.Given as goal

abbrev pub invariant-loop-word : goal.invariant-loop-word
invariant-loop-word l = record {
  rest : l.keys.items ++ keys_from l.place (drop l.word-index l.words) ≡ keys_from 0 l.words;
  place : l.place ≡ l.word-index;
}
