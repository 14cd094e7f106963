use Rattle.std.proofs.Common.{◌≡◌, ◌<◌, ◌+◌, All}
use Rattle.project_file.specs.Processors.{numbers_from}
use Rattle.project_file.proofs.processors.numbers_from.Given as goal

abbrev pub invariant-loop-index : goal.invariant-loop-index
invariant-loop-index l = record {
  so_far : l.numbers.items ≡ numbers_from l.first l.index;
  within : All (λ p. p < l.first + l.count) l.numbers.items;
}
