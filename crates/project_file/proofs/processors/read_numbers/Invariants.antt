use Rattle.std.proofs.Common.{◌≡◌, ◌<◌, ◌^◌, All, [], drop}
use Rattle.toml.specs.View.{items_view}
use Rattle.project_file.specs.Fields.{walk}
use Rattle.project_file.specs.Processors.{with_processor}
use Rattle.project_file.proofs.processors.read_numbers.Given as goal

abbrev pub invariant-items : goal.invariant-items
invariant-items l = record {
  within : All (λ p. p < 2 ^ l.k) l.procs.items;
  left : walk (with_processor l.k) [] (items_view l.item-items) ≡ walk (with_processor l.k) l.procs.items (items_view (drop l.item-index l.item-items));
}
