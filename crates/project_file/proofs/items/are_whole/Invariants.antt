use Rattle.std.proofs.Common.{◌≡◌, drop}
use Rattle.toml.specs.View.{items_view}
use Rattle.project_file.specs.Fields.{all_items}
use Rattle.project_file.specs.Processors.{is_whole}
use Rattle.project_file.proofs.items.are_whole.Given as goal

abbrev pub invariant-items : goal.invariant-items
invariant-items l = all_items is_whole (items_view (drop l.item-index l.item-items)) ≡ all_items is_whole (items_view l.item-items)
