use Rattle.std.proofs.Common.{◌≡◌, drop}
use Rattle.toml.specs.View.{items_view}
use Rattle.project_file.specs.Fields.{all_items}
use Rattle.project_file.specs.Scripts.{is_item}
use Rattle.project_file.proofs.items.are_items.Given as goal

abbrev pub invariant-items : goal.invariant-items
invariant-items l = all_items (is_item l.format) (items_view (drop l.item-index l.item-items)) ≡ all_items (is_item l.format) (items_view l.item-items)
