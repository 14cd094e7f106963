use Rattle.std.proofs.Common.{◌≡◌, drop}
use Rattle.toml.specs.View.{items_view}
use Rattle.project_file.specs.Fields.{all_items}
use Rattle.project_file.specs.Expanding.{is_text}
use Rattle.project_file.proofs.items.are_texts.Given as goal

abbrev pub invariant-items : goal.invariant-items
invariant-items l = all_items is_text (items_view (drop l.item-index l.item-items)) ≡ all_items is_text (items_view l.item-items)
