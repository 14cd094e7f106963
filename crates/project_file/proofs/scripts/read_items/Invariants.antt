use Rattle.std.proofs.Common.{◌≡◌, [], drop}
use Rattle.toml.specs.View.{items_view}
use Rattle.project_file.specs.Fields.{walk}
use Rattle.project_file.specs.Expanding.{with_item}
use Rattle.project_file.proofs.scripts.read_items.Given as goal

abbrev pub invariant-items : goal.invariant-items
invariant-items l = walk (with_item l.format) [] (items_view l.item-items) ≡ walk (with_item l.format) l.entries.items (items_view (drop l.item-index l.item-items))
