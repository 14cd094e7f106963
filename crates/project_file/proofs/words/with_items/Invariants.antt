use Rattle.std.proofs.Common.{◌≡◌, length, drop}
use Rattle.toml.specs.View.{items_view}
use Rattle.page_map.specs.Limits.{address_count}
use Rattle.project_file.specs.Fields.{walk}
use Rattle.project_file.specs.Words.{with_word_item}
use Rattle.project_file.proofs.words.with_items.Given as goal

abbrev pub invariant-items : goal.invariant-items
invariant-items l = record {
  whole : length l.memory.items ≡ address_count;
  left : walk with_word_item l.initial.memory.items (items_view l.item-items) ≡ walk with_word_item l.memory.items (items_view (drop l.item-index l.item-items));
}
