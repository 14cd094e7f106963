use Rattle.std.proofs.Common.{◌≡◌, drop}
use Rattle.toml.specs.View.{items_view}
use Rattle.project_file.specs.Fields.{walk}
use Rattle.project_file.specs.Pages.{with_page_item}
use Rattle.project_file.proofs.pages.GivenPages.with_items.Given as goal

abbrev pub invariant-items : goal.invariant-items
invariant-items l = record {
  k : l.so_far.pages.k ≡ l.initial.so_far.pages.k;
  left : walk with_page_item l.initial.so_far (items_view l.item-items) ≡ walk with_page_item l.so_far (items_view (drop l.item-index l.item-items));
}
