use Rattle.std.proofs.Common.{◌≡◌, ℕ, ◌<◌, map, length, option_map, slice_index_or, None}
use Rattle.std.specs.Arc.{arc_value}
use Rattle.project_book.proofs.pages.share_each.Given as goal

abbrev pub invariant-loop-page : goal.invariant-loop-page
invariant-loop-page l = record {
  many : length l.shared.items ≡ l.page;
  same : (g : ℕ) → g < l.page → slice_index_or (map (option_map arc_value) l.shared.items) g None ≡ slice_index_or (map (option_map arc_value) l.pages) g None;
}
