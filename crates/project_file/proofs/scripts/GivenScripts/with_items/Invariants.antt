use Rattle.std.proofs.Common.{◌≡◌, ◌^◌, length, drop}
use Rattle.toml.specs.View.{items_view}
use Rattle.project_book.specs.Scales.{most_entries}
use Rattle.project_book.specs.Scripts.{AreFew}
use Rattle.project_file.specs.Formats.{scale_of}
use Rattle.project_file.specs.Fields.{walk}
use Rattle.project_file.specs.Scripts.{with_script_item}
use Rattle.project_file.proofs.scripts.GivenScripts.with_items.Given as goal

abbrev pub invariant-items : goal.invariant-items
invariant-items l = record {
  count : length l.so_far.scripts ≡ 2 ^ l.k;
  few : AreFew (most_entries (scale_of l.format)) l.so_far.scripts;
  left : walk (with_script_item l.format l.k) l.initial.so_far (items_view l.item-items) ≡ walk (with_script_item l.format l.k) l.so_far (items_view (drop l.item-index l.item-items));
}
