use Rattle.std.proofs.Common.{◌≡◌, ◌^◌, length, drop}
use Rattle.toml.specs.View.{items_view}
use Rattle.project_book.specs.Limits.{script_entries}
use Rattle.project_book.specs.Scripts.{AreFew}
use Rattle.project_file.specs.Fields.{walk}
use Rattle.project_file.specs.Traffic.{with_traffic_item}
use Rattle.project_file.proofs.traffic.with_items.Given as goal

abbrev pub invariant-items : goal.invariant-items
invariant-items l = record {
  count : length l.so_far.scripts ≡ 2 ^ l.k;
  few : AreFew script_entries l.so_far.scripts;
  left : walk (with_traffic_item l.format l.k) l.initial.so_far (items_view l.item-items) ≡ walk (with_traffic_item l.format l.k) l.so_far (items_view (drop l.item-index l.item-items));
}
