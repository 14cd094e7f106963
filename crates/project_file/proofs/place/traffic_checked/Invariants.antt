use Rattle.std.proofs.Common.{◌≡◌, ◌^◌, length}
use Rattle.project_file.proofs.place.traffic_checked.Given as goal

abbrev pub invariant-items : goal.invariant-items
invariant-items l = length l.so_far.scripts ≡ 2 ^ l.k
