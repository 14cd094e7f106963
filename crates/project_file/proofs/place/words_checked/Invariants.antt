use Rattle.std.proofs.Common.{◌≡◌, length}
use Rattle.page_map.specs.Limits.{address_count}
use Rattle.project_file.proofs.place.words_checked.Given as goal

abbrev pub invariant-items : goal.invariant-items
invariant-items l = length l.memory.items ≡ address_count
