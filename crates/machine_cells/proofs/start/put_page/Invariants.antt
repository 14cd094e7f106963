use Rattle.std.proofs.Common.{◌≡◌, ◌*◌, ◌+◌, ◌-◌, ◌≤◌}
use Rattle.page_map.specs.Limits.{page_words}
use Rattle.machine_cells.specs.Putting.{IsPut}
use Rattle.machine_cells.proofs.start.put_page.Given as goal

abbrev pub invariant-loop-offset : goal.invariant-loop-offset
invariant-loop-offset l = record {
  put : IsPut l.project l.number l.row l.words;
  from : page_words * l.page ≤ l.row;
  to : l.row ≤ page_words * (l.page + 1);
  at : l.offset ≡ (l.row - page_words * l.page) * l.step + l.first;
}

abbrev pub decreases-loop-offset : goal.decreases-loop-offset
decreases-loop-offset l = page_words - l.offset
