use Rattle.std.proofs.Common.{◌*◌}
use Rattle.page_map.specs.Limits.{page_words}
use Rattle.machine_cells.specs.Putting.{IsPut}
use Rattle.machine_cells.proofs.start.words_in.Given as goal

abbrev pub invariant-loop-page : goal.invariant-loop-page
invariant-loop-page l = IsPut l.project l.number (page_words * l.page) l.words
