use Rattle.std.proofs.Common.{◌≡◌, ◌-◌}
use Rattle.std.specs.List.{flat_map, range_with_len}
use Rattle.machine_cells.specs.Reads.{reader_of}
use Rattle.machine_cells.proofs.readers.readers.Given as goal

abbrev pub invariant-loop-c : goal.invariant-loop-c
invariant-loop-c l = l.readers.items ≡ flat_map (reader_of l.project l.slot) (range_with_len l.start (l.c - l.start))
