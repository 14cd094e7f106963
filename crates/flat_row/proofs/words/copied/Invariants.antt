use Rattle.std.proofs.Common.{◌≡◌, take}
use Rattle.mem_module.specs.Memory.{IsAscending}
use Rattle.flat_row.proofs.words.copied.Given as goal

abbrev pub invariant-loop-i : goal.invariant-loop-i
invariant-loop-i l = IsAscending l.stored → l.words ≡ take l.i l.stored
