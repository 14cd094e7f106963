use Rattle.std.proofs.Common.{◌++◌, take, codes}
use Rattle.std.specs.List.{flat_map}
use Rattle.std.specs.Fmt.{IsPlainFormatter, HasWritten}
use Rattle.saturation.proofs.Printing.{part}
use Rattle.saturation.proofs.report.TreeDisplay.fmt.Given as goal

abbrev pub invariant-loop-first : goal.invariant-loop-first
invariant-loop-first g l =
    IsPlainFormatter l.fn.f → HasWritten g.W.Write.write_str_gives l.fn.f (codes "first" ++ flat_map part (take l.first-index l.first-items)) l.f
