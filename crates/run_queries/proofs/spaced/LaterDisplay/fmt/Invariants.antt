use Rattle.std.proofs.Common.{take}
use Rattle.std.specs.Fmt.{IsPlainFormatter, HasWritten}
use Rattle.run_queries.specs.Texts.{later_text}
use Rattle.run_queries.proofs.spaced.LaterDisplay.fmt.Given as goal

abbrev pub invariant-loop-number : goal.invariant-loop-number
invariant-loop-number g l = IsPlainFormatter l.fn.f → HasWritten g.W.Write.write_str_gives l.fn.f (later_text (take l.number-index l.self.0.now)) l.f
