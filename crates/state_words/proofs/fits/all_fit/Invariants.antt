use Rattle.std.proofs.Common.{All, take}
use Rattle.state_words.proofs.fits.all_fit.Given as goal

abbrev pub invariant-loop-i : goal.invariant-loop-i
invariant-loop-i g l = All g.T.TwoWords.fits (take l.i l.messages)
