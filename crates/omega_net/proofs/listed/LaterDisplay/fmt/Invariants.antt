use Rattle.std.proofs.Common.{take}
use Rattle.std.specs.Fmt.{IsPlainFormatter}
use Rattle.omega_net.specs.Texts.{later_items_text}
use Rattle.omega_net.proofs.Listing.{Shows}
use Rattle.omega_net.proofs.listed.LaterDisplay.fmt.Given as goal

abbrev pub invariant-loop-item : goal.invariant-loop-item
invariant-loop-item g l =
    IsPlainFormatter l.fn.f → Shows g.W.Write.write_str_gives l.fn.f (later_items_text g.T.Display.output (take l.item-index l.self.0.now)) l.f
