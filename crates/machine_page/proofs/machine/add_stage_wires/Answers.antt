use Rattle.std.proofs.Common.{refl}
use Rattle.machine_page.specs.Machines.{wire_text}
use Rattle.machine_page.proofs.Lines.{text_more}
use Rattle.machine_page.proofs.machine.add_stage_wires.Goals as goal

pub loop-line-preserved : goal.loop-line-preserved
loop-line-preserved c =
    text_more (λ line. wire_text c.args.shape (record { net = c.args.net; stage = c.args.stage; line = line })) c.loop-line.line _ _ _ _ c.loop-line.invariant
    c.in_ok-add_wire.ensures refl
