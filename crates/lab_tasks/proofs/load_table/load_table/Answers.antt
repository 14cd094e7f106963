use Rattle.std.proofs.Common.{false, string_bytes}
use Rattle.std.specs.Prelude.{None}
use Rattle.experiments.specs.declared.load.Load.{Load}
use Rattle.lab_tasks.specs.declared.load_table.LoadPoint.{LoadPoint}
use Rattle.lab_tasks.specs.LoadTables.{load_row}
use Rattle.lab_tasks.proofs.Lines.{line-more}
use Rattle.lab_tasks.proofs.load_table.load_table.Goals as goal

pub loop-point-preserved : goal.loop-point-preserved
loop-point-preserved c =
    let load : Load = record { k = 0; hot = 0; seed = 0; cycles = 0; sync = false; combine = false } in
    let point : LoadPoint = record { offer = record { load = load; rate = 0 }; first = 0; answered = 0; replies = 0; unanswered = 0; mean = None } in
    line-more load_row c.args.points.now c.loop-point.point-index point (string_bytes c.in_ok-text.text)
    (string_bytes c.loop-point.text) (string_bytes c.writeln.new.self) c.loop-point-test.true c.loop-point.invariant c.in_ok-writeln.ensures.bytes
