use Rattle.std.proofs.Common.{◌∙◌, ◌<◌, length, refl, arith}
use Rattle.bench_core.specs.Shown.{project_of}
use Rattle.lab_tasks.proofs.Answering.{told_none, told_next}
use Rattle.lab_tasks.proofs.telling.add_told.Goals as goal

pub loop-asking-init : goal.loop-asking-init
loop-asking-init g c = record {
  project = refl;
  cells = told_none c.args.form (project_of c.args.bench.now) c.args.cells.now.items;
}

pub loop-asking-preserved : goal.loop-asking-preserved
loop-asking-preserved g c =
    let within : c.loop-asking.asking-index < length c.args.askings.now = omega arith in
    record {
      project = c.in-Ok.ensures.project ∙ c.loop-asking.invariant.project;
      cells =
          told_next c.args.form (project_of c.args.bench.now) (project_of c.loop-asking.bench) c.args.askings.now c.loop-asking.asking-index _ c.in-Ok.said
          c.args.cells.now.items c.loop-asking.cells.items c.add_said.new.cells.items within c.loop-asking.invariant.project c.loop-asking.invariant.cells
          c.in-Ok.ensures.said c.in_ok-add_said.ensures;
    }
