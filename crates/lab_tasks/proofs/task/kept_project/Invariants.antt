use Rattle.std.proofs.Common.{◌≡◌, ◌-◌, ◌++◌, true, false, replicate}
use Rattle.page_map.specs.Limits.{max_k}
use Rattle.experiments.specs.Loads.{loaded}
use Rattle.lab_tasks.proofs.task.kept_project.Given as goal

abbrev pub invariant-loop-stage : goal.invariant-loop-stage
invariant-loop-stage l = l.project ≡ record (loaded l.fn.load) { combine = replicate l.stage true ++ replicate (max_k - l.stage) false }
