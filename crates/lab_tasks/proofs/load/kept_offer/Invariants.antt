use Rattle.std.proofs.Common.{◌≡◌, ◌-◌, ◌++◌, true, false, replicate}
use Rattle.page_map.specs.Limits.{max_k}
use Rattle.experiments.specs.Offers.{project_offered}
use Rattle.lab_tasks.proofs.load.kept_offer.Given as goal

abbrev pub invariant-loop-stage : goal.invariant-loop-stage
invariant-loop-stage l = l.project ≡ record (project_offered l.fn.offer) { combine = replicate l.stage true ++ replicate (max_k - l.stage) false }
