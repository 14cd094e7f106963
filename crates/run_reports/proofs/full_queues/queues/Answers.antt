use Rattle.std.proofs.Common.{◌∙◌, ◌++◌, List, ap, sym}
use Rattle.run_reports.specs.declared.full_queues.PartQueue.{PartQueue}
use Rattle.run_reports.specs.FullQueues.{queues_of}
use Rattle.run_reports.proofs.Below.{flat-next}
use Rattle.run_reports.proofs.full_queues.queues.Goals as goal

pub loop-place-preserved : goal.loop-place-preserved
loop-place-preserved c =
    let k = c.args.shape in
    let n = c.loop-place.place in
    c.in_ok-add_queues.ensures ∙ ap (λ (xs : List PartQueue). xs ++ queues_of k n) c.loop-place.invariant ∙ sym (flat-next (queues_of k) n)
