use Rattle.std.proofs.Common.{◌∙◌, List, ap, map}
use Rattle.std.specs.Prelude.{slice_get}
use Rattle.std.proofs.lemmas.List.{take_all}
use Rattle.run_reports.specs.declared.full_queues.FirstFull.{FirstFull}
use Rattle.run_reports.specs.Filling.{with_cycle}
use Rattle.run_reports.proofs.Filling.{cycle_more}
use Rattle.run_reports.proofs.full_queues.add_cycle.Goals as goal

pub returns : goal.returns
returns c are =
    let P = c.args.project.now in
    let r = c.args.runner.now in
    let states = c.in_ok-states.states.items in
    let before = c.args.before.now in
    cycle_more P r states before c.loop-first.all.items c.requires.at c.in_ok-states.ensures
    (c.loop-first.invariant ∙ ap (λ (fs : List FirstFull). map (with_cycle P (slice_get states) r.cycle) fs) (take_all c.loop-first.first-index before c.loop-first-test.false))
    are
