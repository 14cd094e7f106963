use Rattle.std.proofs.Common.{ℕ, sym, ap, ◌∙◌, append-nil}
use Rattle.machine_cells.specs.Run.{run}
use Rattle.machine_cells.specs.Runs.{state_in}
use Rattle.experiments.specs.Lengths.{length_there}
use Rattle.saturation.specs.Towards.{line_towards}
use Rattle.experiments.specs.Maps.{length_on}
use Rattle.experiments.proofs.Keeping.{queue_next}
use Rattle.experiments.proofs.map.add_stage.Goals as goal

pub loop-place-init : goal.loop-place-init
loop-place-init c = sym (append-nil c.args.lengths.now.items)

pub loop-place-preserved : goal.loop-place-preserved
loop-place-preserved c =
    let P = c.args.project.now in
    let s = c.args.scope in
    let at = state_in (run P) c.args.runner.now.cycle in
    queue_next (length_there P.k s.net s.«module» at c.args.stage) c.loop-place.place c.length_on.result c.args.lengths.now.items c.loop-place.lengths.items _
    c.loop-place.invariant c.in_ok-push.ensures.items
    (c.length_on.ensures ∙ ap (length_on P.k s.net at c.args.stage) (c.line_towards-line.ensures.line ∙ ap (λ (k : ℕ). line_towards k s.«module» c.args.stage c.loop-place.place) c.k-k.ensures.k))
