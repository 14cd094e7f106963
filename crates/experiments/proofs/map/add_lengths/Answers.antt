use Rattle.std.proofs.Common.{◌≡◌, ◌-◌, ◌++◌, ℕ, sym, ap, ◌∙◌, append-nil, arith}
use Rattle.machine_cells.specs.Run.{run}
use Rattle.machine_cells.specs.Runs.{state_in}
use Rattle.experiments.specs.Lengths.{lengths_now, stage_now}
use Rattle.experiments.proofs.Keeping.{stage_next}
use Rattle.experiments.proofs.map.add_lengths.Goals as goal

pub loop-back-init : goal.loop-back-init
loop-back-init c = sym (append-nil c.args.lengths.now.items)

pub add_stage-requires-clause-stage : goal.add_stage-requires-clause-stage
add_stage-requires-clause-stage c = omega (arith, c.loop-back-test.true, c.k-k.ensures.k)

pub loop-back-preserved : goal.loop-back-preserved
loop-back-preserved c =
    let P = c.args.project.now in
    let s = c.args.scope in
    let at = state_in (run P) c.args.runner.now.cycle in
    stage_next (λ b. stage_now P.k s.net s.«module» at (P.k - 1 - b)) c.loop-back.back c.args.lengths.now.items c.loop-back.lengths.items c.add_stage.new.lengths.items
    c.loop-back.invariant
    (c.in_ok-add_stage.ensures ∙ ap (λ (k : ℕ). c.loop-back.lengths.items ++ stage_now P.k s.net s.«module» at (k - 1 - c.loop-back.back)) c.k-k.ensures.k)

pub returns : goal.returns
returns c =
    let P = c.args.project.now in
    let s = c.args.scope in
    let all : c.loop-back.back ≡ P.k = omega (arith, c.loop-back-test.false, c.loop-back.auto.back-end, c.k-k.ensures.k) in
    c.loop-back.invariant ∙ ap (λ (n : ℕ). c.args.lengths.now.items ++ lengths_now P.k s.net s.«module» (state_in (run P) c.args.runner.now.cycle) n) all
