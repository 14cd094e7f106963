use Rattle.std.proofs.Common.{◌≡◌, ◌∙◌, ◌+◌, ◌<◌, ◌≤◌, ap, sym, subst, length, arith}
use Rattle.std.proofs.lemmas.List.{length-map}
use Rattle.machine_cells.specs.Run.{run}
use Rattle.machine_cells.specs.Runs.{state_in}
use Rattle.machine_cells.proofs.Runs.{length-below}
use Rattle.omega_net.specs.Numbers.{lines}
use Rattle.omega_net.specs.Wires.{below}
use Rattle.saturation.specs.Levels.{level}
use Rattle.experiments.specs.declared.map.Scope.{Scope}
use Rattle.experiments.specs.Maps.{stages_lengths}
use Rattle.experiments.proofs.LevelFirsts.{firsts_of}
use Rattle.experiments.proofs.Places.{windowed}
use Rattle.experiments.proofs.map.saturation_map.Goals as goal

pub stages_lengths-requires-clause-there : goal.stages_lengths-requires-clause-there
stages_lengths-requires-clause-there c = subst (λ (s : Scope). s.«module» < lines c.args.project.now.k) (sym c.in_ok-kept.ensures.scope) c.requires.there

pub stages_lengths-requires-clause-window : goal.stages_lengths-requires-clause-window
stages_lengths-requires-clause-window c = subst (λ (s : Scope). s.window.from ≤ s.window.to) (sym c.in_ok-kept.ensures.scope) c.requires.window

pub stages_lengths-requires-clause-within : goal.stages_lengths-requires-clause-within
stages_lengths-requires-clause-within c = subst (λ (s : Scope). s.window.to ≤ c.args.project.now.horizon) (sym c.in_ok-kept.ensures.scope) c.requires.within

pub returns-clause-lengths : goal.returns-clause-lengths
returns-clause-lengths c =
    c.in_ok-stages.ensures
    ∙ ap (λ (s : Scope). stages_lengths c.args.project.now.k s.net s.«module» (state_in (run c.args.project.now)) s.window.from s.window.to) c.in_ok-kept.ensures.scope

pub returns-clause-levels : goal.returns-clause-levels
returns-clause-levels c =
    let P = c.args.project.now in
    c.from_vec.ensures
    ∙ windowed (λ t. level P c.args.net c.args.module (state_in (run P) t)) (P.horizon + 1) c.args.window.from c.args.window.to c.as_slice-2.result.now c.in_ok-levels.levels.items
    (c.as_slice-2.ensures.value ∙ c.in_ok-kept.ensures.levels)
    (omega (arith, c.requires.within)) c.requires.window c.in_ok-levels.ensures.items

pub returns-clause-firsts : goal.returns-clause-firsts
returns-clause-firsts c =
    let P = c.args.project.now in
    firsts_of P c.args.net c.args.module (state_in (run P)) c.as_slice.result.now c.in_ok-firsts.firsts.items (c.horizon-cycles.result + 1) c.k.result
    (c.as_slice.ensures.value ∙ c.in_ok-kept.ensures.levels)
    (ap (λ n. n + 1) c.horizon-cycles.ensures.horizon) c.k.ensures.k c.in_ok-firsts.ensures

pub first_cycles-requires-clause-there : goal.first_cycles-requires-clause-there
first_cycles-requires-clause-there c =
    let size : length c.as_slice.result.now ≡ c.args.project.now.horizon + 1 =
    ap length (c.as_slice.ensures.value ∙ c.in_ok-kept.ensures.levels) ∙ length-map (below (c.args.project.now.horizon + 1)) _ ∙ length-below (c.args.project.now.horizon + 1) in
    omega (arith, size, c.horizon-cycles.ensures.horizon)

pub slice_bounds-shown-end : goal.slice_bounds-shown-end
slice_bounds-shown-end c =
    let size : length c.as_slice-2.result.now ≡ c.args.project.now.horizon + 1 =
    ap length (c.as_slice-2.ensures.value ∙ c.in_ok-kept.ensures.levels) ∙ length-map (below (c.args.project.now.horizon + 1)) _ ∙ length-below (c.args.project.now.horizon + 1) in
    omega (arith, size, c.requires.within)
