use Rattle.std.proofs.Common.{◌≡◌, ◌+◌, ◌<◌, ℕ, sym, subst, ap, ◌∙◌, map, arith}
use Rattle.omega_net.specs.Numbers.{lines}
use Rattle.omega_net.specs.Wires.{below}
use Rattle.machine_cells.specs.Run.{run}
use Rattle.machine_cells.specs.Runs.{state_in}
use Rattle.saturation.specs.Levels.{level}
use Rattle.experiments.specs.declared.map.Scope.{Scope}
use Rattle.experiments.specs.Lengths.{lengths_of, states_from, IsKept}
use Rattle.experiments.specs.Maps.{has_served, served_over}
use Rattle.experiments.proofs.Keeping.{all_shown, none_kept}
use Rattle.experiments.proofs.map.Kept.of_run.Goals as goal

pub loop-cycle-init : goal.loop-cycle-init
loop-cycle-init c =
    let first = c.in_ok-runner.ensures.first in
    record {
      at = c.in_ok-runner.ensures.at;
      cycle = first;
      scope = c.add.ensures.scope;
      kept = subst (λ (t : ℕ). IsKept c.args.project.now (t + 1) c.add.new.self) first
          (c.in_ok-add.ensures.kept (none_kept c.args.project.now c.in_ok-runner.runner.cycle _ first c.new.ensures.items c.new-2.ensures.items c.new-3.ensures.items));
    }

pub add-requires-in-loop-cycle-clause-there : goal.add-requires-in-loop-cycle-clause-there
add-requires-in-loop-cycle-clause-there c = subst (λ (s : Scope). s.«module» < lines c.args.project.now.k) (sym c.loop-cycle.invariant.scope) c.requires.there

pub loop-cycle-preserved : goal.loop-cycle-preserved
loop-cycle-preserved c =
    let later : c.step.new.self.cycle ≡ c.loop-cycle._cycle + 1 = c.in_ok-step.ensures.next ∙ ap (λ (n : ℕ). n + 1) c.loop-cycle.invariant.cycle in
    record {
      at = c.in_ok-step.ensures.at;
      cycle = later;
      scope = c.add-in-loop-cycle.ensures.scope ∙ c.loop-cycle.invariant.scope;
      kept = subst (λ (t : ℕ). IsKept c.args.project.now (t + 1) c.add-in-loop-cycle.new.self) later
          (c.in_ok-add-2.ensures.kept (subst (λ (t : ℕ). IsKept c.args.project.now t c.loop-cycle.kept) (sym later) c.loop-cycle.invariant.kept));
    }

pub returns-clause-lengths : goal.returns-clause-lengths
returns-clause-lengths c =
    let P = c.args.project.now in
    let kept = c.loop-cycle.kept in
    let late : kept.scope.window.to < c.loop-cycle._cycle + 1 =
    subst (λ (s : Scope). s.window.to < c.loop-cycle._cycle + 1) (sym c.loop-cycle.invariant.scope)
    (omega (arith, c.requires.within, c.loop-cycle-test.false, c.loop-cycle.auto._cycle-end, c.horizon-last.ensures.horizon)) in
    c.loop-cycle.invariant.kept.lengths ∙ ap (lengths_of P kept.scope) (all_shown kept.scope.window (c.loop-cycle._cycle + 1) late)

pub returns-clause-served : goal.returns-clause-served
returns-clause-served c =
    let P = c.args.project.now in
    let kept = c.loop-cycle.kept in
    let late : kept.scope.window.to < c.loop-cycle._cycle + 1 =
    subst (λ (s : Scope). s.window.to < c.loop-cycle._cycle + 1) (sym c.loop-cycle.invariant.scope)
    (omega (arith, c.requires.within, c.loop-cycle-test.false, c.loop-cycle.auto._cycle-end, c.horizon-last.ensures.horizon)) in
    c.loop-cycle.invariant.kept.served
    ∙ ap (λ (n : ℕ). map (λ i. has_served kept.scope.net (states_from P kept.scope.window i (lines P.k + kept.scope.«module»))) (below n)) (all_shown kept.scope.window (c.loop-cycle._cycle + 1) late)
    ∙ ap (λ (s : Scope). served_over s.net (state_in (run P)) (lines P.k + s.«module») s.window.from s.window.to) c.loop-cycle.invariant.scope

pub returns-clause-levels : goal.returns-clause-levels
returns-clause-levels c =
    let P = c.args.project.now in
    let last : c.loop-cycle._cycle ≡ P.horizon = omega (arith, c.loop-cycle-test.false, c.loop-cycle.auto._cycle-end, c.horizon-last.ensures.horizon) in
    c.loop-cycle.invariant.kept.levels
    ∙ ap (λ (n : ℕ). map (λ t. level P c.loop-cycle.kept.scope.net c.loop-cycle.kept.scope.«module» (state_in (run P) t)) (below (n + 1))) last
    ∙ ap (λ (s : Scope). map (λ t. level P s.net s.«module» (state_in (run P) t)) (below (P.horizon + 1))) c.loop-cycle.invariant.scope
