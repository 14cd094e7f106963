use Rattle.std.proofs.Common.{◌<◌, ◌≤◌, ℕ, sym, subst, ap, ◌∙◌, arith}
use Rattle.omega_net.specs.Numbers.{lines}
use Rattle.machine_cells.specs.Run.{run}
use Rattle.machine_cells.specs.Runs.{state_in}
use Rattle.saturation.specs.Levels.{level}
use Rattle.experiments.specs.Maps.{has_served}
use Rattle.experiments.proofs.Keeping.{lengths_next, one_more, served_next}
use Rattle.run_reports.proofs.Runners.{module_shows}
use Rattle.experiments.proofs.map.Kept.add.Goals as goal

pub has_served-requires : goal.has_served-requires
has_served-requires c = subst (λ (k : ℕ). c.args.self.now.scope.«module» < lines k) (sym c.requires.at.of.size) c.requires.there

pub returns-clause-kept : goal.returns-clause-kept
returns-clause-kept c is =
    let P = c.args.project.now in
    let s = c.args.self.now.scope in
    let t = c.args.runner.now.cycle in
    let begun : s.window.from ≤ t = omega arith in
    let early : t ≤ s.window.to = omega arith in
    record {
      lengths = lengths_next P s t begun early c.args.self.now.lengths.items _ is.lengths c.in_ok-add_lengths.ensures;
      served = served_next P s t begun early c.args.self.now.served.items _ c.has_served.result is.served c.in_ok-push-2.ensures.items
          (c.has_served.ensures ∙ ap (has_served s.net) (sym (module_shows P c.args.runner.now c.requires.at s.«module» c.requires.there)));
      levels = one_more (λ u. level P s.net s.«module» (state_in (run P) u)) t c.args.self.now.levels.items _ c.level_now.result is.levels c.in_ok-push.ensures.items c.level_now.ensures;
    }
