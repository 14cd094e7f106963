use Rattle.std.proofs.Common.{◌<◌, ◌/◌, ℕ, sym, subst, ◌∙◌, arith}
use Rattle.omega_net.specs.Numbers.{half}
use Rattle.experiments.proofs.Keeping.{length_shows}
use Rattle.experiments.proofs.Lines.{switch_there}
use Rattle.experiments.proofs.map.length_on.Goals as goal

pub length_forward-requires-clause-stage : goal.length_forward-requires-clause-stage
length_forward-requires-clause-stage c = omega (arith, c.requires.stage, c.requires.at.of.size)

pub length_forward-requires-clause-index : goal.length_forward-requires-clause-index
length_forward-requires-clause-index c = subst (λ (k : ℕ). c.args.line / 2 < half k) (sym c.requires.at.of.size) (switch_there c.args.project.now.k c.args.stage c.args.line c.requires.stage c.requires.line)

pub returns : goal.returns
returns c = c.length_forward.ensures ∙ length_shows c.args.project.now c.args.runner.now c.requires.at c.args.net c.args.stage c.args.line c.requires.stage c.requires.line
