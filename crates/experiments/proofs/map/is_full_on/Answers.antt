use Rattle.std.proofs.Common.{◌-◌, ℕ, sym, ap, ◌∙◌}
use Rattle.std.specs.Prelude.{nat_lt}
use Rattle.project_book.specs.Project.{forward}
use Rattle.experiments.proofs.Keeping.{full_shows}
use Rattle.experiments.proofs.map.is_full_on.Goals as goal

pub returns : goal.returns
returns c =
    c.is_full.ensures
    ∙ ap (λ (n : ℕ). nat_lt (forward c.args.project.now c.args.net - n) 2) c.length_on.ensures
    ∙ sym (full_shows c.args.project.now c.args.runner.now c.requires.at c.args.net c.args.stage c.args.line c.requires.stage c.requires.line)
