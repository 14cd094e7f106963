use Rattle.std.proofs.Common.{ap, ◌∙◌, ℕ, Option}
use Rattle.std.specs.Prelude.{unwrap_or}
use Rattle.machine_cells.proofs.Putting.{few_modules}
use Rattle.machine_cells.proofs.start.lane.Goals as goal

pub returns-then-number-base-clause-within : goal.returns-then-number-base-clause-within
returns-then-number-base-clause-within c =
    few_modules c.pages.result.now c.args.page c.unwrap_or-amount.result (rw c.pages.ensures.pages c.is_project.ensures.pages) c.requires (c.unwrap_or-amount.ensures ∙ ap (λ (o : Option (ℕ × ℕ)). unwrap_or o (0, 0)) c.page.ensures.page)
