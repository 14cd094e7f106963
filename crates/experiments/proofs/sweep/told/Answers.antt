use Rattle.std.proofs.Common.{◌∙◌, ap, sym}
use Rattle.project_book.specs.Project.{Project}
use Rattle.run_queries.specs.Answers.{answer}
use Rattle.experiments.proofs.sweep.told.Goals as goal

pub returns-in-Answer-clause-answer : goal.returns-in-Answer-clause-answer
returns-in-Answer-clause-answer g c = ap (λ (P : Project). answer P c.args.query) (sym c.answer.ensures.later.project) ∙ c.in-Answer.ensures.told.1

pub returns-in-BadQuery-clause-bad : goal.returns-in-BadQuery-clause-bad
returns-in-BadQuery-clause-bad g c = ap (λ (P : Project). answer P c.args.query) (sym c.answer.ensures.later.project) ∙ c.in-BadQuery.ensures.told
