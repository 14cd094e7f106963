use Rattle.std.proofs.Common.{inl, inr}
use Rattle.std.proofs.lemmas.Result.{IfErr-weaker}
use Rattle.experiments.proofs.Refusals.{refused_by}
use Rattle.experiments.proofs.sweep.sweep_row.Goals as goal

pub returns-in-Err-clause-refused : goal.returns-in-Err-clause-refused
returns-in-Err-clause-refused g c = inl (refused_by _ c.edit.result c.in-Err.fault c.edit.ensures.refused c.edit.ensures.accepted c.in-Err.is)

pub returns-clause-refused : goal.returns-clause-refused
returns-clause-refused g c = IfErr-weaker c.told_each.result _ _ (λ f h. inr h) c.told_each.ensures.want
