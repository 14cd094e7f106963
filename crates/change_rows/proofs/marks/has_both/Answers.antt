use Rattle.std.proofs.lemmas.Bool.{eqb-true, not-false}
use Rattle.change_rows.proofs.Marking.{apart}
use Rattle.change_rows.proofs.marks.has_both.Goals as goal

pub returns : goal.returns
returns c = λ e k h. apart c.args.word c.args.other k (eqb-true _ 0 (not-false _ e)) h
