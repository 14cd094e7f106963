use Rattle.std.proofs.Common.{ap, ◌∙◌, arith}
use Rattle.svg_plots.specs.Logarithms.{hundredths_of}
use Rattle.svg_plots.proofs.Logs.{log_is}
use Rattle.svg_plots.proofs.scale.log2_hundredths.Goals as goal

pub returns-clause-logarithm : goal.returns-clause-logarithm
returns-clause-logarithm c =
    log_is c.args.numerator c.args.denominator c.halvings-whole.result c.hundredths.result c.if-denominator-eq0.false (omega arith) c.halvings-whole.ensures.doubles
    c.halvings-whole.ensures.few (c.hundredths.ensures.hundredths ∙ ap (λ x. hundredths_of x) c.left_of.ensures.left)
