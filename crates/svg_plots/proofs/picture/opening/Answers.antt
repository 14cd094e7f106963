use Rattle.std.proofs.Common.{◌++◌, ap, ◌∙◌}
use Rattle.svg_plots.specs.Texts.{root_text, title_text}
use Rattle.svg_plots.proofs.picture.opening.Goals as goal

pub returns : goal.returns
returns c =
    c.in_ok-writeln-2.ensures.bytes
    ∙ ap (λ text. text ++ title_text c.args.width c.args.height c.args.title.now) (c.in_ok-writeln.ensures.bytes
    ∙ ap (λ text. text ++ root_text c.args.width c.args.height) c.new-text.ensures.bytes)
