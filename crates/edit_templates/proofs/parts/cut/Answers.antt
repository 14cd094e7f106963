use Rattle.std.proofs.lemmas.Str.Pattern.{split_parts}
use Rattle.edit_templates.proofs.Cuts.{cut_is}
use Rattle.edit_templates.proofs.parts.cut.Goals as goal

pub returns : goal.returns
returns c =
    cut_is c.args.at c.args.text.now c.split_once.result (split_parts c.args.at c.args.text.now c.split_once.result c.split_once.ensures.cases c.requires)
