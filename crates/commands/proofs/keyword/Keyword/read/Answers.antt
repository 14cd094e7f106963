use Rattle.std.proofs.Common.{rules, tests, ◌∙◌}
use Rattle.std.specs.Prelude.{bytes_eq}
use Rattle.std.proofs.lemmas.Iterator.{YieldsList-from_slice}
use Rattle.std.proofs.lemmas.Iterator.Search.{find_from_yields_List}
use Rattle.commands.specs.Commands.{keyword_name, keywords}
use Rattle.commands.proofs.keyword.Keyword.read.Goals as goal

pub returns : goal.returns
returns c =
    let found = find_from_yields_List (λ keyword. bytes_eq (keyword_name keyword) c.args.word.now) _ _ c.find.result c.find.ensures.ran (YieldsList-from_slice keywords cc) (λ x b q k. search (rules, tests)) in
    c.copied.ensures ∙ found
