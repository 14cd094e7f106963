use Rattle.std.proofs.Common.{rules, tests, ◌∙◌, sym, ap}
use Rattle.std.specs.Prelude.{bytes_eq}
use Rattle.std.proofs.lemmas.Iterator.{YieldsList-from_slice}
use Rattle.std.proofs.lemmas.Iterator.Search.{find_from_yields_List}
use Rattle.word_ops.specs.Words.{kind_name, kind_named, kinds}
use Rattle.word_ops.proofs.Known.{known}
use Rattle.word_ops.proofs.kind.Kind.from_name.Goals as goal

pub returns-clause-kind : goal.returns-clause-kind
returns-clause-kind c =
    let found = find_from_yields_List (λ kind. bytes_eq (kind_name kind) c.args.word.now) _ _ c.find.result c.find.ensures.ran (YieldsList-from_slice kinds cc) (λ x b q k. search (rules, tests)) in
    c.copied.ensures ∙ found

pub returns-clause-read : goal.returns-clause-read
returns-clause-read c = λ kind named. returns-clause-kind c ∙ (ap kind_named (sym named) ∙ (known kind).named)
