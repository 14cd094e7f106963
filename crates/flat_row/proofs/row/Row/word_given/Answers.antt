use Rattle.std.proofs.Common.{◌≡◌, List, Option, Bor, option_copied, ap, sym, ◌∙◌, subst}
use Rattle.std.specs.Prelude.{IfSome}
use Rattle.mem_module.specs.declared.words.Stored.{Stored}
use Rattle.mem_module.specs.Memory.{IsAscending, with_word}
use Rattle.mem_module.proofs.Rows.{with_same}
use Rattle.flat_row.specs.Next.{module_given}
use Rattle.flat_row.specs.Row.{Arrays}
use Rattle.flat_row.proofs.row.Row.word_given.Goals as goal

pub returns-in-Some-clause-kept : goal.returns-in-Some-clause-kept
returns-in-Some-clause-kept c =
    let R : Arrays = c.args.self.now in
    subst (λ (o : Option (Bor (List Stored))). IfSome (option_copied o) IsAscending → with_word (module_given R c.args.m (option_copied o)).words c.args.row c.word.result ≡ (module_given R c.args.m (option_copied o)).words)
    (sym c.in-Some.is)
    (λ rise. ap (with_word c.in-Some.memory.now c.args.row) c.word.ensures ∙ with_same c.args.row 0 c.in-Some.memory.now rise)
