use Rattle.std.proofs.Common.{◌≡◌, ◌+◌, ◌++◌, ◌∷◌, [], ◌∙◌, All, false, length, drop, sym, ap, subst, arith, List}
use Rattle.std.proofs.lemmas.List.{drop_all, drop_more, length-append}
use Rattle.std.proofs.lemmas.List.Elements.{All-push}
use Rattle.omega_net.specs.declared.script.ScriptEntry.{ScriptEntry}
use Rattle.word_ops.specs.declared.kind.Kind.TheVariants.{Load}
use Rattle.omega_net.specs.declared.script.ScriptEntry.TheVariants.{Reference}
use Rattle.project_book.specs.Scripts.{IsEntry}
use Rattle.experiments.specs.Offers.{next_offered}
use Rattle.experiments.proofs.Offering.{none_offered, offered_next}
use Rattle.experiments.proofs.offer.offered_by.Goals as goal

pub offered-preserved : goal.offered-preserved
offered-preserved c =
    let xs = c.offered.entries.items in
    let x = c.offered-in-offered.result in
    let rate = c.args.rate in
    let none : ScriptEntry = Reference false (record { kind = Load; operand = 0 }) 0 0 in
    let rest = drop (c.offered.reference-index + 1) c.args.references.now in
    record {
      count = omega (arith, ap length c.in_ok-push.ensures.items, length-append xs (x ∷ []), c.offered.invariant.count);
      entries = subst (All IsEntry) (sym c.in_ok-push.ensures.items) (All-push IsEntry xs x c.offered.invariant.entries c.offered-in-offered.ensures.entry);
      offered = ap (λ (es : List ScriptEntry). es ++ next_offered rate c.next_word-number.new.self rest)
          (c.in_ok-push.ensures.items ∙ ap (λ (y : ScriptEntry). xs ++ y ∷ []) c.offered-in-offered.ensures.offered)
          ∙ offered_next rate xs (drop c.offered.reference-index c.args.references.now) rest _ c.offered.generator c.next_word-number.new.self
          c.next_word-number.result (drop_more c.args.references.now c.offered.reference-index none c.offered-test.true) c.next_word-number.ensures
          ∙ c.offered.invariant.offered;
    }

pub returns-clause-offered : goal.returns-clause-offered
returns-clause-offered c =
    sym (none_offered c.args.rate c.offered.entries.items (drop c.offered.reference-index c.args.references.now) c.offered.generator
    (drop_all c.offered.reference-index c.args.references.now c.offered-test.false))
    ∙ c.offered.invariant.offered
