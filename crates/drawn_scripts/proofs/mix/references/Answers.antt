use Rattle.std.proofs.Common.{◌≡◌, ◌+◌, ◌-◌, ◌++◌, suc, All, length, ◌∷◌, [], sym, ap, ◌∙◌, subst, arith, List}
use Rattle.std.proofs.lemmas.List.{length-append}
use Rattle.std.proofs.lemmas.List.Elements.{All-push}
use Rattle.omega_net.specs.declared.script.ScriptEntry.{ScriptEntry}
use Rattle.project_book.specs.Scripts.{IsEntry}
use Rattle.drawn_scripts.specs.Draws.{next_references}
use Rattle.drawn_scripts.proofs.Drawing.{no_references, references_next}
use Rattle.drawn_scripts.proofs.mix.references.Goals as goal

pub drawn-preserved : goal.drawn-preserved
drawn-preserved c =
    let xs = c.drawn.entries.items in
    let x = c.next-reference.result in
    let n = c.args.count - (c.drawn.nth + 1) in
    let left : c.args.count - c.drawn.nth ≡ suc n = omega arith in
    record {
      count = omega (arith, ap length c.in_ok-push.ensures.items, length-append xs (x ∷ []), c.drawn.invariant.count);
      entries = subst (All IsEntry) (sym c.in_ok-push.ensures.items) (All-push IsEntry xs x c.drawn.invariant.entries c.next-reference.ensures.entry);
      drawn = ap (λ (es : List ScriptEntry). es ++ next_references c.args.mix n c.next-reference.new.generator) c.in_ok-push.ensures.items
          ∙ references_next c.args.mix n xs c.drawn.generator c.next-reference.new.generator x c.next-reference.ensures.drawn c.next-reference.ensures.later
          ∙ ap (λ m. xs ++ next_references c.args.mix m c.drawn.generator) (sym left)
          ∙ c.drawn.invariant.drawn;
    }

pub returns-clause-drawn : goal.returns-clause-drawn
returns-clause-drawn c =
    let xs = c.drawn.entries.items in
    let done : c.args.count - c.drawn.nth ≡ 0 = omega arith in
    sym (no_references c.args.mix xs c.drawn.generator)
    ∙ ap (λ n. xs ++ next_references c.args.mix n c.drawn.generator) (sym done)
    ∙ c.drawn.invariant.drawn
