use Rattle.std.proofs.Common.{◌≡◌, ◌+◌, ◌-◌, ◌++◌, suc, All, length, ◌∷◌, [], sym, ap, ◌∙◌, subst, arith, List}
use Rattle.std.proofs.lemmas.List.{length-append}
use Rattle.std.proofs.lemmas.List.Elements.{All-push}
use Rattle.omega_net.specs.declared.script.ScriptEntry.{ScriptEntry}
use Rattle.project_book.specs.Scripts.{IsEntry}
use Rattle.drawn_scripts.specs.Draws.{next_offered}
use Rattle.drawn_scripts.proofs.Drawing.{no_offers, offered_next}
use Rattle.drawn_scripts.proofs.draw.Draw.script.Goals as goal

pub offered-preserved : goal.offered-preserved
offered-preserved c =
    let d = c.args.self in
    let xs = c.push_idle.new.entries.items in
    let x = c.next-reference.result in
    let n = d.references - (c.offered.nth + 1) in
    let left : d.references - c.offered.nth ≡ suc n = omega arith in
    let more = next_offered d.mix d.rate n c.next-reference.new.generator c.gap-turns.new.offers in
    record {
      count = omega (arith, ap length c.in_ok-push.ensures.items, length-append xs (x ∷ []), c.in_ok-push_idle.ensures.count, c.offered.invariant.count);
      entries = subst (All IsEntry) (sym c.in_ok-push.ensures.items) (All-push IsEntry xs x c.in_ok-push_idle.ensures.entries c.next-reference.ensures.entry);
      drawn = ap (λ (es : List ScriptEntry). es ++ more) c.in_ok-push.ensures.items
          ∙ ap (λ (es : List ScriptEntry). (es ++ x ∷ []) ++ more) c.in_ok-push_idle.ensures.idle
          ∙ offered_next d.mix d.rate n c.offered.entries.items c.offered.generator c.next-reference.new.generator c.offered.offers c.gap-turns.new.offers
          c.gap-turns.result x c.next-reference.ensures.drawn c.next-reference.ensures.later c.gap-turns.ensures.gap
          ∙ ap (λ m. c.offered.entries.items ++ next_offered d.mix d.rate m c.offered.generator c.offered.offers) (sym left)
          ∙ c.offered.invariant.drawn;
    }

pub returns-clause-drawn : goal.returns-clause-drawn
returns-clause-drawn c =
    let d = c.args.self in
    let xs = c.offered.entries.items in
    let done : d.references - c.offered.nth ≡ 0 = omega arith in
    sym (no_offers d.mix d.rate xs c.offered.generator c.offered.offers)
    ∙ ap (λ n. xs ++ next_offered d.mix d.rate n c.offered.generator c.offered.offers) (sym done)
    ∙ c.offered.invariant.drawn
