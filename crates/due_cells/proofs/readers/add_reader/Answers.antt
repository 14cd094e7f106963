use Rattle.std.proofs.Common.{◌≡◌, ◌<◌, ◌++◌, ◌∷◌, [], ◌∙◌, ◌+◌, sym, ap, subst, arith, length, get_or, take}
use Rattle.std.proofs.Math.ListN.{set}
use Rattle.std.proofs.lemmas.List.{get_or_default}
use Rattle.std.proofs.lemmas.List.Elements.{All-get_or}
use Rattle.due_cells.specs.Readers.{readers_at}
use Rattle.due_cells.proofs.Reading.{IsAdded, add_more}
use Rattle.due_cells.proofs.readers.add_reader.Goals as goal

pub loop-c-preserved : goal.loop-c-preserved
loop-c-preserved c =
    let olds = c.args.lists.now.items in
    let lists = c.loop-c.lists.items in
    let near = c.args.near.now in
    let i = c.loop-c.c-index in
    let inside : get_or near i 0 < length olds = All-get_or (λ m. m < length olds) near i 0 c.loop-c-test.true c.requires in
    let there : get_or near i 0 < length lists = omega (arith, c.loop-c.invariant.len) in
    let list : c.index_mut.result.now ≡ readers_at lists (get_or near i 0) = c.index_mut.ensures.value ∙ get_or_default lists (get_or near i 0) _ [] there in
    let e : c.push.new.self ≡ readers_at lists (get_or near i 0) ++ c.args.k ∷ [] = c.in_ok-push.ensures ∙ ap (λ ms. ms ++ c.args.k ∷ []) list in
    subst (λ x. IsAdded olds (set lists (get_or near i 0) x) (take (i + 1) near) c.args.k) (sym e) (add_more olds lists near i c.args.k c.loop-c-test.true inside c.loop-c.invariant)
