use Rattle.std.proofs.Common.{◌≤◌, ◌∙◌, ap, subst, arith}
use Rattle.std.specs.Prelude.{is_some}
use Rattle.omega_net.specs.declared.component.Net.TheVariants.{Low as LowNet, Comb as CombNet}
use Rattle.flat_row.specs.Leaving.{AreBack}
use Rattle.flat_row.specs.Row.{Arrays, Network}
use Rattle.flat_row.proofs.Loading.{line_small}
use Rattle.flat_row.proofs.Handed.{gone, module_handed}
use Rattle.flat_row.proofs.row.Row.module_traffic.Goals as goal

pub returns : goal.returns
returns c =
    let P = c.args.project.now in
    let R : Arrays = c.args.self.now in
    let m = c.args.m in
    let k = c.k-k.result in
    let low = c.entering-low_comes.result in
    let comb = c.entering-comb_comes.result in
    let low_set = c.replies_go-low_goes.result in
    let comb_set = c.replies_go-comb_goes.result in
    module_handed P R m c.requires.there low comb low_set comb_set c.entering-low_comes.ensures.moved c.entering-comb_comes.ensures.moved
    (subst (λ l. AreBack P R LowNet l low_set) c.k-k.ensures.k c.replies_go-low_goes.ensures) (subst (λ l. AreBack P R CombNet l comb_set) c.k-k.ensures.k c.replies_go-comb_goes.ensures)
    c.leaving.result c.leaving-2.result c.leaves.result c.leaves-2.result
    (c.leaving.ensures ∙ ap (λ ls. gone ls k m low) (c.deref.ensures.value ∙ ap (λ (n : Network). n.requests) (c.low.view_is ∙ c.side-low.ensures)) ∙ ap (λ l. gone R.low.requests l m low) c.k-k.ensures.k)
    (c.leaving-2.ensures ∙ ap (λ ls. gone ls k m comb) (c.deref-2.ensures.value ∙ ap (λ (n : Network). n.requests) (c.comb.view_is ∙ c.side-comb.ensures)) ∙ ap (λ l. gone R.comb.requests l m comb) c.k-k.ensures.k)
    (c.leaves.ensures ∙ ap (λ ls. is_some (gone ls k m low_set)) (c.deref-3.ensures.value ∙ ap (λ (n : Network). n.replies) (c.low.view_is ∙ c.side-low.ensures)) ∙ ap (λ l. is_some (gone R.low.replies l m low_set)) c.k-k.ensures.k)
    (c.leaves-2.ensures ∙ ap (λ ls. is_some (gone ls k m comb_set)) (c.deref-4.ensures.value ∙ ap (λ (n : Network). n.replies) (c.comb.view_is ∙ c.side-comb.ensures)) ∙ ap (λ l. is_some (gone R.comb.replies l m comb_set)) c.k-k.ensures.k)

pub leaving-requires-clause-small : goal.leaving-requires-clause-small
leaving-requires-clause-small c = let few : c.args.project.now.k ≤ 6 = omega (arith, c.is_row.ensures.small, c.requires.of.size) in line_small c.args.project.now.k c.args.m few c.requires.there

pub leaving-requires-2-clause-small : goal.leaving-requires-2-clause-small
leaving-requires-2-clause-small c = let few : c.args.project.now.k ≤ 6 = omega (arith, c.is_row.ensures.small, c.requires.of.size) in line_small c.args.project.now.k c.args.m few c.requires.there

pub leaves-requires-clause-small : goal.leaves-requires-clause-small
leaves-requires-clause-small c = let few : c.args.project.now.k ≤ 6 = omega (arith, c.is_row.ensures.small, c.requires.of.size) in line_small c.args.project.now.k c.args.m few c.requires.there

pub leaves-requires-2-clause-small : goal.leaves-requires-2-clause-small
leaves-requires-2-clause-small c = let few : c.args.project.now.k ≤ 6 = omega (arith, c.is_row.ensures.small, c.requires.of.size) in line_small c.args.project.now.k c.args.m few c.requires.there
