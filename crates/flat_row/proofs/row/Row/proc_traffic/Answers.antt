use Rattle.std.proofs.Common.{◌≤◌, ◌∙◌, ap, arith}
use Rattle.std.specs.Prelude.{is_some}
use Rattle.flat_row.specs.Row.{Arrays, Network}
use Rattle.flat_row.proofs.Loading.{line_small}
use Rattle.flat_row.proofs.Handed.{gone, proc_of_traffic, proc_handed}
use Rattle.flat_row.proofs.row.Row.proc_traffic.Goals as goal

pub returns : goal.returns
returns c =
    let P = c.args.project.now in
    let R : Arrays = c.args.self.now in
    let p = c.args.p in
    let low = c.receiving-low_comes.result in
    let comb = c.receiving-comb_comes.result in
    let low_set = c.requests_go-low_goes.result in
    let comb_set = c.requests_go-comb_goes.result in
    ap (proc_of_traffic c.leaving.result c.leaving-2.result) c.either_of.ensures
    ∙ proc_handed P R p c.requires.there low comb low_set comb_set c.receiving-low_comes.ensures.moved c.receiving-comb_comes.ensures.moved c.requests_go-low_goes.ensures c.requests_go-comb_goes.ensures
    c.leaving.result c.leaving-2.result c.leaves-on_low.result c.leaves-on_comb.result
    (c.leaving.ensures ∙ ap (λ ls. gone ls 0 p low) (c.deref-3.ensures.value ∙ ap (λ (n : Network). n.replies) (c.low.view_is ∙ c.side-low.ensures)))
    (c.leaving-2.ensures ∙ ap (λ ls. gone ls 0 p comb) (c.deref-4.ensures.value ∙ ap (λ (n : Network). n.replies) (c.comb.view_is ∙ c.side-comb.ensures)))
    (c.leaves-on_low.ensures ∙ ap (λ ls. is_some (gone ls 0 p low_set)) (c.deref.ensures.value ∙ ap (λ (n : Network). n.requests) (c.low.view_is ∙ c.side-low.ensures)))
    (c.leaves-on_comb.ensures ∙ ap (λ ls. is_some (gone ls 0 p comb_set)) (c.deref-2.ensures.value ∙ ap (λ (n : Network). n.requests) (c.comb.view_is ∙ c.side-comb.ensures)))

pub leaving-requires-clause-small : goal.leaving-requires-clause-small
leaving-requires-clause-small c = let few : c.args.project.now.k ≤ 6 = omega (arith, c.is_row.ensures.small, c.requires.of.size) in line_small c.args.project.now.k c.args.p few c.requires.there

pub leaving-requires-2-clause-small : goal.leaving-requires-2-clause-small
leaving-requires-2-clause-small c = let few : c.args.project.now.k ≤ 6 = omega (arith, c.is_row.ensures.small, c.requires.of.size) in line_small c.args.project.now.k c.args.p few c.requires.there

pub leaves-on_low-requires-clause-small : goal.leaves-on_low-requires-clause-small
leaves-on_low-requires-clause-small c = let few : c.args.project.now.k ≤ 6 = omega (arith, c.is_row.ensures.small, c.requires.of.size) in line_small c.args.project.now.k c.args.p few c.requires.there

pub leaves-on_comb-requires-clause-small : goal.leaves-on_comb-requires-clause-small
leaves-on_comb-requires-clause-small c = let few : c.args.project.now.k ≤ 6 = omega (arith, c.is_row.ensures.small, c.requires.of.size) in line_small c.args.project.now.k c.args.p few c.requires.there
