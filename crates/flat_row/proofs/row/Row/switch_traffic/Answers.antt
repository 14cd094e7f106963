use Rattle.std.proofs.Common.{◌≡◌, ◌+◌, ◌≤◌, ◌∙◌, ap, arith}
use Rattle.std.specs.Prelude.{is_some}
use Rattle.flat_row.specs.Row.{Arrays, port_label}
use Rattle.flat_row.proofs.Handed.{gone, switch_handed}
use Rattle.flat_row.proofs.row.Row.switch_traffic.Goals as goal

pub returns : goal.returns
returns c =
    let s = c.args.stage in
    let j = c.args.index in
    let x = c.ports-x.result.0 in
    let y = c.ports-x.result.1 in
    let come = c.requests_go-come.result in
    let go = c.requests_go-go.result in
    let returned = c.replies_go-return_here.result in
    let back = c.replies_go-go_back.result in
    let shape_is : c.self.inside.shape ≡ c.args.project.now.k = ap (λ (r : Arrays). r.k) c.self.view_is ∙ c.requires.of.size in
    let few : c.args.project.now.k ≤ 6 = omega (arith, c.self.invariant.small, shape_is) in
    switch_handed c.args.project.now few c.args.self.now c.args.net s j c.requires.stage c.requires.index come go returned back
    c.requests_go-come.ensures c.requests_go-go.ensures c.replies_go-return_here.ensures c.replies_go-go_back.ensures x y
    (c.ports-x.ensures.first ∙ ap (λ k. port_label k s j 0) shape_is) (c.ports-x.ensures.second ∙ ap (λ k. port_label k s j 1) shape_is)
    (record { requests = c.side.inside.requests.items; replies = c.side.inside.replies.items; turns = c.side.inside.turns; back_turns = c.side.inside.back_turns })
    (c.side.view_is ∙ c.side-side.ensures)
    c.leaving.result c.leaving-2.result c.leaving-3.result c.leaving-4.result c.leaves.result c.leaves-2.result c.leaves-3.result c.leaves-4.result
    (c.leaving.ensures ∙ ap (λ ls. gone ls s x come) c.deref.ensures.value)
    (c.leaving-2.ensures ∙ ap (λ ls. gone ls s y come) c.deref-2.ensures.value)
    (c.leaving-3.ensures ∙ ap (λ ls. gone ls (s + 1) x returned) c.deref-3.ensures.value)
    (c.leaving-4.ensures ∙ ap (λ ls. gone ls (s + 1) y returned) c.deref-4.ensures.value)
    (c.leaves.ensures ∙ ap (λ ls. is_some (gone ls (s + 1) x go)) c.deref-5.ensures.value)
    (c.leaves-2.ensures ∙ ap (λ ls. is_some (gone ls (s + 1) y go)) c.deref-6.ensures.value)
    (c.leaves-3.ensures ∙ ap (λ ls. is_some (gone ls s x back)) c.deref-7.ensures.value)
    (c.leaves-4.ensures ∙ ap (λ ls. is_some (gone ls s y back)) c.deref-8.ensures.value)
