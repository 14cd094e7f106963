use Rattle.std.proofs.Common.{◌≡◌, suc, ◌+◌, ◌∙◌, ap, subst, length, arith}
use Rattle.omega_net.specs.declared.message.Request.{Request}
use Rattle.flat_row.specs.Row.{Network, Arrays, level_at}
use Rattle.flat_row.specs.Rows.{network, MarksRequests}
use Rattle.flat_row.proofs.Sending.{network_there, marks_there, all_enter}
use Rattle.flat_row.proofs.row.Row.entering.Goals as goal

pub index-requires : goal.index-requires
index-requires c = let many = ap (λ (n : Network). length n.requests) (c.side.view_is ∙ c.side-side.ensures) ∙ (network_there c.args.self.now c.is_row.ensures c.args.net).requests.many in omega (arith, many, c.k-k.ensures.value, ap (λ (r : Arrays). r.k) c.self.view_is)

pub index-requires-2 : goal.index-requires-2
index-requires-2 c = let many = ap (λ (n : Network). length n.requests) (c.side.view_is ∙ c.side-side.ensures) ∙ (network_there c.args.self.now c.is_row.ensures c.args.net).requests.many in omega (arith, many, c.k-k.ensures.value, ap (λ (r : Arrays). r.k) c.self.view_is)

pub returns : goal.returns
returns c =
    let is : c.k-k.result ≡ c.args.project.now.k = c.k-k.ensures.value ∙ ap (λ (r : Arrays). r.k) c.self.view_is ∙ c.requires.size in
    let plus : c.k-k.result + 1 ≡ suc c.args.project.now.k = omega (arith, is) in
    all_enter c.args.project.now c.is_project.ensures.project c.args.self.now c.is_row.ensures c.requires c.args.net c.marks-before.result c.marks-behind.result
    (subst (λ l. MarksRequests (level_at (network c.args.self.now c.args.net).requests l) c.marks-before.result) is (marks_there (λ (r : Request). r.place.«module») c.side.inside.requests.items (network c.args.self.now c.args.net).requests (c.k-k.result) c.index.result.now c.marks-before.result c.index.ensures (omega (arith, ap (λ (n : Network). length n.requests) (c.side.view_is ∙ c.side-side.ensures), (network_there c.args.self.now c.is_row.ensures c.args.net).requests.many, c.k-k.ensures.value, ap (λ (r : Arrays). r.k) c.self.view_is)) (ap (λ (n : Network). n.requests) (c.side.view_is ∙ c.side-side.ensures)) c.marks-before.ensures))
    (subst (λ l. MarksRequests (level_at (network c.args.self.now c.args.net).requests l) c.marks-behind.result) plus (marks_there (λ (r : Request). r.place.«module») c.side.inside.requests.items (network c.args.self.now c.args.net).requests (c.k-k.result + 1) c.index-2.result.now c.marks-behind.result c.index-2.ensures (omega (arith, ap (λ (n : Network). length n.requests) (c.side.view_is ∙ c.side-side.ensures), (network_there c.args.self.now c.is_row.ensures c.args.net).requests.many, c.k-k.ensures.value, ap (λ (r : Arrays). r.k) c.self.view_is)) (ap (λ (n : Network). n.requests) (c.side.view_is ∙ c.side-side.ensures)) c.marks-behind.ensures))
