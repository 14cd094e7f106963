use Rattle.std.proofs.Common.{◌≡◌, suc, ◌+◌, ◌∙◌, ap, subst, length, arith}
use Rattle.omega_net.specs.declared.message.Request.{Request}
use Rattle.omega_net.specs.declared.message.Reply.{Reply}
use Rattle.flat_row.specs.Row.{Network, Arrays, level_at}
use Rattle.flat_row.specs.Rows.{MarksRequests, MarksReplies}
use Rattle.flat_row.proofs.Sending.{marks_there}
use Rattle.flat_row.proofs.Planning.{serves_so}
use Rattle.flat_row.proofs.row.Row.serving.Goals as goal

pub returns : goal.returns
returns c =
    let is : c.k-k.result ≡ c.args.project.now.k = c.k-k.ensures.value ∙ ap (λ (r : Arrays). r.k) c.self.view_is ∙ c.requires.size in
    let plus : c.k-k.result + 1 ≡ suc c.args.project.now.k = omega (arith, is) in
    serves_so c.args.project.now c.is_project.ensures.project c.args.self.now c.is_row.ensures c.requires c.marks-low_requests.result c.marks-comb_requests.result c.marks-low_replies.result c.marks-comb_replies.result
    c.served_by_turns.result.low c.served_by_turns.result.comb c.served_by_turns.result.turn c.self.inside.module_turns
    (subst (λ l. MarksRequests (level_at c.args.self.now.low.requests l) c.marks-low_requests.result) plus (marks_there (λ (r : Request). r.place.«module») c.low.inside.requests.items c.args.self.now.low.requests (c.k-k.result + 1) c.index.result.now c.marks-low_requests.result c.index.ensures (omega (arith, ap (λ (n : Network). length n.requests) (c.low.view_is ∙ c.side-low.ensures), c.is_row.ensures.low.requests.many, is, c.requires.size)) (ap (λ (n : Network). n.requests) (c.low.view_is ∙ c.side-low.ensures)) c.marks-low_requests.ensures))
    (subst (λ l. MarksRequests (level_at c.args.self.now.comb.requests l) c.marks-comb_requests.result) plus (marks_there (λ (r : Request). r.place.«module») c.comb.inside.requests.items c.args.self.now.comb.requests (c.k-k.result + 1) c.index-2.result.now c.marks-comb_requests.result c.index-2.ensures (omega (arith, ap (λ (n : Network). length n.requests) (c.comb.view_is ∙ c.side-comb.ensures), c.is_row.ensures.comb.requests.many, is, c.requires.size)) (ap (λ (n : Network). n.requests) (c.comb.view_is ∙ c.side-comb.ensures)) c.marks-comb_requests.ensures))
    (subst (λ l. MarksReplies (level_at c.args.self.now.low.replies l) c.marks-low_replies.result) is (marks_there (λ (y : Reply). y.tag.proc) c.low.inside.replies.items c.args.self.now.low.replies (c.k-k.result) c.index-3.result.now c.marks-low_replies.result c.index-3.ensures (omega (arith, ap (λ (n : Network). length n.replies) (c.low.view_is ∙ c.side-low.ensures), c.is_row.ensures.low.replies.many, is, c.requires.size)) (ap (λ (n : Network). n.replies) (c.low.view_is ∙ c.side-low.ensures)) c.marks-low_replies.ensures))
    (subst (λ l. MarksReplies (level_at c.args.self.now.comb.replies l) c.marks-comb_replies.result) is (marks_there (λ (y : Reply). y.tag.proc) c.comb.inside.replies.items c.args.self.now.comb.replies (c.k-k.result) c.index-4.result.now c.marks-comb_replies.result c.index-4.ensures (omega (arith, ap (λ (n : Network). length n.replies) (c.comb.view_is ∙ c.side-comb.ensures), c.is_row.ensures.comb.replies.many, is, c.requires.size)) (ap (λ (n : Network). n.replies) (c.comb.view_is ∙ c.side-comb.ensures)) c.marks-comb_replies.ensures))
    (ap (λ (r : Arrays). r.module_turns) c.self.view_is) c.served_by_turns.ensures.low c.served_by_turns.ensures.comb c.served_by_turns.ensures.turn
