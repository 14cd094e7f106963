use Rattle.std.proofs.Common.{◌∙◌, ap, length, arith}
use Rattle.omega_net.specs.declared.message.Reply.{Reply}
use Rattle.flat_row.specs.Row.{Network}
use Rattle.flat_row.specs.Rows.{network}
use Rattle.flat_row.proofs.Sending.{network_there, marks_there, all_receive}
use Rattle.flat_row.proofs.row.Row.receiving.Goals as goal

pub index-requires : goal.index-requires
index-requires c = let many = ap (λ (n : Network). length n.replies) (c.side.view_is ∙ c.side-side.ensures) ∙ (network_there c.args.self.now c.is_row.ensures c.args.net).replies.many in omega (arith, many)

pub returns : goal.returns
returns c =
    all_receive c.args.project.now c.is_project.ensures.project c.args.self.now c.is_row.ensures c.requires c.args.net c.marks-behind.result
    (marks_there (λ (y : Reply). y.tag.proc) c.side.inside.replies.items (network c.args.self.now c.args.net).replies (0) c.index.result.now c.marks-behind.result c.index.ensures (omega (arith, ap (λ (n : Network). length n.replies) (c.side.view_is ∙ c.side-side.ensures), (network_there c.args.self.now c.is_row.ensures c.args.net).replies.many, c.is_row.ensures.small)) (ap (λ (n : Network). n.replies) (c.side.view_is ∙ c.side-side.ensures)) c.marks-behind.ensures)
