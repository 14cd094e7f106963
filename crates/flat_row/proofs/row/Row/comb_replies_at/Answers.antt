use Rattle.std.proofs.Common.{◌≡◌, suc, ◌+◌, ◌-◌, ◌∙◌, ap, subst, length, arith, refl}
use Rattle.std.specs.Prelude.{slice_index_or}
use Rattle.omega_net.specs.declared.message.Reply.{Reply}
use Rattle.omega_net.specs.declared.component.Net.TheVariants.{Comb as CombNet}
use Rattle.flat_row.specs.Row.{Network, Arrays, level_at}
use Rattle.flat_row.specs.Rows.{network, MarksReplies}
use Rattle.flat_row.proofs.Sending.{network_there, marks_there, comb_stage_back}
use Rattle.flat_row.proofs.row.Row.comb_replies_at.Goals as goal

pub index-requires : goal.index-requires
index-requires c = let many = ap (λ (n : Network). length n.replies) (c.side.view_is ∙ c.side-side.ensures) ∙ (network_there c.args.self.now c.is_row.ensures CombNet).replies.many in omega (arith, many, c.requires.of.size, c.requires.stage)

pub index-requires-2 : goal.index-requires-2
index-requires-2 c = let many = ap (λ (n : Network). length n.replies) (c.side.view_is ∙ c.side-side.ensures) ∙ (network_there c.args.self.now c.is_row.ensures CombNet).replies.many in omega (arith, many, c.requires.of.size, c.requires.stage)

pub bounds-side-inside-s : goal.bounds-side-inside-s
bounds-side-inside-s c = omega (arith, c.is_row.ensures.small, c.requires.of.size, c.requires.stage)

pub decided_together-requires : goal.decided_together-requires
decided_together-requires c = omega (arith, c.deciding_bit-by.ensures, c.is_row.ensures.small, ap (λ (r : Arrays). r.k) c.self.view_is, c.requires.of.size, c.requires.stage)

pub returns : goal.returns
returns c =
    let plus : c.args.stage + 1 ≡ suc c.args.stage = omega arith in
    comb_stage_back c.args.project.now c.is_project.ensures.project c.args.self.now c.is_row.ensures c.requires.of c.args.stage c.requires.stage c.marks-before.result c.marks-behind.result c.deciding_bit-by.result c.marks-behind.result.any _ c.room_of.result
    c.decided_together.result.leave c.decided_together.result.turn (c.deciding_bit-by.ensures ∙ ap (λ k. k - 1 - c.args.stage) (ap (λ (r : Arrays). r.k) c.self.view_is ∙ c.requires.of.size)) refl c.room_of.ensures (ap (λ (n : Network). slice_index_or n.back_turns c.args.stage 0) (c.side.view_is ∙ c.side-side.ensures))
    (subst (λ l. MarksReplies (level_at (network c.args.self.now CombNet).replies l) c.marks-behind.result) plus (marks_there (λ (y : Reply). y.tag.proc) c.side.inside.replies.items (network c.args.self.now CombNet).replies (c.args.stage + 1) c.index.result.now c.marks-behind.result c.index.ensures (omega (arith, ap (λ (n : Network). length n.replies) (c.side.view_is ∙ c.side-side.ensures), (network_there c.args.self.now c.is_row.ensures CombNet).replies.many, c.requires.of.size, c.requires.stage)) (ap (λ (n : Network). n.replies) (c.side.view_is ∙ c.side-side.ensures)) c.marks-behind.ensures))
    (marks_there (λ (y : Reply). y.tag.proc) c.side.inside.replies.items (network c.args.self.now CombNet).replies (c.args.stage) c.index-2.result.now c.marks-before.result c.index-2.ensures (omega (arith, ap (λ (n : Network). length n.replies) (c.side.view_is ∙ c.side-side.ensures), (network_there c.args.self.now c.is_row.ensures CombNet).replies.many, c.requires.of.size, c.requires.stage)) (ap (λ (n : Network). n.replies) (c.side.view_is ∙ c.side-side.ensures)) c.marks-before.ensures)
    c.decided_together.ensures.leave c.decided_together.ensures.turn
