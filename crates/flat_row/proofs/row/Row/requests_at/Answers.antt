use Rattle.std.proofs.Common.{◌≡◌, suc, ◌+◌, ◌-◌, ◌∙◌, ap, subst, length, arith}
use Rattle.std.specs.Prelude.{slice_index_or}
use Rattle.omega_net.specs.declared.message.Request.{Request}
use Rattle.flat_row.specs.Row.{Network, Arrays, level_at}
use Rattle.flat_row.specs.Rows.{network, MarksRequests}
use Rattle.flat_row.proofs.Sending.{network_there, marks_there, stage_forth}
use Rattle.flat_row.proofs.row.Row.requests_at.Goals as goal

pub index-requires : goal.index-requires
index-requires c = let many = ap (λ (n : Network). length n.requests) (c.side.view_is ∙ c.side-side.ensures) ∙ (network_there c.args.self.now c.is_row.ensures c.args.net).requests.many in omega (arith, many, c.requires.of.size, c.requires.stage)

pub index-requires-2 : goal.index-requires-2
index-requires-2 c = let many = ap (λ (n : Network). length n.requests) (c.side.view_is ∙ c.side-side.ensures) ∙ (network_there c.args.self.now c.is_row.ensures c.args.net).requests.many in omega (arith, many, c.requires.of.size, c.requires.stage)

pub bounds-side-inside-s : goal.bounds-side-inside-s
bounds-side-inside-s c = omega (arith, c.is_row.ensures.small, c.requires.of.size, c.requires.stage)

pub decided_apart-requires : goal.decided_apart-requires
decided_apart-requires c = omega (arith, c.deciding_bit-by.ensures, c.is_row.ensures.small, ap (λ (r : Arrays). r.k) c.self.view_is, c.requires.of.size, c.requires.stage)

pub returns : goal.returns
returns c =
    let plus : c.args.stage + 1 ≡ suc c.args.stage = omega arith in
    stage_forth c.args.project.now c.is_project.ensures.project c.args.self.now c.is_row.ensures c.requires.of c.args.stage c.requires.stage c.marks-before.result c.marks-behind.result c.deciding_bit-by.result _ c.heads_of.result c.room_of.result
    c.decided_apart.result.leave c.decided_apart.result.turn (c.deciding_bit-by.ensures ∙ ap (λ k. k - 1 - c.args.stage) (ap (λ (r : Arrays). r.k) c.self.view_is ∙ c.requires.of.size)) c.args.net c.heads_of.ensures c.room_of.ensures (ap (λ (n : Network). slice_index_or n.turns c.args.stage 0) (c.side.view_is ∙ c.side-side.ensures))
    (marks_there (λ (r : Request). r.place.«module») c.side.inside.requests.items (network c.args.self.now c.args.net).requests (c.args.stage) c.index.result.now c.marks-before.result c.index.ensures (omega (arith, ap (λ (n : Network). length n.requests) (c.side.view_is ∙ c.side-side.ensures), (network_there c.args.self.now c.is_row.ensures c.args.net).requests.many, c.requires.of.size, c.requires.stage)) (ap (λ (n : Network). n.requests) (c.side.view_is ∙ c.side-side.ensures)) c.marks-before.ensures)
    (subst (λ l. MarksRequests (level_at (network c.args.self.now c.args.net).requests l) c.marks-behind.result) plus (marks_there (λ (r : Request). r.place.«module») c.side.inside.requests.items (network c.args.self.now c.args.net).requests (c.args.stage + 1) c.index-2.result.now c.marks-behind.result c.index-2.ensures (omega (arith, ap (λ (n : Network). length n.requests) (c.side.view_is ∙ c.side-side.ensures), (network_there c.args.self.now c.is_row.ensures c.args.net).requests.many, c.requires.of.size, c.requires.stage)) (ap (λ (n : Network). n.requests) (c.side.view_is ∙ c.side-side.ensures)) c.marks-behind.ensures))
    c.decided_apart.ensures.leave c.decided_apart.ensures.turn
