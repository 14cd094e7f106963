use Rattle.std.proofs.Common.{rules, ◌∙◌, sym, subst, ℕ, Option}
use Rattle.shared_bench.specs.Turn.{TicketFits, stage_of}
use Rattle.shared_bench.proofs.Joining.{joins}
use Rattle.shared_bench.proofs.Told.{not_server}
use Rattle.shared_bench.proofs.Passes.{first_ticket, second_ticket, joined_pass, joined_knows}
use Rattle.shared_bench.proofs.pass.Pass.join.Goals.{in-Some, in-None}
use Rattle.shared_bench.proofs.pass.Pass.join.Goals as goal

pub join_seat-requires : goal.join_seat-requires
join_seat-requires c = (search rules, search rules, search rules, search rules, joins _ _ _ _ _ (not_server c.other.inside.ticket _ c.other.invariant.ticket_is))

pub invariant_of-result : goal.invariant_of-result
invariant_of-result c =
    let p = c.self.invariant in
    let q = c.other.invariant in
    let m = c.self.inside.seat.me in
    let u = c.other.inside.seat.me in
    let fits : TicketFits c.match-ticket.ticket (stage_of m.0.stage u.0.stage) =
    elim c.match-ticket.branch [
      | in-Some w ↦ subst (λ (t : Option ℕ). TicketFits t (stage_of m.0.stage u.0.stage)) (sym w.ticket-is) (first_ticket w.in-Some.ticket m.0.stage u.0.stage (subst (λ (t : Option ℕ). TicketFits t m.0.stage) w.in-Some.is p.ticket_is))
      | in-None w ↦ subst (λ (t : Option ℕ). TicketFits t (stage_of m.0.stage u.0.stage)) (sym w.ticket-is) (second_ticket c.other.inside.ticket m.0.stage u.0.stage (subst (λ (t : Option ℕ). TicketFits t m.0.stage) w.in-None.is p.ticket_is) q.ticket_is)
    ] in
    joined_pass m u c.join_seat.new.seat.me c.look.new.seat.me c.look.result c.join_seat.ensures.2 c.look.ensures.seen _ c.self.inside.seat.table_id c.look.new.seat.table_id c.self.inside.number c.self.inside.seats c.self.inside.base c.self.inside.k c.self.inside.ticket c.match-ticket.ticket p
    (c.look.ensures.own.0 ∙ c.join_seat.ensures.0) fits

pub returns : goal.returns
returns c =
    let m = c.self.inside.seat.me in
    let u = c.other.inside.seat.me in
    rw (← c.self.view_is, ← c.other.view_is)
    (joined_knows m u c.join_seat.new.seat.me c.look.new.seat.me c.look.result c.join_seat.ensures.2 c.look.ensures.seen c.self.inside.seat.table_id c.other.inside.seat.table_id c.look.new.seat.table_id c.self.inside.number c.other.inside.number
    (c.look.ensures.own.0 ∙ c.join_seat.ensures.0))
