use Rattle.std.proofs.Common.{◌≡◌, ◌∙◌, sym, subst, true}
use Rattle.bench_core.specs.Shown.{Shown}
use Rattle.shared_bench.specs.Turn.{AtSeat, IsLegalIn}
use Rattle.shared_bench.proofs.Benches.{spent_is}
use Rattle.shared_bench.proofs.Told.{legal_before}
use Rattle.shared_bench.proofs.Passes.{all_own}
use Rattle.shared_bench.proofs.pass.Pass.close.Goals.{in-Some, in-None}
use Rattle.shared_bench.proofs.pass.Pass.close.Goals as goal

pub returns-in-Some-enter-clause-legal : goal.returns-in-Some-enter-clause-legal
returns-in-Some-enter-clause-legal c =
    let d : Shown = c.in-Some-enter.held in
    let l = legal_before c.match-ticket.seat.me.0 c.enter.new.seat.me d c.in-Some-enter.ensures.some in
    let at_first : IsLegalIn c.self.inside.seat.me.0 d.journal =
    elim c.match-ticket.branch [
      | in-Some w ↦ subst (λ (p : AtSeat). IsLegalIn p.0 d.journal) (λ i. (w.seat-is i).me) l
      | in-None w ↦ subst (λ (p : AtSeat). IsLegalIn p.0 d.journal) ((λ i. (w.seat-is i).me) ∙ w.take_ticket-ticket.ensures.ticket.2) l
    ] in
    rw (← c.self.view_is, c.open.ensures) at_first

pub returns-in-Some-enter-clause-all : goal.returns-in-Some-enter-clause-all
returns-in-Some-enter-clause-all c = all_own c.args.self c.open.result.journal (returns-in-Some-enter-clause-legal c)

pub returns-in-Some-enter-clause-spent : goal.returns-in-Some-enter-clause-spent
returns-in-Some-enter-clause-spent c = λ known.
    let d : Shown = c.in-Some-enter.held in
    let first : c.self.inside.seat.me.0.spent ≡ true = rw (← c.self.view_is) at known in
    let met : c.match-ticket.seat.me.0.spent ≡ true =
    elim c.match-ticket.branch [
      | in-Some w ↦ subst (λ (p : AtSeat). p.0.spent ≡ true) (sym (λ i. (w.seat-is i).me)) first
      | in-None w ↦ subst (λ (p : AtSeat). p.0.spent ≡ true) (sym ((λ i. (w.seat-is i).me) ∙ w.take_ticket-ticket.ensures.ticket.2)) first
    ] in
    rw c.open.ensures (spent_is d (c.in-Some-enter.ensures.some.spent met))
