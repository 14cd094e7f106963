use Rattle.std.proofs.Common.{◌≡◌, ◌∙◌, subst, ap}
use Rattle.shared_bench.specs.Answers.{IsMet}
use Rattle.shared_bench.specs.Known.{Known}
use Rattle.shared_bench.proofs.Told.{may_leave, may_edit}
use Rattle.shared_bench.proofs.Passes.{edit_later, edit_receipt, edit_refused, seen_in_turn, in_turn_edited, turn_taken_edited}
use Rattle.shared_bench.proofs.pass.Pass.edit.Goals as goal

pub leave-requires-clause-may : goal.leave-requires-clause-may
leave-requires-clause-may g c = rw c.in-Err.ensures.err (may_leave _ _ _ c.wait_turn-bench.ensures.bench c.self.invariant.here)

pub leave_edited-requires-clause-may : goal.leave_edited-requires-clause-may
leave_edited-requires-clause-may g c =
    let ok = c.in-Ok.ensures in
    may_edit _ _ _ _ c.self.inside.number c.args.edit c.wait_turn-bench.ensures.bench c.self.invariant.here ok.journal ok.project ok.accepted ok.clock c.self.invariant.own_number ok.short

pub returns-in-Ok-clause-ok : goal.returns-in-Ok-clause-ok
returns-in-Ok-clause-ok g c =
    let h = c.wait_turn-bench.ensures.bench in
    let ok = c.in-Ok.ensures in
    let left = c.leave_edited.ensures.left c.self.inside.number c.args.edit (ok.journal ∙ seen_in_turn _ _ _ _ _ h) in
    rw (← c.self.view_is) (edit_receipt _ _ _ _ c.edit.new.self _ _ c.in-Ok.version h left ok.journal ok.version)

pub returns-in-Ok-clause-later : goal.returns-in-Ok-clause-later
returns-in-Ok-clause-later g c =
    let h = c.wait_turn-bench.ensures.bench in
    let ok = c.in-Ok.ensures in
    let left = c.leave_edited.ensures.left c.self.inside.number c.args.edit (ok.journal ∙ seen_in_turn _ _ _ _ _ h) in
    let same = c.leave_edited.ensures.own.0 ∙ c.wait_turn-bench.ensures.own.0 in
    rw (← c.self.view_is) (edit_later _ _ _ c.self.inside.seat.me _ _ _ c.edit.new.self _ _ h left c.leave_edited.ensures.legal same ok.clock)

pub returns-in-Ok-clause-in_turn : goal.returns-in-Ok-clause-in_turn
returns-in-Ok-clause-in_turn g c =
    let d = c.wait_turn-bench.result in
    let h = c.wait_turn-bench.ensures.bench in
    let ok = c.in-Ok.ensures in
    let left = c.leave_edited.ensures.left c.self.inside.number c.args.edit (ok.journal ∙ seen_in_turn _ _ _ _ _ h) in
    let met : IsMet c.args.self.now d = subst (λ (k : Known). IsMet k d) c.self.view_is (h.goes_on, h.project, c.wait_turn-bench.ensures.history) in
    let by : c.self.inside.number ≡ c.args.self.now.number = ap (λ (k : Known). k.number) c.self.view_is in (
      d,
      c.edit.new.self,
      met,
      (in_turn_edited c.leave_edited.new.seat.table_id c.self.inside.number _ _ c.leave_edited.new.seat.me d c.edit.new.self c.self.inside.number c.args.edit h left ok.journal ok.project, ok.history),
      rw (← by) ok.edits,
      rw (← c.self.view_is) (turn_taken_edited c.self.inside.seat.table_id c.leave_edited.new.seat.table_id c.self.inside.number c.self.inside.seat.me _ c.leave_edited.new.seat.me d c.edit.new.self c.self.inside.number c.args.edit h left),
    )

pub returns-in-Err-clause-refused : goal.returns-in-Err-clause-refused
returns-in-Err-clause-refused g c =
    let d = c.wait_turn-bench.result in
    let err = c.in-Err.ensures in
    edit_refused c.leave.new.seat.table_id c.self.inside.number _ _ c.leave.new.seat.me d c.args.edit c.wait_turn-bench.ensures.bench (rw err.err at c.leave.ensures.left) c.in-Err.fault err.edits.0
