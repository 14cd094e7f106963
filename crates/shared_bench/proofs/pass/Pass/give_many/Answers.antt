use Rattle.std.proofs.Common.{◌∙◌}
use Rattle.shared_bench.specs.Inside.{known_of}
use Rattle.shared_bench.proofs.Told.{may_leave_changed}
use Rattle.shared_bench.proofs.Passes.{in_turn, in_turn_too, turn_later, turn_taken}
use Rattle.shared_bench.proofs.pass.Pass.give_many.Goals as goal

pub leave-requires-clause-may : goal.leave-requires-clause-may
leave-requires-clause-may g c = let given = c.give_many.ensures in may_leave_changed _ _ _ _ c.wait_turn-bench.ensures.bench c.self.invariant.here given.journal given.project given.kept

pub returns-clause-in_turn : goal.returns-clause-in_turn
returns-clause-in_turn g c =
    let given = c.give_many.ensures in
    let d = c.wait_turn-bench.result in
    let p = known_of c.leave.new.seat.table_id c.leave.new.seat.me c.self.inside.number in
    let t = in_turn c.leave.new.seat.table_id c.self.inside.number _ _ c.leave.new.seat.me d c.give_many.new.self c.wait_turn-bench.ensures.bench c.leave.ensures.left in
    let turn = turn_taken c.self.inside.seat.table_id c.leave.new.seat.table_id c.self.inside.number c.self.inside.seat.me _ c.leave.new.seat.me d c.give_many.new.self c.wait_turn-bench.ensures.bench c.leave.ensures.left in (
      d,
      c.give_many.new.self,
      (t, c.wait_turn-bench.ensures.history),
      (in_turn_too p d c.give_many.new.self t given.journal given.project, given.history),
      given.gives,
      rw (← c.self.view_is) turn,
    )

pub returns-clause-later : goal.returns-clause-later
returns-clause-later g c =
    let same = c.leave.ensures.own.0 ∙ c.wait_turn-bench.ensures.own.0 in
    rw (← c.self.view_is) (turn_later _ _ _ c.self.inside.seat.me _ _ _ c.give_many.new.self c.wait_turn-bench.ensures.bench c.leave.ensures.left c.leave.ensures.legal same c.give_many.ensures.kept)
