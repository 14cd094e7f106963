use Rattle.std.proofs.Common.{◌≡◌, subst}
use Rattle.std.specs.Prelude.{OnOk}
use Rattle.shared_bench.specs.Known.{Known}
use Rattle.bench_shell.specs.Store.{edited_store}
use Rattle.worker_sessions.specs.Seated.{seated_store}
use Rattle.worker_sessions.proofs.Seats.{made}
use Rattle.worker_sessions.proofs.seated.SeatedDesk.edit.Goals as goal

pub returns-clause-made : goal.returns-clause-made
returns-clause-made g c =
    let p : Known = c.self.inside.pass in
    let is : OnOk c.edit.result (seated_store c.edit.new.self ≡ edited_store (seated_store p) c.args.edit) =
    made p c.edit.new.self c.args.edit c.edit.result c.self.invariant c.edit.ensures.later c.edit.ensures.ok c.edit.ensures.in_turn in
    subst (λ (q : Known). OnOk c.edit.result (seated_store c.edit.new.self ≡ edited_store (seated_store q) c.args.edit)) c.self.view_is is
