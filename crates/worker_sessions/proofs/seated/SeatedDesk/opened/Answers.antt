use Rattle.std.proofs.Common.{◌≡◌, ◌∙◌, sym, subst, length}
use Rattle.shared_bench.specs.Known.{Known}
use Rattle.worker_sessions.specs.Seated.{seated_store}
use Rattle.worker_sessions.proofs.Seats.{k_seated}
use Rattle.worker_sessions.proofs.seated.SeatedDesk.opened.Goals as goal

pub returns-clause-both : goal.returns-clause-both
returns-clause-both g c =
    let p : Known = c.self.inside.pass in
    let k : c.k.result ≡ (seated_store p).project.k = c.k.ensures.k ∙ sym (k_seated p) in
    let both : (c.k.result, c.base.result) ≡ ((seated_store p).project.k, length p.opened) = λ i. (k i, c.base.ensures.base i) in
    subst (λ (q : Known). (c.k.result, c.base.result) ≡ ((seated_store q).project.k, length q.opened)) c.self.view_is both
