use Rattle.std.proofs.Common.{rules, ◌≡◌, ◌+◌, ◌<◌, vec_len, subst, sym, ◌∙◌}
use Rattle.shared_bench.specs.Known.{Known, IsSplit}
use Rattle.wave_workers.specs.Working.{IsKept, IsWorked}
use Rattle.wave_workers.proofs.Working.{worked_none, worked_one}
use Rattle.wave_workers.proofs.threads.+all.Goals as goal

pub returns-in_default-clause-worked : goal.returns-in_default-clause-worked
returns-in_default-clause-worked g t c =
    let empty : vec_len c.args.gates ≡ 0 = search rules in
    subst (λ n. IsWorked c.args.pass c.none.result.pass (vec_len c.args.gates) n c.none.result.fault) (sym c.none.ensures.counts.2)
    (worked_none c.args.pass c.none.result.pass (vec_len c.args.gates) c.none.result.fault c.base.ensures.legal c.none.ensures.pass (λ e. empty) (λ why e. absurd cc))

pub returns-in-Err-clause-worked : goal.returns-in-Err-clause-worked
returns-in-Err-clause-worked g t c =
    let some : 0 < vec_len c.args.gates = search rules in
    subst (λ n. IsWorked c.args.pass c.none-in-Err.result.pass (vec_len c.args.gates) n c.none-in-Err.result.fault) (sym c.none-in-Err.ensures.counts.2)
    (worked_none c.args.pass c.none-in-Err.result.pass (vec_len c.args.gates) c.none-in-Err.result.fault c.base.ensures.legal (c.none-in-Err.ensures.pass ∙ c.split.ensures.same) (λ e. absurd cc) (λ why e. some))

pub returns-in-Err-start-clause-worked : goal.returns-in-Err-start-clause-worked
returns-in-Err-start-clause-worked g t c =
    let some : 0 < vec_len c.args.gates = search rules in
    subst (λ n. IsWorked c.args.pass c.none-in-Err-start.result.pass (vec_len c.args.gates) n c.none-in-Err-start.result.fault) (sym c.none-in-Err-start.ensures.counts.2)
    (worked_none c.args.pass c.none-in-Err-start.result.pass (vec_len c.args.gates) c.none-in-Err-start.result.fault c.base.ensures.legal (c.none-in-Err-start.ensures.pass ∙ c.split.ensures.same) (λ e. absurd cc) (λ why e. some))

pub returns-clause-worked : goal.returns-clause-worked
returns-clause-worked g t c =
    let split : IsSplit c.args.pass c.in-Ok.own = c.in-Ok.ensures.ok in
    let kept : IsKept c.in-Ok.own c.join-pass.result.pass = search rules in
    let others : IsWorked c.args.pass c.all-others.result.pass (vec_len c.pop.new.self) c.all-others.result.started c.all-others.result.fault =
    subst (λ (p : Known). IsWorked p c.all-others.result.pass (vec_len c.pop.new.self) c.all-others.result.started c.all-others.result.fault) c.split.ensures.same c.all-others.ensures.worked in
    let long : vec_len c.pop.new.self + 1 ≡ vec_len c.args.gates = search rules in
    subst (λ n. IsWorked c.args.pass c.join.result n (c.all-others.result.started + 1) c.all-others.result.fault) long (worked_one c.args.pass c.in-Ok.own c.all-others.result.pass c.join-pass.result.pass c.join.result (vec_len c.pop.new.self) c.all-others.result.started c.all-others.result.fault split kept others c.join.ensures)
