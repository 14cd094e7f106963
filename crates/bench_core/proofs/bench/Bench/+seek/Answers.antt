use Rattle.std.proofs.Common.{◌≡◌, ◌<◌, ◌≤◌, ◌∙◌, sym, ap, subst, arith, Some, None}
use Rattle.omega_net.specs.Numbers.{components}
use Rattle.run_queries.specs.declared.query.Query.TheVariants.{Reply}
use Rattle.bench_core.specs.Shown.{project_of}
use Rattle.bench_core.specs.Asks.{HoldsRunTo}
use Rattle.bench_core.specs.Seeking.{replied_by}
use Rattle.bench_core.proofs.Settled.{holds_to}
use Rattle.bench_core.proofs.Seeking.{replied_is, seeks_found, seeks_none, seeks_fault, seeks_more}
use Rattle.bench_core.proofs.bench.Bench.+seek.Goals as goal

pub returns-in-Err-clause-seeks : goal.returns-in-Err-clause-seeks
returns-in-Err-clause-seeks t c =
    seeks_fault c.args.proc c.args.issue c.args.last c.args.self.now c.settle_to.new.self c.requires.within c.in-Err.fault (c.in-Err.ensures.after_fault.0, _, c.in-Err.ensures.after_fault.1) c.in-Err.ensures.differs

pub returns-in-Some-clause-seeks : goal.returns-in-Some-clause-seeks
returns-in-Some-clause-seeks t c =
    let d = c.args.self.now in
    let mid = c.settle_to.new.self in
    let project : project_of mid ≡ project_of d = c.settle_to.ensures.later.project in
    let within : c.args.last ≤ (project_of mid).horizon = subst (λ P. c.args.last ≤ P.horizon) (sym project) c.requires.within in
    let there : c.args.proc < components (project_of mid).k = subst (λ P. c.args.proc < components P.k) (sym project) c.requires.proc in
    let holds : HoldsRunTo mid c.args.last = holds_to mid c.is_bench.ensures.bench c.args.last c.in-Ok.ensures.settled c.args.last (omega arith) within in
    let told : replied_by (project_of mid) c.args.proc c.args.issue c.args.last ≡ Some c.in-Some.received = sym (replied_is mid c.args.proc c.args.issue c.args.last there within holds) ∙ sym c.replied_by.ensures ∙ c.in-Some.is in
    seeks_found c.args.proc c.args.issue c.args.last d mid c.requires.within c.in-Some.received (c.in-Ok.ensures.headline_settles.0, _, c.in-Ok.ensures.headline_settles.1) (subst (λ P. replied_by P c.args.proc c.args.issue c.args.last ≡ Some c.in-Some.received) project told)

pub returns-then-last-horizon-clause-seeks : goal.returns-then-last-horizon-clause-seeks
returns-then-last-horizon-clause-seeks t c =
    let d = c.args.self.now in
    let mid = c.settle_to.new.self in
    let project : project_of mid ≡ project_of d = c.settle_to.ensures.later.project in
    let whole : c.args.last ≡ (project_of d).horizon = c.if-last-horizon.true ∙ c.horizon-horizon.ensures.horizon ∙ ap (λ P. P.horizon) (c.project.ensures ∙ project) in
    seeks_none c.args.proc c.args.issue c.args.last d mid c.requires.within whole (c.in-Ok.ensures.headline_settles.0, _, c.in-Ok.ensures.headline_settles.1)

pub returns-then-last-horizon-clause-there : goal.returns-then-last-horizon-clause-there
returns-then-last-horizon-clause-there t c =
    let mid = c.settle_to.new.self in
    let whole : c.args.last ≡ (project_of mid).horizon = c.if-last-horizon.true ∙ c.horizon-horizon.ensures.horizon ∙ ap (λ P. P.horizon) c.project.ensures in
    subst (HoldsRunTo mid) whole (holds_to mid c.is_bench.ensures.bench c.args.last c.in-Ok.ensures.settled c.args.last (omega arith) (omega (arith, whole)))

pub returns-clause-seeks : goal.returns-clause-seeks
returns-clause-seeks t c =
    let d = c.args.self.now in
    let mid = c.settle_to.new.self in
    let project : project_of mid ≡ project_of d = c.settle_to.ensures.later.project in
    let within : c.args.last ≤ (project_of mid).horizon = subst (λ P. c.args.last ≤ P.horizon) (sym project) c.requires.within in
    let there : c.args.proc < components (project_of mid).k = subst (λ P. c.args.proc < components P.k) (sym project) c.requires.proc in
    let holds : HoldsRunTo mid c.args.last = holds_to mid c.is_bench.ensures.bench c.args.last c.in-Ok.ensures.settled c.args.last (omega arith) within in
    let told : replied_by (project_of mid) c.args.proc c.args.issue c.args.last ≡ None = sym (replied_is mid c.args.proc c.args.issue c.args.last there within holds) ∙ sym c.replied_by.ensures ∙ c.in_default.is in
    seeks_more c.args.proc c.args.issue c.args.last c.min.result d mid c.seek.new.self (subst (λ P. replied_by P c.args.proc c.args.issue c.args.last ≡ None) project told) (omega (arith, c.min.ensures, c.saturating_add.ensures, c.saturating_mul.ensures)) project (c.in-Ok.ensures.headline_settles.0, _, c.in-Ok.ensures.headline_settles.1) c.seek.result c.seek.ensures.seeks

pub returns-then-last-horizon-clause-ready : goal.returns-then-last-horizon-clause-ready
returns-then-last-horizon-clause-ready t c =
    let mid = c.settle_to.new.self in
    let whole : c.args.last ≡ (project_of mid).horizon = c.if-last-horizon.true ∙ c.horizon-horizon.ensures.horizon ∙ ap (λ P. P.horizon) c.project.ensures in
    c.in-Ok.ensures.ready (Reply c.args.proc c.args.issue) (omega (arith, whole))
