use Rattle.std.proofs.Common.{sym, subst}
use Rattle.project_book.specs.Project.{Project}
use Rattle.bench_core.specs.Shown.{project_of}
use Rattle.lab_tasks.specs.declared.asking.Asking.{Asking}
use Rattle.lab_tasks.specs.declared.asking.Asking.TheVariants as asking
use Rattle.lab_tasks.specs.Tellings.{IsSaid}
use Rattle.lab_tasks.proofs.telling.said.Goals as goal

pub returns-in_ok-latency_said-in-Latency-clause-said : goal.returns-in_ok-latency_said-in-Latency-clause-said
returns-in_ok-latency_said-in-Latency-clause-said g c =
    let told = c.in_ok-latency_said-in-Latency.field-0 in
    subst (λ (what : Asking). IsSaid (project_of c.args.bench.now) what told) (sym c.in-Latency.is)
    (subst (λ (P : Project). IsSaid P (asking.Latency c.in-Latency.ask) told) c.project.ensures c.in_ok-latency_said-in-Latency.ensures)

pub returns-in_ok-done_said-in-Done-clause-said : goal.returns-in_ok-done_said-in-Done-clause-said
returns-in_ok-done_said-in-Done-clause-said g c =
    let told = c.in_ok-done_said-in-Done.field-0 in
    subst (λ (what : Asking). IsSaid (project_of c.args.bench.now) what told) (sym c.in-Done.is)
    (subst (λ (P : Project). IsSaid P asking.Done told) c.project-in-Done.ensures c.in_ok-done_said-in-Done.ensures)

pub returns-in_ok-full_said-in-Full-clause-said : goal.returns-in_ok-full_said-in-Full-clause-said
returns-in_ok-full_said-in-Full-clause-said g c =
    let told = c.in_ok-full_said-in-Full.field-0 in
    subst (λ (what : Asking). IsSaid (project_of c.args.bench.now) what told) (sym c.in-Full.is)
    (subst (λ (P : Project). IsSaid P asking.Full told) c.project-in-Full.ensures c.in_ok-full_said-in-Full.ensures)
