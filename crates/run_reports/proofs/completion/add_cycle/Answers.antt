use Rattle.std.proofs.Common.{◌≡◌, ◌≤◌, ◌<◌, ◌+◌, ◌^◌, ◌∙◌, refl, sym, ap, arith}
use Rattle.machine_cells.specs.Run.{run}
use Rattle.machine_cells.specs.Runs.{state_in}
use Rattle.run_reports.specs.declared.completion.Completion.{Completion}
use Rattle.run_reports.specs.Completions.{completion_of}
use Rattle.run_reports.proofs.Marking.{all_done, none_done, one_done, value_there}
use Rattle.run_reports.proofs.completion.add_cycle.Goals as goal

pub loop-proc-init : goal.loop-proc-init
loop-proc-init c =
    let P = c.args.project.now in
    let t = c.args.runner.now.cycle in
    let at = state_in (run P) in
    none_done (completion_of P at (t + 1)) (completion_of P at t) (2 ^ P.k) c.args.all.now.items c.requires.are

pub loop-proc-preserved : goal.loop-proc-preserved
loop-proc-preserved c =
    let P = c.args.project.now in
    let t = c.args.runner.now.cycle in
    let at = state_in (run P) in
    let p = c.loop-proc.proc in
    let before = c.index-before.result.now in
    let less : p < 2 ^ P.k = omega (arith, c.loop-proc-test.true, c.processors-proc-end.ensures) in
    let was : before ≡ completion_of P at t p =
    value_there (completion_of P at (t + 1)) (completion_of P at t) (2 ^ P.k) p c.loop-proc.all.items before c.loop-proc.invariant less c.index-before.ensures in
    let own : before.proc ≡ p = ap (λ (d : Completion). d.proc) was in
    one_done (completion_of P at (t + 1)) (completion_of P at t) (2 ^ P.k) p c.loop-proc.all.items _ c.with_cycle.result c.loop-proc.invariant less refl
    (c.with_cycle.ensures (was ∙ ap (completion_of P at t) (sym own)) ∙ ap (completion_of P at (t + 1)) own)

pub returns : goal.returns
returns c =
    let P = c.args.project.now in
    let t = c.args.runner.now.cycle in
    let at = state_in (run P) in
    let all : 2 ^ P.k ≤ c.loop-proc.proc = omega (arith, c.loop-proc-test.false, c.processors-proc-end.ensures) in
    all_done (completion_of P at (t + 1)) (completion_of P at t) (2 ^ P.k) c.loop-proc.proc c.loop-proc.all.items c.loop-proc.invariant all
