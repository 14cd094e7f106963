use Rattle.std.proofs.Common.{◌≡◌, ℕ, suc, ◌+◌, ◌<◌, ◌≤◌, ◌∙◌, sym, subst, arith, Option, Some, None}
use Rattle.machine_cells.specs.declared.state.MachineState.{MachineState}
use Rattle.run_queries.specs.Answers.{word_got, first_reply}
use Rattle.bench_core.specs.Shown.{held}
use Rattle.run_queries.proofs.Stretches.{reply_stays, no_reply_until}
use Rattle.bench_core.proofs.bench.Bench.first_reply.Goals as goal

pub returns-in-Some : goal.returns-in-Some
returns-in-Some c =
    let b = c.args.self.now in
    let at : ℕ → Option MachineState = λ t. held b.table t c.args.proc in
    let got : word_got c.args.issue (at c.loop-cycle.cycle) ≡ Some c.in-Some.word = sym (c.word_got_by.ensures (at c.loop-cycle.cycle) c.words.ensures) ∙ c.in-Some.is in
    let before : c.loop-cycle.cycle < suc c.args.last = omega (arith, c.loop-cycle-test.true) in
    sym (reply_stays at c.args.issue c.loop-cycle.cycle (suc c.args.last) c.in-Some.word c.loop-cycle.invariant.none got before)

pub loop-cycle-preserved : goal.loop-cycle-preserved
loop-cycle-preserved c =
    let b = c.args.self.now in
    let at : ℕ → Option MachineState = λ t. held b.table t c.args.proc in
    let from = c.loop-cycle.cycle in
    let to = c.min-cycle.result in
    let at_most : to ≤ c.stands_to-end.result = omega (arith, c.min-cycle.ensures) in
    let within : to ≤ c.args.last + 1 = omega (arith, c.min-cycle.ensures) in
    let on : from ≤ to = omega (arith, c.min-cycle.ensures, c.stands_to-end.ensures.after, c.loop-cycle.invariant.within) in
    let stretch : (t : ℕ) → from ≤ t → t < c.stands_to-end.result → at t ≡ at from = rw (← c.self.view_is) c.stands_to-end.ensures.same in
    let same : (t : ℕ) → from ≤ t → t < to → at t ≡ at from = λ t l k. stretch t l (omega (arith, k, at_most)) in
    let none : word_got c.args.issue (at from) ≡ None = sym (c.word_got_by.ensures (at from) c.words.ensures) ∙ c.in-None.is in
    record {
      none = no_reply_until at c.args.issue from to c.loop-cycle.invariant.none none on same;
      within = within;
    }

pub returns : goal.returns
returns c =
    let b = c.args.self.now in
    let at : ℕ → Option MachineState = λ t. held b.table t c.args.proc in
    let all : c.loop-cycle.cycle ≡ suc c.args.last = omega (arith, c.loop-cycle.invariant.within, c.loop-cycle-test.false) in
    sym (subst (λ n. first_reply at c.args.issue n ≡ None) all c.loop-cycle.invariant.none)
