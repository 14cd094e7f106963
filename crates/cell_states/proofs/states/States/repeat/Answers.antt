use Rattle.std.proofs.Common.{◌-◌, ◌<◌, ◌∙◌, sym, ap, arith, length, subst}
use Rattle.change_rows.specs.Rows.{Table, words_at}
use Rattle.change_lists.specs.Changes.{held_at as memory_at}
use Rattle.cell_states.specs.Stated.{state_at}
use Rattle.cell_states.specs.Sets.{IsWide}
use Rattle.cell_states.proofs.Coded.{seen_at, seen_width, seen_cycles, memory_along, coded_err, states_err, coded_put, other_seen}
use Rattle.cell_states.proofs.states.States.repeat.Goals as goal

pub repeat_state-requires-clause-there : goal.repeat_state-requires-clause-there
repeat_state-requires-clause-there g c =
    let i = c.self.inside in
    let C = g.G.Grid.codec in
    let s = c.args.self.now in
    record {
      cycle = omega (arith, c.requires.cycle, seen_cycles C i.words i.memories s c.self.view_is);
      component = omega (arith, c.requires.component, seen_width C i.words i.memories s c.self.view_is);
    }

pub invariant_of-self : goal.invariant_of-self
invariant_of-self g c =
    let i = c.self.inside in
    let C = g.G.Grid.codec in
    let e = c.in-Err.ensures in (
      coded_err C i.words c.repeat_state.new.rows i.memories c.repeat_state.new.memories c.self.invariant.0 e.rows (λ d u. memory_along C i.memories c.repeat_state.new.memories d u (e.err d)) c.repeat_state.ensures.other.width,
      c.self.invariant.1 ∙ sym (ap (λ (w : Table). w.width) e.rows),
      subst (λ n. IsWide n c.self.inside.sets) (sym (ap (λ (w : Table). w.width) e.rows)) c.self.invariant.2,
    )

pub returns-in-Err-clause-err : goal.returns-in-Err-clause-err
returns-in-Err-clause-err g c =
    let i = c.self.inside in
    let C = g.G.Grid.codec in
    let e = c.in-Err.ensures in
    states_err C i.words c.repeat_state.new.rows i.memories c.repeat_state.new.memories c.self.invariant.0 e.rows (λ d u. memory_along C i.memories c.repeat_state.new.memories d u (e.err d)) c.args.self.now c.self.view_is

pub invariant_of-self-2 : goal.invariant_of-self-2
invariant_of-self-2 g c =
    let i = c.self.inside in
    let C = g.G.Grid.codec in
    let s = c.args.self.now in
    let t = c.args.cell.cycle in
    let d = c.args.cell.component in
    let there : t < length i.words.rows = omega (arith, c.requires.cycle, seen_cycles C i.words i.memories s c.self.view_is) in
    let inside : d < i.words.width = omega (arith, c.requires.component, seen_width C i.words i.memories s c.self.view_is) in
    let ws = words_at i.words.rows (t - 1) d in
    let m = memory_at i.memories d (t - 1) in
    let code = c.self.invariant.0.codes (t - 1) d in (
      coded_put C i.words c.repeat_state.new.rows i.memories c.repeat_state.new.memories c.self.invariant.0 t d there inside ws m code c.in-Ok.ensures.rows c.in-Ok.ensures.here (λ e n. ap (λ x. x.begun) (c.repeat_state.ensures.other.others e n)) c.repeat_state.ensures.other.cycles c.repeat_state.ensures.other.width,
      c.self.invariant.1 ∙ sym (ap (λ (w : Table). w.width) c.in-Ok.ensures.rows),
      subst (λ n. IsWide n c.self.inside.sets) (sym (ap (λ (w : Table). w.width) c.in-Ok.ensures.rows)) c.self.invariant.2,
    )

pub returns-clause-ok : goal.returns-clause-ok
returns-clause-ok g c =
    let i = c.self.inside in
    let C = g.G.Grid.codec in
    let s = c.args.self.now in
    let t = c.args.cell.cycle in
    let d = c.args.cell.component in
    let there : t < length i.words.rows = omega (arith, c.requires.cycle, seen_cycles C i.words i.memories s c.self.view_is) in
    let inside : d < i.words.width = omega (arith, c.requires.component, seen_width C i.words i.memories s c.self.view_is) in
    let ws = words_at i.words.rows (t - 1) d in
    let m = memory_at i.memories d (t - 1) in
    let code = c.self.invariant.0.codes (t - 1) d in
    other_seen C i.words c.repeat_state.new.rows i.memories c.repeat_state.new.memories c.self.invariant.0 t d there inside ws m code c.in-Ok.ensures.rows c.in-Ok.ensures.here (λ e n. ap (λ x. x.begun) (c.repeat_state.ensures.other.others e n)) c.repeat_state.ensures.other.cycles s c.self.view_is (state_at s (t - 1) d) (sym (seen_at C i.words i.memories s c.self.view_is c.self.invariant.0.whole (t - 1) d))
