use Rattle.std.proofs.Common.{◌<◌, ◌∙◌, sym, ap, refl, arith, length, Some, subst}
use Rattle.cell_states.specs.Sets.{IsWide}
use Rattle.change_rows.specs.Rows.{Table}
use Rattle.cell_states.proofs.Codes.{put_is}
use Rattle.cell_states.proofs.Coded.{seen_width, seen_cycles, memory_along, coded_err, states_err, coded_put, other_seen}
use Rattle.cell_states.proofs.states.States.put.Goals as goal

pub put_state-requires-clause-there : goal.put_state-requires-clause-there
put_state-requires-clause-there g c =
    let i = c.self.inside in
    let C = g.G.Grid.codec in
    let s = c.args.self.now in
    record {
      cycle = omega (arith, c.requires.cycle, seen_cycles C i.words i.memories s c.self.view_is);
      component = omega (arith, c.requires.component, seen_width C i.words i.memories s c.self.view_is);
    }

pub invariant_of-self : goal.invariant_of-self
invariant_of-self g c =
    let i = c.self.inside in
    let C = g.G.Grid.codec in
    let e = c.in-Err.ensures in (
      coded_err C i.words c.put_state.new.rows i.memories c.put_state.new.memories c.self.invariant.0 e.rows (λ d u. memory_along C i.memories c.put_state.new.memories d u (e.err d)) c.put_state.ensures.other.width,
      c.self.invariant.1 ∙ sym (ap (λ (w : Table). w.width) e.rows),
      subst (λ n. IsWide n c.self.inside.sets) (sym (ap (λ (w : Table). w.width) e.rows)) c.self.invariant.2,
    )

pub returns-in-Err-clause-err : goal.returns-in-Err-clause-err
returns-in-Err-clause-err g c =
    let i = c.self.inside in
    let C = g.G.Grid.codec in
    let e = c.in-Err.ensures in
    states_err C i.words c.put_state.new.rows i.memories c.put_state.new.memories c.self.invariant.0 e.rows (λ d u. memory_along C i.memories c.put_state.new.memories d u (e.err d)) c.args.self.now c.self.view_is

pub invariant_of-self-2 : goal.invariant_of-self-2
invariant_of-self-2 g c =
    let i = c.self.inside in
    let C = g.G.Grid.codec in
    let s = c.args.self.now in
    let t = c.args.cell.cycle in
    let d = c.args.cell.component in
    let there : t < length i.words.rows = omega (arith, c.requires.cycle, seen_cycles C i.words i.memories s c.self.view_is) in
    let inside : d < i.words.width = omega (arith, c.requires.component, seen_width C i.words i.memories s c.self.view_is) in
    let x = c.args.state.now in
    let ws = C.words x in
    let m = C.memory x in
    let p = put_is C g.G.Grid.codec_laws ws m x c.put_state.ensures.told (record { words_are = refl; memory_is = refl }) in
    let code = p.1 in (
      coded_put C i.words c.put_state.new.rows i.memories c.put_state.new.memories c.self.invariant.0 t d there inside ws m code c.in-Ok.ensures.rows c.in-Ok.ensures.here (λ e n. ap (λ x. x.begun) (c.put_state.ensures.other.others e n)) c.put_state.ensures.other.cycles c.put_state.ensures.other.width,
      c.self.invariant.1 ∙ sym (ap (λ (w : Table). w.width) c.in-Ok.ensures.rows),
      subst (λ n. IsWide n c.self.inside.sets) (sym (ap (λ (w : Table). w.width) c.in-Ok.ensures.rows)) c.self.invariant.2,
    )

pub returns-clause-ok : goal.returns-clause-ok
returns-clause-ok g c =
    let i = c.self.inside in
    let C = g.G.Grid.codec in
    let s = c.args.self.now in
    let t = c.args.cell.cycle in
    let d = c.args.cell.component in
    let there : t < length i.words.rows = omega (arith, c.requires.cycle, seen_cycles C i.words i.memories s c.self.view_is) in
    let inside : d < i.words.width = omega (arith, c.requires.component, seen_width C i.words i.memories s c.self.view_is) in
    let x = c.args.state.now in
    let ws = C.words x in
    let m = C.memory x in
    let p = put_is C g.G.Grid.codec_laws ws m x c.put_state.ensures.told (record { words_are = refl; memory_is = refl }) in
    let code = p.1 in
    other_seen C i.words c.put_state.new.rows i.memories c.put_state.new.memories c.self.invariant.0 t d there inside ws m code c.in-Ok.ensures.rows c.in-Ok.ensures.here (λ e n. ap (λ x. x.begun) (c.put_state.ensures.other.others e n)) c.put_state.ensures.other.cycles s c.self.view_is (Some x) p.0
