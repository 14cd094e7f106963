use Rattle.std.proofs.Common.{◌≡◌, ◌-◌, ◌∙◌, sym, ap, subst, arith, is_some}
use Rattle.change_rows.specs.Rows.{Table}
use Rattle.cell_states.specs.Sets.{IsWide}
use Rattle.cell_states.proofs.Coded.{seen_width, seen_cycles, seen_at, coded_err, states_err}
use Rattle.cell_states.proofs.PutRow.{coded_row, states_put}
use Rattle.cell_states.proofs.Whole.{words_of_state, memory_of_state}
use Rattle.cell_states.proofs.states.States.put_whole.Goals as goal

pub put_whole-requires-clause-at : goal.put_whole-requires-clause-at
put_whole-requires-clause-at g c =
    let i = c.self.inside in
    record {
      later = c.requires.at.later;
      within = omega (arith, c.requires.at.within, seen_cycles g.G.Grid.codec i.words i.memories c.args.self.now c.self.view_is);
      wide = c.requires.at.wide ∙ seen_width g.G.Grid.codec i.words i.memories c.args.self.now c.self.view_is;
      components = c.requires.at.components;
    }

pub put_whole-requires-clause-wide : goal.put_whole-requires-clause-wide
put_whole-requires-clause-wide g c =
    let i = c.self.inside in
    let seen = c.requires.at.wide ∙ seen_width g.G.Grid.codec i.words i.memories c.args.self.now c.self.view_is in
    let wide : i.words.width ≡ g.G.Grid.rules.components c.args.slots.now = sym seen ∙ c.requires.at.components in
    record {
      each = record {
        each = record {
          lists = c.self.invariant.0.many ∙ wide;
          places = c.self.invariant.1 ∙ wide;
          marked = c.requires.marks.marks ∙ c.requires.at.components;
        };
        other = c.requires.marks.others ∙ c.requires.at.components;
      };
      sets = subst (λ n. IsWide n i.sets) (sym seen) c.self.invariant.2;
    }

pub put_whole-requires-clause-still : goal.put_whole-requires-clause-still
put_whole-requires-clause-still g c = λ d a s.
    let i = c.self.inside in
    let C = g.G.Grid.codec in
    let u = c.args.cycle - 1 in
    let seen = seen_at C i.words i.memories c.args.self.now c.self.view_is c.self.invariant.0.whole u d in
    words_of_state C g.G.Grid.codec_laws _ _ (c.self.invariant.0.codes u d) (ap is_some (sym seen) ∙ c.requires.stepped.before d a) (g.M.WholeRow.state c.args.row.now d) (λ x e. c.requires.stepped.still d x a (seen ∙ e) s)

pub put_whole-requires-clause-kept : goal.put_whole-requires-clause-kept
put_whole-requires-clause-kept g c = λ d a s.
    let i = c.self.inside in
    let C = g.G.Grid.codec in
    let u = c.args.cycle - 1 in
    let seen = seen_at C i.words i.memories c.args.self.now c.self.view_is c.self.invariant.0.whole u d in
    memory_of_state C g.G.Grid.codec_laws _ _ (c.self.invariant.0.codes u d) (ap is_some (sym seen) ∙ c.requires.stepped.before d a) (g.M.WholeRow.state c.args.row.now d) (λ x e. c.requires.stepped.kept d x a (seen ∙ e) s)

pub invariant_of-self : goal.invariant_of-self
invariant_of-self g c =
    let i = c.self.inside in
    let e = c.in-Err.ensures.err in
    let each = c.put_whole.ensures.wide.each.each in
    let wide : i.words.width ≡ g.G.Grid.rules.components c.args.slots.now = sym (c.requires.at.wide ∙ seen_width g.G.Grid.codec i.words i.memories c.args.self.now c.self.view_is) ∙ c.requires.at.components in
    let same : c.put_whole.new.rows.width ≡ i.words.width = ap (λ (w : Table). w.width) e.0 in (
      coded_err g.G.Grid.codec i.words c.put_whole.new.rows i.memories c.put_whole.new.memories c.self.invariant.0 e.0 e.1 (each.lists ∙ sym wide ∙ sym c.self.invariant.0.many),
      each.places ∙ sym wide ∙ sym same,
      subst (λ n. IsWide n c.put_whole.new.sets) (c.requires.at.wide ∙ seen_width g.G.Grid.codec i.words i.memories c.args.self.now c.self.view_is ∙ sym same) c.put_whole.ensures.wide.sets,
    )

pub returns-in-Err-clause-marks : goal.returns-in-Err-clause-marks
returns-in-Err-clause-marks g c =
    let e = c.put_whole.ensures.wide.each in
    record {
      marks = e.each.marked ∙ sym c.requires.at.components;
      others = e.other ∙ sym c.requires.at.components;
    }

pub returns-in-Err-clause-err : goal.returns-in-Err-clause-err
returns-in-Err-clause-err g c =
    let i = c.self.inside in
    let e = c.in-Err.ensures.err in
    states_err g.G.Grid.codec i.words c.put_whole.new.rows i.memories c.put_whole.new.memories c.self.invariant.0 e.0 e.1 c.args.self.now c.self.view_is

pub invariant_of-self-2 : goal.invariant_of-self-2
invariant_of-self-2 g c =
    let i = c.self.inside in
    let put = c.in-Ok.ensures.put in
    let each = c.put_whole.ensures.wide.each.each in
    let wide : i.words.width ≡ g.G.Grid.rules.components c.args.slots.now = sym (c.requires.at.wide ∙ seen_width g.G.Grid.codec i.words i.memories c.args.self.now c.self.view_is) ∙ c.requires.at.components in
    let same : c.put_whole.new.rows.width ≡ i.words.width = put.words.cells.width in (
      coded_row g.G.Grid.codec g.G.Grid.codec_laws i.words c.put_whole.new.rows i.memories c.put_whole.new.memories c.self.invariant.0 (each.lists ∙ sym wide ∙ sym c.self.invariant.0.many) c.args.cycle c.args.set.now c.put_whole.new.changes c.put_whole.new.worded (g.M.WholeRow.state c.args.row.now) put,
      each.places ∙ sym wide ∙ sym same,
      subst (λ n. IsWide n c.put_whole.new.sets) (c.requires.at.wide ∙ seen_width g.G.Grid.codec i.words i.memories c.args.self.now c.self.view_is ∙ sym same) c.put_whole.ensures.wide.sets,
    )

pub returns-clause-marks : goal.returns-clause-marks
returns-clause-marks g c =
    let e = c.put_whole.ensures.wide.each in
    record {
      marks = e.each.marked ∙ sym c.requires.at.components;
      others = e.other ∙ sym c.requires.at.components;
    }

pub returns-clause-put : goal.returns-clause-put
returns-clause-put g c =
    let i = c.self.inside in
    let each = c.put_whole.ensures.wide.each.each in
    let wide : i.words.width ≡ g.G.Grid.rules.components c.args.slots.now = sym (c.requires.at.wide ∙ seen_width g.G.Grid.codec i.words i.memories c.args.self.now c.self.view_is) ∙ c.requires.at.components in
    states_put g.G.Grid.codec g.G.Grid.codec_laws i.words c.put_whole.new.rows i.memories c.put_whole.new.memories c.self.invariant.0 (each.lists ∙ sym wide ∙ sym c.self.invariant.0.many) c.args.cycle c.args.set.now c.put_whole.new.changes c.put_whole.new.worded (g.M.WholeRow.state c.args.row.now) c.in-Ok.ensures.put c.args.self.now c.self.view_is
