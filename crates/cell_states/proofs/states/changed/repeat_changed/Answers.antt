use Rattle.std.proofs.Common.{refl, arith, ap}
use Rattle.change_rows.specs.Rows.{Table}
use Rattle.cell_states.proofs.ChangedRows.{cycles_repeated, lens_repeated, words_repeated, words_others, not_from, not_to}
use Rattle.cell_states.proofs.states.changed.repeat_changed.Goals as goal

pub returns-clause-ok : goal.returns-clause-ok
returns-clause-ok g c =
    let v = c.args.rows.now in
    let v1 = c.repeat.new.self in
    let whole = c.len-end.ensures.whole in
    let marks = c.args.changes.now in
    let wide = c.requires.width in
    let members = c.words.result.now in
    let from = c.args.from in
    let to = c.args.to in
    let is = c.in-Ok.ensures in
    let bits = c.words.ensures.bits in
    let e = c.go_on_changed.ensures in
    record {
      cells = record {
        width = ap (λ (w : Table). w.width) is;
        cycles = cycles_repeated v v1 whole marks wide members from to is bits;
        lens = lens_repeated v v1 whole marks wide members from to is bits;
      };
      many = e.width;
      repeated = λ t d a h k. (words_repeated v v1 whole marks wide members from to is bits c.requires.within t d a h k, e.repeated d t a h k);
      others = λ t d a. (words_others v v1 whole marks wide members from to is bits t d (rw a refl), e.others d t a);
      earlier = λ t d h. (words_others v v1 whole marks wide members from to is bits t d (not_from marks from to t d h), e.earlier d t h);
      behind = λ t d h k. (words_others v v1 whole marks wide members from to is bits t d (not_to marks from to t d h), e.behind d t h (omega (arith, k, c.len-end.ensures.count)));
    }
