use Rattle.std.proofs.Common.{◌≤◌, ◌∙◌, ◌++◌, ap, arith, List, [], length, replicate}
use Rattle.std.proofs.Math.ListN.{length-set}
use Rattle.change_rows.specs.Cells.{Held, found, end_of}
use Rattle.change_rows.proofs.Growing.{rows_are, more_rows, grown_changes, grown_same, grown_blank}
use Rattle.change_rows.proofs.grow.grow.Goals as goal

pub returns-clause-changes : goal.returns-clause-changes
returns-clause-changes c =
    let s = c.args.s.now in
    let g = c.in_ok-grow_lines.ensures in
    let p = c.put_cells in
    let row = c.in_ok-row.row in
    let rows = rows_are s.rows.items c.reserve.new.self.items c.push_rows.new.rows.items p.new.rows.items row c.args.m c.len-n.result p.ensures.rows c.push_rows.ensures c.in_ok-reserve.ensures.items (omega (arith, c.len-n.ensures, s.rows.ok.0)) in
    let wide : end_of row ≤ s.width = omega (arith, ap end_of c.in_ok-row.ensures, c.in_ok-blank.ensures.end) in
    grown_changes s.width s.rows.items p.new.rows.items s.marks.items c.grow_lines.new.lines.items p.new.marks.items s.seam row s.at c.args.m c.len-n.result c.requires.changes g.len g.same g.longer g.ok (omega (arith, c.len-n.ensures, s.rows.ok.0)) c.requires.some c.requires.few wide p.ensures.len p.ensures.tall p.ensures.marks rows

pub returns-clause-grown : goal.returns-clause-grown
returns-clause-grown c =
    let s = c.args.s.now in
    let p = c.put_cells in
    let row = c.in_ok-row.row in
    let rows = rows_are s.rows.items c.reserve.new.self.items c.push_rows.new.rows.items p.new.rows.items row c.args.m c.len-n.result p.ensures.rows c.push_rows.ensures c.in_ok-reserve.ensures.items (omega (arith, c.len-n.ensures, s.rows.ok.0)) in
    record {
      len = ap length rows ∙ length-set (s.rows.items ++ replicate c.args.m []) (length s.rows.items) row ∙ more_rows s.rows.items c.args.m;
      same = grown_same s.width s.rows.items s.marks.items s.seam s.at c.args.m c.requires.changes row p.new.rows.items rows c.requires.some;
      blank = grown_blank s.width s.rows.items s.marks.items s.seam s.at c.args.m c.requires.changes row p.new.rows.items rows c.requires.some (λ d h. ap (λ (v : List Held). found v d) c.in_ok-row.ensures ∙ c.in_ok-blank.ensures.found d h);
    }
