use Rattle.std.proofs.Common.{refl, arith}
use Rattle.change_rows.proofs.Putting.{put_all}
use Rattle.change_rows.proofs.edit.put.Goals as goal

pub returns-clause-put : goal.returns-clause-put
returns-clause-put c =
    let s = c.args.s.now in
    let m = c.settle_for.new.s in
    let e = c.in_ok-settle_for.ensures in
    let b = c.row_of.new.b in
    let f = c.in_ok-row_of.ensures in
    put_all s.rows.items m.rows.items c.lay.new.rows.items s.seam m.seam b.seam c.swap.new.x b.row b.row c.args.draft.now s.at m.at c.args.t e.same e.edited.len c.in_ok-lay.ensures.rows refl c.swap.ensures.x_after (omega (arith, c.requires.row, e.edited.len)) e.elsewhere f.kept f.others f.seam_kept f.seam_only
