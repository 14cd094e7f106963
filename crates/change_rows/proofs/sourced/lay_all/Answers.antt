use Rattle.std.proofs.Common.{◌≡◌, ◌<◌, ◌≤◌, ◌∙◌, ℕ, false}
use Rattle.change_rows.specs.Marks.{is_in}
use Rattle.change_rows.proofs.Sourcing.{told_on}
use Rattle.change_rows.proofs.Noting.{row_on, heads_on, none_among}
use Rattle.change_rows.proofs.sourced.lay_all.Goals as goal

pub loop-c-preserved : goal.loop-c-preserved
loop-c-preserved g c =
    let s = c.args.s.now in
    let i = c.loop-c.invariant in
    let words = g.S.Source.words c.args.source.now in
    let moved = c.args.k.now.moved.items in
    let laid = c.args.laid.now in
    let from = c.in_ok-next.next in
    let next = c.next_in-c-in-loop-c.result in
    let n = c.next_in-c-in-loop-c.ensures in
    let e = c.in_ok-next.ensures in
    let o = c.lay_next.ensures.stays in
    let none : (d : ℕ) → from ≤ d → d < next → is_in moved d ≡ false = none_among moved laid from next s.width n.to c.requires.can.among n.passed in
    record {
      laid = row_on s.rows.items s.seam s.at moved laid words from next c.lay_next.new.row e.laid.row n.from n.passed;
      heads = heads_on moved words c.args.n.now.heads.items from next c.lay_next.new.n.heads.items (e.heads c.args.n.now.heads.items i.heads) none;
      told = told_on s.rows.items s.seam s.at s.at moved words from next c.lay_next.new.n.other.items e.laid.told n.from none;
      room = o.room;
      apart = o.apart ∙ i.apart;
      known = o.known ∙ i.known;
      within = n.to;
      member = n.there;
    }
