use Rattle.std.proofs.Common.{◌≡◌, ◌++◌, slice_range, arith, rules}
use Rattle.change_rows.proofs.Appending.{heads_moved}
use Rattle.change_rows.proofs.cells.push_heads.Goals as goal

pub returns : goal.returns
returns c =
    let l = c.loop-i in
    let i = l.invariant in
    let longer : c.extend_from_slice.new.self.items ≡ c.args.heads.now.items ++ slice_range c.args.others.now c.args.from c.args.to = search rules in
    heads_moved c.args.heads.now.items c.args.others.now c.args.from c.args.to c.requires.order c.requires.there c.args.start c.args.base c.len-at.result c.extend_from_slice.new.self.items l.heads.items (omega (arith, c.len-at.ensures, c.args.heads.now.ok.0)) longer i.len i.before (λ k d low high. i.done k d low (omega (arith, high, c.loop-i-test.false, c.len-i-end.ensures, c.extend_from_slice.new.self.ok.0)))
