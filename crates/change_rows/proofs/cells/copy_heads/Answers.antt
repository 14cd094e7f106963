use Rattle.std.proofs.Common.{◌≡◌, ◌++◌, slice_range, rules}
use Rattle.change_rows.proofs.Appending.{heads_kept}
use Rattle.change_rows.proofs.cells.copy_heads.Goals as goal

pub returns-then-start-base : goal.returns-then-start-base
returns-then-start-base c =
    let longer : c.extend_from_slice.new.self.items ≡ c.args.heads.now.items ++ slice_range c.args.others.now c.args.from c.args.to = search rules in
    heads_kept c.args.heads.now.items c.args.others.now c.args.from c.args.to c.requires.order c.requires.there c.args.start c.args.base c.if-start-base.true c.requires.climbs _ longer
