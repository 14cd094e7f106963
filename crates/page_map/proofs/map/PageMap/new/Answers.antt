use Rattle.std.proofs.Common.{arith}
use Rattle.page_map.proofs.Spread.{even_map}
use Rattle.page_map.proofs.map.PageMap.new.Goals as goal

pub invariant_of-result : goal.invariant_of-result
invariant_of-result c = even_map c.args.k c.new.result c.requires (omega arith) (omega arith)
