use Rattle.flat_row.proofs.Processing.{label_small}
use Rattle.flat_row.proofs.row.Row.module_small.Goals as goal

pub bit_in-requires : goal.bit_in-requires
bit_in-requires c = label_small c.is_row.ensures.small c.requires

pub bit_in-requires-2 : goal.bit_in-requires-2
bit_in-requires-2 c = label_small c.is_row.ensures.small c.requires
