use Rattle.std.proofs.Common.{rules}
use Rattle.shared_bench.proofs.Joining.{splits}
use Rattle.shared_bench.proofs.pass.Pass.split.Goals as goal

pub split_seat-seat-requires : goal.split_seat-seat-requires
split_seat-seat-requires c = (search rules, search rules, splits _ _ _)
