use Rattle.std.proofs.Common.{◌≡◌, take}
use Rattle.std.specs.List.{flat_map}
use Rattle.experiments.specs.Logs.{wait_of}
use Rattle.experiments.proofs.delays.Log.waits.Given as goal

abbrev pub invariant-loop-came : goal.invariant-loop-came
invariant-loop-came l = l.numbers.items ≡ flat_map (wait_of l.self.issues.items) (take l.came-index l.self.replies.items)
