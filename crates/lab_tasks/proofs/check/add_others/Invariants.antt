use Rattle.std.proofs.Common.{◌≡◌, ◌++◌, take, codes, string_bytes}
use Rattle.std.specs.List.{flat_map}
use Rattle.lab_tasks.specs.Heats.{hot_text}
use Rattle.lab_tasks.proofs.check.add_others.Given as goal

abbrev pub invariant-loop-hot : goal.invariant-loop-hot
invariant-loop-hot l =
    string_bytes l.text ≡ string_bytes l.initial.text ++ flat_map (λ h. codes ", " ++ hot_text h) (take l.hot-index l.hots)
