use Rattle.std.proofs.Common.{◌≡◌, ◌++◌, take, map}
use Rattle.run_reports.proofs.full_queues.add_parts.Given as goal

abbrev pub invariant-loop-part : goal.invariant-loop-part
invariant-loop-part l = l.all.items ≡ l.initial.all.items ++ map (λ part. record { place = l.place; part = part }) (take l.part-index l.parts)
