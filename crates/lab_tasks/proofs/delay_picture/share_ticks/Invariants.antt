use Rattle.std.proofs.Common.{◌≡◌, ◌*◌, map}
use Rattle.omega_net.specs.Wires.{below}
use Rattle.lab_tasks.specs.DelayPictures.{share_at}
use Rattle.lab_tasks.proofs.delay_picture.share_ticks.Given as goal

abbrev pub invariant-loop-place : goal.invariant-loop-place
invariant-loop-place l = l.ticks.items ≡ map (λ place. record { value = place * 100; number = share_at place }) (below l.place)
