use Rattle.std.proofs.Common.{rules, ◌≡◌, ◌+◌, ◌∙◌, ap, None}
use Rattle.omega_net.specs.Numbers.{components}
use Rattle.bench_core.specs.Shown.{last_counted}
use Rattle.bench_core.proofs.Filling.{counted_whole}
use Rattle.bench_core.proofs.counters.count_table.Goals as goal

pub returns : goal.returns
returns c =
    let table = c.args.table.now in
    let none = c.in_ok-sums.sums in
    let count = c.count_all_filled.ensures in
    let shape : none.k ≡ table.slots.k = search rules in
    let last : none.last ≡ last_counted table.slots = search rules in
    counted_whole c.count_all_filled.new.sums table (components none.k) (c.horizon.result + 1) (count.shape ∙ shape) (count.last ∙ last) (ap components shape) (ap (λ h. h + 1) c.horizon.ensures) (c.in_ok-count_all_filled.ensures.stands (λ t c. None) c.in_ok-sums.ensures.stands)
