use Rattle.std.proofs.Common.{ap}
use Rattle.std.proofs.lemmas.Slice.Eq.{slice_eq-Decides}
use Rattle.comb_switch.proofs.Same.{waiting_decides}
use Rattle.comb_switch.proofs.waiting.same_waiting.Goals as goal

pub returns : goal.returns
returns c =
    let d = slice_eq-Decides waiting_decides c.args.first.now.items c.args.second.now.items c.eq.result c.eq.ensures in
    ((λ t. ap (λ xs. record { items = xs }) (d.0 t)), (λ e. d.1 (ap (λ q. q.items) e)))
