-- What `==` of wait entries decides: that they are the same.
use Rattle.std.proofs.Common.{◌≡◌, ap}
use Rattle.std.specs.Bool.{Decides}
use Rattle.std.proofs.lemmas.Bool.Decides.{Decides-and, Decides-like}
use Rattle.omega_net.proofs.Same.{same_three, tag_decides, op_decides}
use Rattle.comb_switch.specs.declared.waiting.Waiting.{Waiting}
use Rattle.comb_switch.specs.contracts.waiting.WaitingPartialEq.TheImpl as entries

pub waiting_decides : (a b : Waiting) → Decides (entries.eq-value.it a b) (a ≡ b)
waiting_decides a b =
    Decides-like _ (same_three (λ f o s. record { first = f; op = o; second = s })) (λ e. (ap (λ w. w.first) e, (ap (λ w. w.op) e, ap (λ w. w.second) e)))
    (Decides-and _ _ (tag_decides a.first b.first) (Decides-and _ _ (op_decides a.op b.op) (tag_decides a.second b.second)))
