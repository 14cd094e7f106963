use Rattle.std.proofs.Common.{◌+◌, ◌*◌, ◌/◌, ◌%◌, ◌^◌, ◌<◌, ◌-◌, ◌∙◌, ap, subst, arith}
use Rattle.std.proofs.Math.Nat.{mod-lt}
use Rattle.omega_net.specs.Numbers.{half}
use Rattle.omega_net.proofs.Numbering.{half_some}
use Rattle.serial_order.proofs.Before.{before_is}
use Rattle.serial_order.proofs.combined.switch_before.Goals as goal

pub nonzero_rem-result : goal.nonzero_rem-result
nonzero_rem-result c = rw c.half.ensures.value (half_some c.args.shape c.args.stage c.requires.stage)

pub returns-clause-value : goal.returns-clause-value
returns-clause-value c =
    let k = c.args.shape in
    let s = c.args.stage in
    ap (λ h. (c.from.result % (1 * 2 ^ (c.k.result - s) % 2 ^ 32) * 2 ^ s % 2 ^ 32 + c.from-2.result / 2 ^ (c.k.result - s)) % h) c.half.ensures.value
    ∙ ap (λ n. (c.from.result % (1 * 2 ^ (n - s) % 2 ^ 32) * 2 ^ s % 2 ^ 32 + c.from-2.result / 2 ^ (n - s)) % half k) c.k.ensures.value
    ∙ ap (λ p. (p % (1 * 2 ^ (k - s) % 2 ^ 32) * 2 ^ s % 2 ^ 32 + c.from-2.result / 2 ^ (k - s)) % half k) c.from.ensures
    ∙ ap (λ m. (c.args.proc % (1 * 2 ^ (k - s) % 2 ^ 32) * 2 ^ s % 2 ^ 32 + m / 2 ^ (k - s)) % half k) c.from-2.ensures
    ∙ before_is k (k - s) s c.args.proc c.args.home (omega (arith, c.requires.stage)) (omega (arith, c.requires.stage)) (omega (arith, c.k.ensures.value, c.k.ensures.within)) c.requires.there

pub returns-clause-small : goal.returns-clause-small
returns-clause-small c = subst (λ h. (c.from.result % (1 * 2 ^ (c.k.result - c.args.stage) % 2 ^ 32) * 2 ^ c.args.stage % 2 ^ 32 + c.from-2.result / 2 ^ (c.k.result - c.args.stage)) % c.half.result < h) c.half.ensures.value
    (mod-lt _ (rw c.half.ensures.value (half_some c.args.shape c.args.stage c.requires.stage)))
