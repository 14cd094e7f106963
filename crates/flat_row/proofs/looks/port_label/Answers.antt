use Rattle.std.proofs.Common.{◌+◌, ◌-◌, ◌*◌, ◌^◌, ◌<◌, ◌≤◌, ℕ, sym, subst, arith}
use Rattle.std.proofs.Math.Nat.{mod-eq_of_lt}
use Rattle.std.proofs.Math.Pow.{pow_mono}
use Rattle.omega_net.specs.Numbers.{lines}
use Rattle.flat_row.proofs.Holding.{port_within}
use Rattle.flat_row.proofs.looks.port_label.Goals as goal

pub returns-clause-within : goal.returns-clause-within
returns-clause-within c =
    let k = c.args.shape in
    let o = c.args.output in
    let d = c.deciding_bit.result in
    let few : k ≤ 6 = omega (arith, c.k-k.ensures.within, c.k-k.ensures.value) in
    let most : 2 ^ k ≤ 64 = pow_mono few in
    let by_stage : c.label_of.result + o * 2 ^ (k - 1 - c.args.stage) < lines k =
    subst (λ (x : ℕ). x + o * 2 ^ (k - 1 - c.args.stage) < lines k) (sym c.label_of.ensures.value) (port_within k c.args.stage c.args.index o c.requires.stage c.requires.index c.requires.output) in
    let there : c.label_of.result + o * 2 ^ d < lines k = subst (λ (b : ℕ). c.label_of.result + o * 2 ^ b < lines k) (sym c.deciding_bit.ensures) by_stage in
    let small : o * 2 ^ d < 4294967296 = omega (arith, there, most) in
    rw (mod-eq_of_lt small) there
