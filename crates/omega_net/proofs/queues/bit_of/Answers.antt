use Rattle.std.proofs.Common.{◌≡◌, ℕ, ◌<◌, ◌≤◌, ◌^◌, ◌/◌, ◌%◌, sym, ap, arith}
use Rattle.std.proofs.Math.Nat.{div-eq_of_lt}
use Rattle.std.proofs.Math.Pow.{pow_mono}
use Rattle.omega_net.proofs.queues.bit_of.Goals as goal

-- no bit from 8 on is set in a number below 2^8
no_high_bit : (n b : ℕ) → n < 2 ^ 8 → 8 ≤ b → 0 ≡ n / 2 ^ b % 2
no_high_bit n b small high =
    let below : n < 2 ^ b = omega (arith, pow_mono high) in
    sym (ap (λ q. q % 2) (div-eq_of_lt below))

pub returns-else-bit-lt8 : goal.returns-else-bit-lt8
returns-else-bit-lt8 c = no_high_bit c.args.number c.args.bit (omega arith) (omega arith)
