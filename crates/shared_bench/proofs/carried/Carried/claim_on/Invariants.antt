use Rattle.std.proofs.Common.{◌≡◌, ◌+◌, ◌-◌, ◌≤◌, vec_len, vec_capacity}
use Rattle.shared_bench.proofs.Lots.{ClaimsOn}
use Rattle.shared_bench.proofs.carried.Carried.claim_on.Given as goal

abbrev pub invariant-loop-count : goal.invariant-loop-count
invariant-loop-count l = record {
  on : ClaimsOn l.self l.initial.from.cycle l.initial.from.component l.most l._count l.initial.claims.items l.claims.items l.from.component;
  cycle : l.from.cycle ≡ l.initial.from.cycle;
  room : vec_len l.claims + (l.most - l._count) ≤ vec_capacity l.claims;
}
