use Rattle.std.proofs.Common.{◌+◌, ◌≤◌, vec_len, vec_capacity}
use Rattle.std.specs.Vec.Iter.{into_iter_len}
use Rattle.wave_workers.proofs.lot.compute.Given as goal

abbrev pub invariant-loop-claim : goal.invariant-loop-claim
invariant-loop-claim g l = record {
  room : vec_len l.lot + into_iter_len l.claim-iterator ≤ vec_capacity l.lot;
  few : vec_len l.lot + into_iter_len l.claim-iterator ≤ vec_len l.initial.lot + vec_len l.fn.claims;
}
