use Rattle.std.proofs.Common.{◌≡◌, ◌<◌, ◌^◌, ◌∙◌, ap, subst, sym, arith}
use Rattle.omega_net.specs.Numbers.{components}
use Rattle.monitor_sums.specs.Limits.{blocks}
use Rattle.monitor_sums.specs.Kept.{Kept}
use Rattle.monitor_sums.specs.Counts.{tallied}
use Rattle.monitor_sums.specs.Whole.{tally_at}
use Rattle.monitor_sums.proofs.Putting.{place_in_own, room_own, room_all}
use Rattle.monitor_sums.proofs.sums.Sums.block.Goals as goal

pub tally_at-requires : goal.tally_at-requires
tally_at-requires c =
    let i = c.self.inside in
    let there : c.in-Some.component < components i.shape = subst (λ (v : Kept). c.in-Some.component < components v.k) (sym c.self.view_is) (c.requires.who c.in-Some.component c.in-Some.is) in
    let low : c.args.block < blocks i.last = subst (λ (v : Kept). c.args.block < blocks v.last) (sym c.self.view_is) c.requires.there in
    place_in_own i.shape i.last i.cells.items i.own.items i.all.items i.profiles.items c.self.invariant c.in-Some.component c.args.block c.block_place-place.result there low c.block_place-place.ensures

pub returns-in-Some-clause-small : goal.returns-in-Some-clause-small
returns-in-Some-clause-small c =
    let i = c.self.inside in
    let there : c.in-Some.component < components i.shape = subst (λ (v : Kept). c.in-Some.component < components v.k) (sym c.self.view_is) (c.requires.who c.in-Some.component c.in-Some.is) in
    let low : c.args.block < blocks i.last = subst (λ (v : Kept). c.args.block < blocks v.last) (sym c.self.view_is) c.requires.there in
    let is : c.of.result ≡ tallied c.args.counter (tally_at i.own.items c.block_place-place.result) = c.of.ensures ∙ ap (tallied c.args.counter) c.tally_at.ensures in
    let small : tallied c.args.counter (tally_at i.own.items c.block_place-place.result) < 2 ^ 32 =
    room_own i.shape i.last i.cells.items i.own.items i.all.items i.profiles.items c.self.invariant c.in-Some.component c.args.block c.block_place-place.result low c.block_place-place.ensures there c.args.counter in
    omega (arith, is, small)

pub returns-in-None-clause-small : goal.returns-in-None-clause-small
returns-in-None-clause-small c =
    let i = c.self.inside in
    let low : c.args.block < blocks i.last = subst (λ (v : Kept). c.args.block < blocks v.last) (sym c.self.view_is) c.requires.there in
    let is : c.of-in-None.result ≡ tallied c.args.counter (tally_at i.all.items c.args.block) = c.of-in-None.ensures ∙ ap (tallied c.args.counter) c.tally_at-in-None.ensures in
    let small : tallied c.args.counter (tally_at i.all.items c.args.block) < 2 ^ 32 =
    room_all i.shape i.last i.cells.items i.own.items i.all.items i.profiles.items c.self.invariant c.args.block low c.args.counter in
    omega (arith, is, small)
