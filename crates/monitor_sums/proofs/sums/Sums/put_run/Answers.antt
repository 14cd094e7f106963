use Rattle.std.proofs.Common.{◌≡◌, ℕ, ◌/◌, ◌<◌, ◌≤◌, cond, length, subst, sym, ◌∙◌, arith}
use Rattle.std.specs.Prelude.{◌&&◌, ◌==◌, nat_le, nat_lt, slice_set}
use Rattle.omega_net.specs.Numbers.{components}
use Rattle.monitor_sums.specs.Kept.{Kept, kept_at}
use Rattle.monitor_sums.specs.Whole.{block_end}
use Rattle.monitor_sums.proofs.Putting.{kept_read, block_there, place_in_own, held_own, held_all, room_own, room_all, held_profile, room_profile, short_old, put_read}
use Rattle.monitor_sums.proofs.sums.Sums.put_run.Goals as goal

pub move_tally-requires-clause-there : goal.move_tally-requires-clause-there
move_tally-requires-clause-there c =
    let i = c.self.inside in
    let in_time : c.args.from ≤ i.last = subst (λ (v : Kept). c.args.from ≤ v.last) (sym c.self.view_is) c.requires.there in
    let there : c.args.component < components i.shape = subst (λ (v : Kept). c.args.component < components v.k) (sym c.self.view_is) c.requires.component in
    place_in_own i.shape i.last i.cells.items i.own.items i.all.items i.profiles.items c.self.invariant
    c.args.component c.block_of-block.result c.block_place-own.result there (block_there i.last c.args.from c.block_of-block.result in_time c.block_of-block.ensures) c.block_place-own.ensures

pub move_tally-requires-clause-held : goal.move_tally-requires-clause-held
move_tally-requires-clause-held c =
    let i = c.self.inside in
    let in_time : c.args.from ≤ i.last = subst (λ (v : Kept). c.args.from ≤ v.last) (sym c.self.view_is) c.requires.there in
    let high : c.args.end ≤ block_end i.last (c.args.from / 32) = subst (λ (v : Kept). c.args.end ≤ block_end v.last (c.args.from / 32)) (sym c.self.view_is) c.requires.block in
    let there : c.args.component < components i.shape = subst (λ (v : Kept). c.args.component < components v.k) (sym c.self.view_is) c.requires.component in
    let same : (u : ℕ) → c.args.from ≤ u → u < c.args.end → kept_at i.cells.items u c.args.component ≡ kept_at i.cells.items c.args.from c.args.component =
    subst (λ (v : Kept). (u : ℕ) → c.args.from ≤ u → u < c.args.end → kept_at v.cells u c.args.component ≡ kept_at v.cells c.args.from c.args.component) (sym c.self.view_is) c.requires.same in
    held_own i.shape i.last i.cells.items i.own.items i.all.items i.profiles.items c.self.invariant
    c.args.from c.args.end c.args.component c.block_of-block.result c.block_place-own.result c.cell_at-old.result c.block_of-block.ensures (omega (arith, c.requires.order)) high
    c.block_place-own.ensures (λ u p q. same u p q ∙ sym c.cell_at-old.ensures) in_time there

pub move_tally-requires-clause-room : goal.move_tally-requires-clause-room
move_tally-requires-clause-room c =
    let i = c.self.inside in
    let in_time : c.args.from ≤ i.last = subst (λ (v : Kept). c.args.from ≤ v.last) (sym c.self.view_is) c.requires.there in
    let there : c.args.component < components i.shape = subst (λ (v : Kept). c.args.component < components v.k) (sym c.self.view_is) c.requires.component in
    room_own i.shape i.last i.cells.items i.own.items i.all.items i.profiles.items c.self.invariant
    c.args.component c.block_of-block.result c.block_place-own.result (block_there i.last c.args.from c.block_of-block.result in_time c.block_of-block.ensures) c.block_place-own.ensures there

pub move_tally-requires-2-clause-held : goal.move_tally-requires-2-clause-held
move_tally-requires-2-clause-held c =
    let i = c.self.inside in
    let in_time : c.args.from ≤ i.last = subst (λ (v : Kept). c.args.from ≤ v.last) (sym c.self.view_is) c.requires.there in
    let high : c.args.end ≤ block_end i.last (c.args.from / 32) = subst (λ (v : Kept). c.args.end ≤ block_end v.last (c.args.from / 32)) (sym c.self.view_is) c.requires.block in
    let there : c.args.component < components i.shape = subst (λ (v : Kept). c.args.component < components v.k) (sym c.self.view_is) c.requires.component in
    let same : (u : ℕ) → c.args.from ≤ u → u < c.args.end → kept_at i.cells.items u c.args.component ≡ kept_at i.cells.items c.args.from c.args.component =
    subst (λ (v : Kept). (u : ℕ) → c.args.from ≤ u → u < c.args.end → kept_at v.cells u c.args.component ≡ kept_at v.cells c.args.from c.args.component) (sym c.self.view_is) c.requires.same in
    held_all i.shape i.last i.cells.items i.own.items i.all.items i.profiles.items c.self.invariant
    c.args.from c.args.end c.args.component c.block_of-block.result c.cell_at-old.result c.block_of-block.ensures (omega (arith, c.requires.order)) high
    (λ u p q. same u p q ∙ sym c.cell_at-old.ensures) in_time there

pub move_tally-requires-2-clause-room : goal.move_tally-requires-2-clause-room
move_tally-requires-2-clause-room c =
    let i = c.self.inside in
    let in_time : c.args.from ≤ i.last = subst (λ (v : Kept). c.args.from ≤ v.last) (sym c.self.view_is) c.requires.there in
    room_all i.shape i.last i.cells.items i.own.items i.all.items i.profiles.items c.self.invariant
    c.block_of-block.result (block_there i.last c.args.from c.block_of-block.result in_time c.block_of-block.ensures)

pub move_lengths-requires-clause-short_old : goal.move_lengths-requires-clause-short_old
move_lengths-requires-clause-short_old c =
    let i = c.self.inside in
    short_old i.shape i.last i.cells.items i.own.items i.all.items i.profiles.items c.self.invariant
    c.args.from c.args.component c.cell_at-old.result c.cell_at-old.ensures

pub move_lengths-requires-clause-held : goal.move_lengths-requires-clause-held
move_lengths-requires-clause-held c =
    let i = c.self.inside in
    let high : c.args.end ≤ block_end i.last (c.args.from / 32) = subst (λ (v : Kept). c.args.end ≤ block_end v.last (c.args.from / 32)) (sym c.self.view_is) c.requires.block in
    let there : c.args.component < components i.shape = subst (λ (v : Kept). c.args.component < components v.k) (sym c.self.view_is) c.requires.component in
    let same : (u : ℕ) → c.args.from ≤ u → u < c.args.end → kept_at i.cells.items u c.args.component ≡ kept_at i.cells.items c.args.from c.args.component =
    subst (λ (v : Kept). (u : ℕ) → c.args.from ≤ u → u < c.args.end → kept_at v.cells u c.args.component ≡ kept_at v.cells c.args.from c.args.component) (sym c.self.view_is) c.requires.same in
    held_profile i.shape i.last i.cells.items i.own.items i.all.items i.profiles.items c.self.invariant
    c.args.from c.args.end c.args.component c.cell_at-old.result (omega (arith, c.requires.order)) high (λ u p q. same u p q ∙ sym c.cell_at-old.ensures) there

pub move_lengths-requires-clause-room : goal.move_lengths-requires-clause-room
move_lengths-requires-clause-room c =
    let i = c.self.inside in
    room_profile i.shape i.last i.cells.items i.own.items i.all.items i.profiles.items c.self.invariant

pub invariant_of-self : goal.invariant_of-self
invariant_of-self c =
    let i = c.self.inside in
    let in_time : c.args.from ≤ i.last = subst (λ (v : Kept). c.args.from ≤ v.last) (sym c.self.view_is) c.requires.there in
    let high : c.args.end ≤ block_end i.last (c.args.from / 32) = subst (λ (v : Kept). c.args.end ≤ block_end v.last (c.args.from / 32)) (sym c.self.view_is) c.requires.block in
    let there : c.args.component < components i.shape = subst (λ (v : Kept). c.args.component < components v.k) (sym c.self.view_is) c.requires.component in
    let same : (u : ℕ) → c.args.from ≤ u → u < c.args.end → kept_at i.cells.items u c.args.component ≡ kept_at i.cells.items c.args.from c.args.component =
    subst (λ (v : Kept). (u : ℕ) → c.args.from ≤ u → u < c.args.end → kept_at v.cells u c.args.component ≡ kept_at v.cells c.args.from c.args.component) (sym c.self.view_is) c.requires.same in
    put_read i.shape i.last i.cells.items i.own.items i.all.items i.profiles.items c.self.invariant
    c.args.from c.args.end c.args.component c.block_of-block.result c.block_place-own.result c.args.new c.cell_at-old.result c.index_mut.result.now c.put.new.self
    c.move_tally.new.tallies.items c.move_tally-2.new.tallies.items c.move_lengths.new.profiles.items
    in_time (omega (arith, c.requires.order)) high there c.block_of-block.ensures c.block_place-own.ensures (λ u p q. same u p q ∙ sym c.cell_at-old.ensures) c.requires.small c.index_mut.ensures.value c.put.ensures.room c.put.ensures.each
    c.move_tally.ensures.size c.move_tally.ensures.moved c.move_tally.ensures.others
    c.move_tally-2.ensures.size c.move_tally-2.ensures.moved c.move_tally-2.ensures.others
    c.move_lengths.ensures.stages c.move_lengths.ensures.moved

pub returns-clause-each : goal.returns-clause-each
returns-clause-each c = λ t d within in_machine.
    let i = c.self.inside in
    let there : c.args.component < components i.shape = subst (λ (v : Kept). c.args.component < components v.k) (sym c.self.view_is) c.requires.component in
    let in_cells : c.args.component < length i.cells.items = omega (arith, there, c.self.invariant.size) in
    subst (λ (v : Kept). kept_at (slice_set i.cells.items c.args.component c.put.new.self) t d
    ≡ cond ((nat_le c.args.from t && nat_lt t c.args.end) && (d == c.args.component)) c.args.new (kept_at v.cells t d)) c.self.view_is
    (kept_read c.args.from c.args.end c.args.component i.cells.items c.index_mut.result.now c.put.new.self c.args.new in_cells c.index_mut.ensures.value c.put.ensures.each t d)
