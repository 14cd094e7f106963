use Rattle.std.proofs.Common.{◌≡◌, ◌+◌, ◌-◌, ◌∙◌, sym, ap, subst, arith, All}
use Rattle.std.proofs.lemmas.Result.{on_ok_weaker}
use Rattle.grid_law.specs.Codec.{IsTold}
use Rattle.grid_law.specs.Run.{run}
use Rattle.change_rows.specs.Rows.{words_at}
use Rattle.change_lists.specs.Changes.{held_at as memory_at}
use Rattle.cell_states.specs.Readied.{IsReadied}
use Rattle.cell_states.proofs.Next.{drafted_as, run_goes_on}
use Rattle.cell_states.proofs.Readied.{each_own, each_along, found_next, found_to}
use Rattle.cell_states.proofs.states.each.find_one.Goals as goal

pub ready_left-requires-clause-each : goal.ready_left-requires-clause-each
ready_left-requires-clause-each g c = each_own _ c.args.memories.now c.args.ready.now.items c.args.changes.now c.requires.so_far.each

pub returns-in_err-draft_same-clause-so_far : goal.returns-in_err-draft_same-clause-so_far
returns-in_err-draft_same-clause-so_far g c =
    let d = c.args.cell.component in
    found_to _ c.args.draft.now c.draft_same.new.draft c.args.memories.now c.args.ready.now.items c.args.changes.now d (d + 1) c.requires.so_far (omega arith) c.draft_same.ensures.after

pub returns-then-all_stay-clause-so_far : goal.returns-then-all_stay-clause-so_far
returns-then-all_stay-clause-so_far g c =
    let n = g.G.Grid.rules.components c.args.slots.now in
    let m0 = c.args.memories.now in
    let m1 = c.ready_left.new.memories in
    let r1 = c.ready_left.new.ready.items in
    let marks1 = c.ready_left.new.changes in
    found_next c.args.cell.component m0 m1 c.args.ready.now.items r1 c.args.changes.now marks1 c.ready_left.ensures.others n c.args.draft.now c.draft_same.new.draft c.requires.so_far c.draft_same.ensures.after
    (each_along n m0 m1 r1 marks1 c.requires.so_far.each.lists c.ready_left.ensures.each)

pub returns-then-all_stay-clause-found : goal.returns-then-all_stay-clause-found
returns-then-all_stay-clause-found g c =
    let R = g.G.Grid.rules in
    let C = g.G.Grid.codec in
    let s = c.args.slots.now in
    let t = c.args.cell.cycle in
    let d = c.args.cell.component in
    let rows = c.args.rows.now.rows in
    let memories = c.args.memories.now in
    let before = c.requires.run.before in
    let there = c.requires.near.there in
    let stay = subst (All (λ e. (words_at rows (t - 1 - 1) e ≡ words_at rows (t - 1) e) × (memory_at memories e (t - 1 - 1) ≡ memory_at memories e (t - 1)))) c.requires.near.list (c.all_stay.ensures c.if-all_stay.true) in
    let same = run_goes_on R C s rows memories g.G.Grid.laws t d (omega (arith, c.if-cell-gt1.true)) there before (c.requires.run.earlier (omega (arith, c.if-cell-gt1.true))) stay in
    on_ok_weaker c.ready_left.result
    (λ ready. record {
      told = subst (IsTold C) (sym same) (before.told d there);
      words = drafted_as rows c.draft_same.new.draft t d (words_at rows (t - 1) d) (C.words (run R s t d)) (before.words d there ∙ ap C.words (sym same)) c.in_ok-draft_same.ensures.here;
      memory = subst (IsReadied c.ready_left.new.memories c.ready_left.new.ready.items c.ready_left.new.changes t d) (before.memory d there ∙ ap C.memory (sym same)) ready;
    })
    c.ready_left.ensures.ready
