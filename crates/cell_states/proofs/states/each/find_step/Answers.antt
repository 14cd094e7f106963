use Rattle.std.proofs.Common.{ℕ, ◌+◌, ◌-◌, ◌∙◌, ◌++◌, sym, ap, subst, refl, arith, All, List, map}
use Rattle.std.proofs.lemmas.Result.{on_ok_weaker}
use Rattle.grid_law.specs.Codec.{IsTold}
use Rattle.grid_law.specs.Run.{run}
use Rattle.change_lists.specs.Changes.{held_at as memory_at}
use Rattle.cell_states.specs.NextWords.{IsOfWords}
use Rattle.cell_states.specs.Readied.{IsReadied}
use Rattle.cell_states.proofs.Next.{drafted_as, known_same, memory_next}
use Rattle.cell_states.proofs.Readied.{each_own, each_along, found_next, found_to}
use Rattle.cell_states.proofs.Stepped.{run_steps}
use Rattle.cell_states.proofs.states.each.find_step.Goals as goal

pub returns-in_err-left-clause-held : goal.returns-in_err-left-clause-held
returns-in_err-left-clause-held g c =
    let W = g.M.WholeRow in
    known_same g.G.Grid.rules g.G.Grid.codec W.stands W.state c.args.slots.now c.load_near.new.held (record { row = c.next_words.new.self; at = c.load_near.new.held.at }) c.load_near.ensures.held c.next_words.ensures.stands refl c.next_words.ensures.states

pub returns-in_err-draft_words-clause-held : goal.returns-in_err-draft_words-clause-held
returns-in_err-draft_words-clause-held g c =
    let W = g.M.WholeRow in
    known_same g.G.Grid.rules g.G.Grid.codec W.stands W.state c.args.slots.now c.load_near.new.held (record { row = c.next_words.new.self; at = c.load_near.new.held.at }) c.load_near.ensures.held c.next_words.ensures.stands refl c.next_words.ensures.states

pub returns-clause-held : goal.returns-clause-held
returns-clause-held g c =
    let W = g.M.WholeRow in
    known_same g.G.Grid.rules g.G.Grid.codec W.stands W.state c.args.slots.now c.load_near.new.held (record { row = c.next_words.new.self; at = c.load_near.new.held.at }) c.load_near.ensures.held c.next_words.ensures.stands refl c.next_words.ensures.states

pub ready_left-requires-clause-each : goal.ready_left-requires-clause-each
ready_left-requires-clause-each g c = each_own _ c.args.memories.now c.args.ready.now.items c.args.changes.now c.requires.so_far.each

pub returns-then-not-load_near-clause-so_far : goal.returns-then-not-load_near-clause-so_far
returns-then-not-load_near-clause-so_far g c =
    let d = c.args.cell.component in
    let so_far = c.requires.so_far in
    found_to _ c.args.draft.now c.args.draft.now c.args.memories.now c.args.ready.now.items c.args.changes.now d (d + 1) so_far (omega arith) (omega (arith, so_far.drafted))

pub returns-in_err-left-clause-so_far : goal.returns-in_err-left-clause-so_far
returns-in_err-left-clause-so_far g c =
    let d = c.args.cell.component in
    let so_far = c.requires.so_far in
    found_to _ c.args.draft.now c.args.draft.now c.args.memories.now c.args.ready.now.items c.args.changes.now d (d + 1) so_far (omega arith) (omega (arith, so_far.drafted))

pub returns-in_err-draft_words-clause-so_far : goal.returns-in_err-draft_words-clause-so_far
returns-in_err-draft_words-clause-so_far g c =
    let d = c.args.cell.component in
    found_to _ c.args.draft.now c.draft_words.new.draft c.args.memories.now c.args.ready.now.items c.args.changes.now d (d + 1) c.requires.so_far (omega arith) c.draft_words.ensures.after

pub returns-clause-so_far : goal.returns-clause-so_far
returns-clause-so_far g c =
    let n = g.G.Grid.rules.components c.args.slots.now in
    let m0 = c.args.memories.now in
    let m1 = c.ready_left.new.memories in
    let r1 = c.ready_left.new.ready.items in
    let marks1 = c.ready_left.new.changes in
    found_next c.args.cell.component m0 m1 c.args.ready.now.items r1 c.args.changes.now marks1 c.ready_left.ensures.others n c.args.draft.now c.draft_words.new.draft c.requires.so_far c.draft_words.ensures.after
    (each_along n m0 m1 r1 marks1 c.requires.so_far.each.lists c.ready_left.ensures.each)

pub returns-clause-found : goal.returns-clause-found
returns-clause-found g c =
    let R = g.G.Grid.rules in
    let C = g.G.Grid.codec in
    let W = g.M.WholeRow in
    let s = c.args.slots.now in
    let t = c.args.cell.cycle in
    let d = c.args.cell.component in
    let later = c.requires.run.later in
    let near = subst (All (IsOfWords C (W.state c.load_near.new.held.row) (run R s (t - 1)))) c.requires.near.list (c.load_near.ensures.loaded c.if-not-load_near.false) in
    let here = c.requires.run.before.memory d c.requires.near.there in
    let own = sym here ∙ sym c.at.ensures in
    let left = c.in_ok-left.ensures in
    let next = left.memory (t - 1) near own in
    let is = memory_next R C s t d later c.in_ok-left.left (memory_at c.args.memories.now d (t - 1)) here next in
    let state = run_steps R s t d later in
    on_ok_weaker c.ready_left.result
    (λ ready. record {
      told = subst (IsTold C) state (left.told (run R s (t - 1)) near own);
      words = drafted_as c.args.rows.now.rows c.draft_words.new.draft t d _ (C.words (run R s t d))
          (c.as_slice.ensures.value ∙ left.words (run R s (t - 1)) near own ∙ ap (λ (xs : List ℕ). xs ++ C.words (R.step s (map (run R s (t - 1)) (R.near s d)) d)) c.clear.ensures.items ∙ ap C.words state)
          c.in_ok-draft_words.ensures.here;
      memory = subst (IsReadied c.ready_left.new.memories c.ready_left.new.ready.items c.ready_left.new.changes t d) is ready;
    })
    c.ready_left.ensures.ready
