use Rattle.std.proofs.Common.{◌≡◌, ℕ, ◌∙◌, ap, arith, ◌||◌, is_some, length, Bool, List}
use Rattle.grid_law.specs.Run.{run}
use Rattle.change_rows.specs.Cells.{found}
use Rattle.change_lists.specs.Changes.{held_at as memory_at}
use Rattle.cell_states.specs.Filling.{is_awake}
use Rattle.cell_states.proofs.Changed.{memory_same}
use Rattle.cell_states.proofs.Drafted.{drafted_put, drafted_tells, drafted_unmarked, drafted_among, unworded, long_union, long_cleared}
use Rattle.cell_states.proofs.Readied.{marked_before, of_set}
use Rattle.cell_states.proofs.Whole.{awake_within, by_mark}
use Rattle.cell_states.proofs.states.each.put_each.Goals as goal

pub put_memories-requires-clause-ready : goal.put_memories-requires-clause-ready
put_memories-requires-clause-ready g c = λ d a.
    let found = c.in_ok-find_all.ensures.found in
    (found.each d (of_set (is_awake c.args.set.now d) (is_awake c.find_all.new.changes d) (found.unmarked d) a)).memory.is_ready a

pub returns-clause-each : goal.returns-clause-each
returns-clause-each g c =
    let e = c.find_all.ensures.each in
    let put = c.put_memories.ensures in
    record {
      each = record {
        lists = put.width ∙ e.lists;
        places = put.len ∙ e.places;
        marked = long_union c.find_all.new.changes c.add.new.self c.mark_draft.new.changes c.add.ensures ∙ e.marked;
      };
      other = c.mark_draft.ensures.len ∙ ap length c.clear_all.ensures ∙ long_cleared (length c.args.worded.now) ∙ c.requires.each.other;
    }

pub returns-clause-put : goal.returns-clause-put
returns-clause-put g c =
    let C = g.G.Grid.codec in
    let t = c.args.cycle in
    let states = run g.G.Grid.rules c.args.slots.now t in
    let set = c.args.set.now in
    let rows = c.args.rows.now in
    let m0 = c.args.memories.now in
    let m1 = c.find_all.new.memories in
    let draft = c.find_all.new.draft in
    let marks1 = c.find_all.new.changes in
    let worded1 = c.mark_draft.new.changes in
    let found_all = c.in_ok-find_all.ensures.found in
    let ok = c.in_ok-put_draft.ensures in
    let put = c.put_memories.ensures in
    let n = length c.args.worded.now in
    let marks = λ (k : ℕ). c.mark_draft.ensures.marked k ∙ ap (λ (m : List Bool). is_awake m k || is_some (found draft k)) c.clear_all.ensures in
    let same = λ (d u : ℕ). memory_same m0 m1 d u (c.find_all.ensures.same d) in
    record {
      told = λ d a. (found_all.each d a).told;
      words = drafted_put rows c.put_draft.new.rows t set (λ d. C.words (states d)) draft ok.cells ok.here ok.others (λ d a. (found_all.each d a).words) found_all.no_words;
      memory = λ d a. (let q = (found_all.each d a).memory in by_mark (is_awake marks1 d) _ _ (λ k. put.put d k ∙ q.is_value k) (λ k. put.others d t k ∙ q.marked.0 k));
      others = λ u d a. put.others d u (found_all.unmarked d a) ∙ same d u;
      other_cycles = λ u d h k some. put.cycles d u (omega (arith, h, c.len-end.ensures.count)) k ∙ same d u;
      tells = λ d a.
          drafted_tells worded1 n draft marks d marks1 c.add.new.self c.add.ensures rows.rows t (C.words (states d)) (memory_at m0 d t ≡ C.memory (states d))
          (omega (arith, awake_within set d a, c.requires.at.components, c.find_all.ensures.each.marked)) (found_all.each d a).words
          (marked_before m0 m1 d t (is_awake marks1 d) (C.memory (states d)) (c.find_all.ensures.same d) (found_all.each d a).memory.marked);
      unmarked = λ d a. drafted_unmarked worded1 n draft marks d marks1 c.add.new.self c.add.ensures (found_all.unmarked d a) (found_all.no_words d a);
      same_words = λ d a. ok.here d ∙ unworded worded1 n draft marks d _ a;
      among = λ d a.
          drafted_among worded1 n draft marks d marks1 c.add.new.self c.add.ensures
          (omega (arith, c.mark_draft.ensures.len, ap length c.clear_all.ensures, long_cleared n, c.requires.each.other, c.find_all.ensures.each.marked)) a;
    }
