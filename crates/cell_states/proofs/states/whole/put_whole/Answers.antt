use Rattle.std.proofs.Common.{◌≡◌, ℕ, ◌-◌, ◌<◌, ◌≤◌, ◌∙◌, ◌⊎◌, inl, inr, sym, ap, refl, arith, false, List, length}
use Rattle.std.proofs.lemmas.Bool.{true≢false, not-false, cases_lt, or_right}
use Rattle.std.proofs.lemmas.List.{length-replicate}
use Rattle.change_rows.specs.Marks.{is_in}
use Rattle.change_rows.specs.Rows.{words_at}
use Rattle.change_lists.specs.Changes.{held_at as memory_at}
use Rattle.cell_states.specs.Filling.{is_awake}
use Rattle.cell_states.proofs.Changed.{memory_same}
use Rattle.cell_states.proofs.Whole.{awake_within, by_mark}
use Rattle.cell_states.proofs.Looking.{joined_at, long_of, long_union, marks_of}
use Rattle.cell_states.proofs.PutRow.{by_part, both_told, neither_marked, not_so, is_left, is_out, by_writing}
use Rattle.cell_states.proofs.Readied.{marked_before, of_set}
use Rattle.cell_states.proofs.states.whole.put_whole.Goals as goal

pub ready_all-requires-clause-components : goal.ready_all-requires-clause-components
ready_all-requires-clause-components g c = c.find_sets.ensures.wide.written ∙ c.requires.at.components

pub put_words-requires-clause-still : goal.put_words-requires-clause-still
put_words-requires-clause-still g c = λ d a n. c.requires.still d a (not-false _ (sym (c.find_sets.ensures.moved d (awake_within c.args.set.now d a)) ∙ n))

pub put_memories-requires-clause-each : goal.put_memories-requires-clause-each
put_memories-requires-clause-each g c = let e = c.ready_all.ensures.each in record { lists = e.lists ∙ sym e.marked; places = e.places ∙ sym e.marked; marked = refl }

pub put_memories-requires-clause-ready : goal.put_memories-requires-clause-ready
put_memories-requires-clause-ready g c = λ d a.
    let ok = c.in-Ok.ensures in
    (ok.ready d (of_set (is_awake c.find_sets.new.sets.written d) (is_awake c.ready_all.new.changes d) (ok.unmarked d) a)).is_ready a

pub carry_all-requires-clause-changes : goal.carry_all-requires-clause-changes
carry_all-requires-clause-changes g c = let e = c.ready_all.ensures.each in e.marked ∙ sym e.lists ∙ sym c.put_memories.ensures.width

pub carry_all-requires-clause-unmarked : goal.carry_all-requires-clause-unmarked
carry_all-requires-clause-unmarked g c = λ d a. c.in-Ok.ensures.unmarked d (is_left c.args.set.now c.find_sets.new.sets.written c.find_sets.new.sets.unwritten (λ n. g.M.WholeRow.has_written c.args.step.now c.args.slots.now n) c.find_sets.ensures.wide.written c.find_sets.ensures.wide.unwritten c.find_sets.ensures.written c.find_sets.ensures.unwritten d a).2

pub returns-in-Err-clause-err : goal.returns-in-Err-clause-err
returns-in-Err-clause-err g c = (refl, λ d t. memory_same c.args.memories.now c.ready_all.new.memories d t (c.ready_all.ensures.same d))

pub returns-in-Err-put_words-clause-err : goal.returns-in-Err-put_words-clause-err
returns-in-Err-put_words-clause-err g c = (c.in-Err-put_words.ensures.err, λ d t. memory_same c.args.memories.now c.ready_all.new.memories d t (c.ready_all.ensures.same d))

pub add_words-requires : goal.add_words-requires
add_words-requires g c = omega (arith, c.in-Ok-put_words.ensures.reworded.room, c.requires.at.components, c.requires.wide.each.other, ap length c.clear_all.ensures, length-replicate (length c.args.worded.now) false, ap length c.as_slice.ensures.value)

pub add-requires : goal.add-requires
add-requires g c =
    long_of c.args.worded.now c.clear_all.new.self c.add_words.new.self c.as_slice.result.now c.clear_all.ensures c.add_words.ensures ∙ c.requires.wide.each.other ∙ sym c.ready_all.ensures.each.marked ∙ sym c.carry_all.ensures.many.marked

pub returns-clause-wide : goal.returns-clause-wide
returns-clause-wide g c =
    let e = c.ready_all.ensures.each in
    let put = c.put_memories.ensures in
    record {
      each = record {
        each = record {
          lists = c.carry_all.ensures.many.lists ∙ put.width ∙ e.lists;
          places = put.len ∙ e.places;
          marked = long_union c.carry_all.new.changes c.add_words.new.self c.add.new.self c.add.ensures ∙ c.carry_all.ensures.many.marked ∙ e.marked;
        };
        other = long_of c.args.worded.now c.clear_all.new.self c.add_words.new.self c.as_slice.result.now c.clear_all.ensures c.add_words.ensures ∙ c.requires.wide.each.other;
      };
      sets = c.find_sets.ensures.wide;
    }

pub returns-clause-put : goal.returns-clause-put
returns-clause-put g c =
    let e = c.find_sets.ensures in
    let written = c.find_sets.new.sets.written in
    let unwritten = c.find_sets.new.sets.unwritten in
    let has = λ (n : ℕ). g.M.WholeRow.has_written c.args.step.now c.args.slots.now n in
    let set = c.args.set.now in
    let C = g.G.Grid.codec in
    let W = g.M.WholeRow in
    let row = c.args.row.now in
    let t = c.args.cycle in
    let m0 = c.args.memories.now in
    let m1 = c.ready_all.new.memories in
    let m2 = c.put_memories.new.memories in
    let m3 = c.carry_all.new.memories in
    let each = c.ready_all.ensures.each in
    let ready = c.in-Ok.ensures in
    let put = c.put_memories.ensures in
    let carried = c.carry_all.ensures in
    let ok = c.in-Ok-put_words.ensures in
    let marks2 = c.carry_all.new.changes in
    let worded = c.args.worded.now in
    let worded1 = c.add_words.new.self in
    let marks3 = c.add.new.self in
    let long : length worded1 ≡ length worded = long_of worded c.clear_all.new.self worded1 c.as_slice.result.now c.clear_all.ensures c.add_words.ensures in
    let wide : length worded ≡ length set = c.requires.wide.each.other ∙ sym c.requires.at.components in
    let wide2 : length marks2 ≡ length set = carried.many.marked ∙ each.marked ∙ sym c.requires.at.components in
    let bit = λ (d : ℕ) (h : d < length worded). marks_of worded c.clear_all.new.self worded1 c.as_slice.result.now c.clear_all.ensures c.add_words.ensures d h ∙ ap (λ (ws : List ℕ). is_in ws d) c.as_slice.ensures.value in
    let same = λ (d u : ℕ). memory_same m0 m1 d u (c.ready_all.ensures.same d) in
    let out = λ (d : ℕ) (a : is_awake set d ≡ false). is_out set written unwritten has e.wide.written e.wide.unwritten e.written e.unwritten d a in
    let kept = λ (d u : ℕ) (a : is_awake set d ≡ false). memory_same m2 m3 d u (ap (λ x. x.begun) (carried.others d (out d a).1).0) ∙ put.others d u (ready.unmarked d (out d a).0) in
    record {
      told = λ d a. c.are_told.ensures d (omega (arith, awake_within set d a, c.len.ensures));
      words = ok.put;
      memory = λ d a.
          by_writing set written unwritten has e.wide.written e.wide.unwritten e.written e.unwritten d a
          (λ w n. memory_same m2 m3 d t (ap (λ x. x.begun) (carried.others d n).0)
          ∙ by_mark (is_awake c.ready_all.new.changes d) _ _ (λ k. put.put d k ∙ (ready.ready d w).is_value k) (λ k. put.others d t k ∙ (ready.ready d w).marked.0 k))
          (λ u n w. carried.here d u ∙ put.others d (t - 1) (ready.unmarked d w) ∙ same d (t - 1) ∙ c.requires.kept d a n);
      others = λ u d a. kept d u a ∙ same d u;
      other_cycles = λ u d h n some.
          by_part (is_awake set d) _ _
          (λ s. by_end (cases_lt u c.last_held-end.result) (λ l. carried.cycles d u l n ∙ put.cycles d u l n) (λ l. some (c.last_held-end.ensures.none u d l s)))
          (λ s. kept d u s)
          ∙ same d u;
      tells = λ d a.
          let h = awake_within set d a in
          let k : d < length worded = omega (arith, h, wide) in
          both_told (is_awake marks2 d) (is_awake worded1 d) (is_awake marks3 d)
          (words_at c.args.rows.now.rows t d ≡ C.words (W.state row d)) (memory_at m0 d t ≡ C.memory (W.state row d))
          (joined_at marks2 worded1 marks3 c.add.ensures d (omega (arith, h, wide2)))
          (by_writing set written unwritten has e.wide.written e.wide.unwritten e.written e.unwritten d a
          (λ w n. (let f = (carried.others d n).1 in let q = marked_before m0 m1 d t (is_awake c.ready_all.new.changes d) (C.memory (W.state row d)) (c.ready_all.ensures.same d) (ready.ready d w).marked in (λ p. q.0 (sym f ∙ p), λ p. f ∙ q.1 p)))
          (λ u n w.
          let at = λ (v : ℕ). put.others d v (ready.unmarked d w) ∙ same d v in
          let before = at (t - 1) ∙ c.requires.kept d a n in
          let q = carried.marked d u in
          (λ p. sym (at t) ∙ q.0 p ∙ before, λ p. q.1 (at t ∙ p ∙ sym before))))
          (λ p q. (ok.reworded.changed d h (sym (bit d k) ∙ p)).1 q)
          (λ p. ok.reworded.same d a (sym (bit d k) ∙ p));
      unmarked = λ d a.
          neither_marked marks2 worded1 marks3 c.add.ensures d ((carried.others d (out d a).1).1 ∙ ready.unmarked d (out d a).0)
          (λ h. (let k : d < length worded = omega (arith, h, wide, wide2) in not_so _ (λ p. true≢false (sym (ok.reworded.changed d (omega (arith, k, wide)) (sym (bit d k) ∙ p)).0 ∙ a))));
      same_words = λ d a.
          by_part (is_awake set d) _ _
          (λ s. ok.put.put d s ∙ sym (ok.reworded.same d s (sym (bit d (omega (arith, awake_within set d s, wide))) ∙ a)))
          (λ s. ok.put.others t d s);
      among = λ d a. joined_at marks2 worded1 marks3 c.add.ensures d (omega (arith, awake_within worded1 d a, long, wide, wide2)) ∙ or_right _ _ a;
    }
  where
    by_end : {X : Type 0} {u end : ℕ} {x y : X} → (u < end) ⊎ (end ≤ u) → (u < end → x ≡ y) → (end ≤ u → ⊥) → x ≡ y
    by_end (inl h) before past = before h
    by_end (inr h) before past = absurd (past h)
