-- Splitting a seat keeps the rule, and so does joining one into another.
use Rattle.std.proofs.Common.{◌≡◌, ◌≢◌, ⊎_elim, ℕ, ◌+◌, ◌-◌, ◌<◌, ◌≤◌, true, false, List, [], ◌∷◌, ◌++◌, length, set, cond, length-append, lit≤, sym, refl, ap, ◌∙◌, subst, arith, eq-eqb, ne_eqb, eqb}
use mathlib.Core.Option.{some}
use lib.ListN.{get_elem?}
use Rattle.std.proofs.lemmas.List.Sums.{sum_by_push}
use Rattle.atomic_table.specs.Table.{Joins, Splits}
use Rattle.atomic_table.proofs.Lists.{set_else, set_again, at_snoc}
use Rattle.bench_core.specs.declared.noted.Noted.{Noted}
use Rattle.shared_bench.specs.Legal.{has, merge}
use Rattle.shared_bench.specs.declared.view.View.{View}
use Rattle.shared_bench.specs.declared.view.Opening.{Opening}
use Rattle.shared_bench.specs.declared.view.Stage.{Stage}
use Rattle.shared_bench.specs.declared.view.Stage.TheVariants.{Idle, Waiting, Serving, Filling}
use Rattle.shared_bench.specs.Rule.{World, Queue, Kept, Fits, StageFits, IsServer, tickets, many, live, journal_of, opened_of}
use Rattle.shared_bench.specs.Turn.{stage_of, joined, nobody, newcomer}
use Rattle.shared_bench.proofs.Seats.{seats_stay, sum_set}
use Rattle.shared_bench.proofs.Turns.{stage_held, stage_seen}
use Rattle.shared_bench.proofs.Journals.{bool_cases, entries_nobody, entries_merge, has_append, distinct_append}

pub splits : (k : Opening) (id : ℕ) (v : View) → Splits (Kept k) id v v (newcomer v)
splits k id v s kept sits =
    let w = kept.0 in
    let vs = kept.1 in
    let r = kept.3 in
    let u : View = newcomer v in
    let here : get_elem? vs id ≡ some v = rw kept.2 at sits in
    let again : set s.views id v ≡ vs = rw kept.2 (set_again vs id v here) in
    let f : Fits k w id v = r.each id v here in
    let sums = sum_by_push tickets vs u in
    let manys = sum_by_push many vs u in
    let mine : (j : ℕ) → Fits k w j u = (λ j. record {
      knows = record { opened = f.knows.opened; heard = f.knows.heard; distinct = tt; own = sym (entries_nobody (length (opened_of k)) w.since) };
      goes_on = f.goes_on;
      spent = f.spent;
      owns = λ n h. absurd (let no : false ≡ true = h in cc);
      theirs = λ n h. (f.owns n h).2;
      room = (omega arith, λ h. absurd (omega arith));
      stage = tt;
    }) in (
      w,
      vs ++ u ∷ [],
      (λ i. record { words = (kept.2 i).words; homes = (kept.2 i).homes; views = again i ++ u ∷ [] }),
      record {
        sound = r.sound;
        in_all = let a = r.in_all in omega arith;
        drawn = let a = r.drawn in omega arith;
        home = r.home;
        each = λ j x there. ⊎_elim (λ (t : get_elem? vs j ≡ some x). r.each j x t)
            (λ (t : u ≡ x). subst (λ (x : View). Fits k w j x) t (mine j))
            (at_snoc vs u x j there);
      },
    )

-- ---- joining

-- what was a's is b's
abbrev moved : (ℕ → ℕ) → ℕ → ℕ → ℕ → ℕ
moved f a b n = cond (eqb (f n) a) b (f n)

moved_to : (f : ℕ → ℕ) (a b n : ℕ) → f n ≡ a → moved f a b n ≡ b
moved_to f a b n e = ap (λ t. cond t b (f n)) (eq-eqb (f n) a e)

moved_not : (f : ℕ → ℕ) (a b n : ℕ) → f n ≢ a → moved f a b n ≡ f n
moved_not f a b n ne = ap (λ t. cond t b (f n)) (ne_eqb (f n) a ne)

-- another's goes to no one else
moved_past : (f : ℕ → ℕ) (a b c n : ℕ) → c ≢ a → f n ≡ c → moved f a b n ≡ c
moved_past f a b c n ne e = moved_not f a b n (λ h. ne (sym e ∙ h)) ∙ e

abbrev united : World → ℕ → ℕ → World
united w other id = record w { queue = record w.queue { holder = moved w.holder other id }; owner = moved w.owner other id }

module _ (k : Opening) (since : List Noted) (q : Queue) (id other : ℕ) where
  stage_beside : (j : ℕ) → j ≢ other → (seen : List Noted) (st : Stage) → StageFits k since q j seen st
      → StageFits k since (record q { holder = moved q.holder other id }) j seen st
  stage_beside j ne seen st f = stage_held k since seen q q.issued (moved q.holder other id) j j (omega arith) (λ t _ is. moved_past q.holder other id j t ne is) st f

  -- of two stages the first that has a ticket, where the second is the other's and has no turn
  stage_both : id ≢ other → (seen seen' : List Noted) (st st' : Stage) → (IsServer st' → ⊥) → StageFits k since q id seen st
      → StageFits k since q other seen' st' → StageFits k since (record q { holder = moved q.holder other id }) id seen (stage_of st st')
  stage_both ne seen seen' Idle st' not f g =
      stage_held k since seen q q.issued (moved q.holder other id) other id (omega arith) (λ t _ is. moved_to q.holder other id t is) st'
      (stage_seen k since q other seen' seen st' not g)
  stage_both ne seen seen' (Waiting t) st' not f g = stage_beside id ne seen (Waiting t) f
  stage_both ne seen seen' (Serving t met) st' not f g = stage_beside id ne seen (Serving t met) f
  stage_both ne seen seen' (Filling t met) st' not f g = stage_beside id ne seen (Filling t met) f

live_one : (st : Stage) → live st ≤ 1
live_one Idle = omega arith
live_one _ = omega arith

live_of : (st st' : Stage) → (live st ≤ live (stage_of st st')) × (live st' ≤ live (stage_of st st')) × (live (stage_of st st') ≤ live st + live st')
live_of Idle st' = omega arith
live_of _ st' = omega (arith, live_one st')

-- the tickets and numbers of both: a, b and c are what is live of the two and of the joined view
joined_room : (a b c p q m n : ℕ) → a ≤ c → b ≤ c → c ≤ a + b → a + p ≤ m → b + q ≤ n → (0 < m → p < m) → (0 < n → q < n) → 0 < m + n
    → p + q + (a + b - c) < m + n
joined_room a b c p q m n ac bc cab am bn pm qn more = grind arith

pub joins : (k : Opening) (id : ℕ) (v : View) (other : ℕ) (u : View) → (IsServer u.stage → ⊥) → Joins (Kept k) id v other u (joined v u) nobody
joins k id v other u not s kept sits apart other_sits =
    let w = kept.0 in
    let vs = kept.1 in
    let r = kept.3 in
    let w' : World = united w other id in
    let both : View = joined v u in
    let at_id : get_elem? vs id ≡ some v = rw kept.2 at sits in
    let at_other : get_elem? (set vs id both) other ≡ some u = rw kept.2 at other_sits in
    let f : Fits k w id v = r.each id v at_id in
    let g : Fits k w other u = r.each other u (sym (set_else vs id other both apart) ∙ at_other) in
    let sums = sum_set tickets vs id v both at_id in
    let sums2 = sum_set tickets (set vs id both) other u nobody at_other in
    let manys = sum_set many vs id v both at_id in
    let manys2 = sum_set many (set vs id both) other u nobody at_other in
    let l = live_of v.stage u.stage in
    let room_v = f.room.0 in
    let room_u = g.room.0 in
    let more = joined_room (live v.stage) (live u.stage) (live both.stage) v.lost u.lost (many v) (many u) l.0 l.1 l.2 room_v room_u f.room.1 g.room.1 in
    let same_many : many both ≡ many v + many u = length-append v.numbers u.numbers in
    let none_common : (a : ℕ) → has a v.numbers ≡ true → has a u.numbers ≡ true → ⊥ = (λ a h i. apart (sym (g.owns a i).0 ∙ (f.owns a h).0)) in
    let mine : Fits k w' id both = record {
      knows = record {
        opened = f.knows.opened;
        heard = g.goes_on;
        distinct = distinct_append v.numbers u.numbers f.knows.distinct g.knows.distinct none_common;
        own = (λ i. merge (f.knows.own i) (g.knows.own i)) ∙ sym (entries_merge v.numbers u.numbers (length (opened_of k)) w.since none_common);
      };
      goes_on = f.goes_on;
      spent = λ e. ⊎_elim (λ (t : v.spent ≡ true). f.spent t) (λ (t : v.spent ≡ false). g.spent (rw t at e)) (bool_cases v.spent);
      owns = λ n h. ⊎_elim
          (λ (t : has n v.numbers ≡ true). let o = f.owns n t in (moved_past w.owner other id id n (λ e. apart (sym e)) o.0, o.1, o.2))
          (λ (t : has n v.numbers ≡ false). let o = g.owns n (rw (has_append n v.numbers u.numbers, t) at h) in (moved_to w.owner other id n o.0, o.1, o.2))
          (bool_cases (has n v.numbers));
      theirs = f.theirs;
      room = (omega arith, λ h. let lost = more (omega arith) in omega arith);
      stage = stage_both k w.since w.queue id other (λ e. apart (sym e)) v.seen u.seen v.stage u.stage not f.stage g.stage;
    } in
    let gone : Fits k w' other nobody = record {
      knows = record {
        opened = λ e. absurd (let no : true ≡ false = e in cc);
        heard = (journal_of k w.since, refl);
        distinct = tt;
        own = sym (entries_nobody (length (opened_of k)) w.since);
      };
      goes_on = (journal_of k w.since, refl);
      spent = λ e. absurd (let no : false ≡ true = e in cc);
      owns = λ n h. absurd (let no : false ≡ true = h in cc);
      theirs = λ n h. absurd (let no : false ≡ true = h in cc);
      room = (lit≤ tt, λ h. absurd (omega arith));
      stage = tt;
    } in (
      w',
      set (set vs id both) other nobody,
      (λ i. record { words = (kept.2 i).words; homes = (kept.2 i).homes; views = set (set (kept.2 i).views id both) other nobody }),
      record {
        sound = r.sound;
        in_all = let a = r.in_all in let b : tickets nobody ≡ 0 = refl in omega arith;
        drawn = let a = r.drawn in let b : many nobody ≡ 0 = refl in omega arith;
        home = r.home;
        each = seats_stay (λ j x. Fits k w' j x) (set vs id both) other nobody gone
            (λ j x ne there. seats_stay (λ j x. j ≢ other → Fits k w' j x) vs id both (λ _. mine)
            (λ j x _ there_x ne. let h = r.each j x there_x in record {
              knows = h.knows;
              goes_on = h.goes_on;
              spent = h.spent;
              owns = λ n e. let o = h.owns n e in (moved_past w.owner other id j n ne o.0, o.1, o.2);
              theirs = h.theirs;
              room = h.room;
              stage = stage_beside k w.since w.queue id other j ne x.seen x.stage h.stage;
            }) j x there ne);
      },
    )
