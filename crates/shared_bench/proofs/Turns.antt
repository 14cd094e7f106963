-- Each step keeps the rule.
use Rattle.std.proofs.Common.{◌≡◌, ◌≢◌, ◌⊎◌, inl, inr, ⊎_elim, ℕ, zero, suc, ◌+◌, ◌%◌, ◌^◌, ◌<◌, ◌≤◌, true, false, List, [], ◌∷◌, ◌++◌, length, set, replicate, append-nil, lit≤, lit<, sym, refl, ap, ◌∙◌, subst, arith, eq-eqb, ne_eqb, Option, Some, None}
use Rattle.std.proofs.Math.Nat.{mod-add-mod}
use mathlib.Core.Option.{some, none}
use mathlib.Core.Option as maybe
use mathlib.Core.Logic.{dite}
use native.Mathlib.Decide.{ℕ_discrete}
use lib.ListN.{get_elem?}
use Rattle.atomic_table.specs.Table.{step, Allows, Act, keeps, opening}
use Rattle.atomic_table.proofs.Lists.{set_again, one_turn}
use Rattle.bench_core.specs.declared.noted.Noted.{Noted}
use Rattle.bench_core.specs.Shown.{Shown}
use Rattle.shared_bench.specs.Legal.{has}
use Rattle.shared_bench.specs.Answers.{project_at}
use Rattle.shared_bench.specs.declared.view.View.{View}
use Rattle.shared_bench.specs.declared.view.Opening.{Opening}
use Rattle.shared_bench.specs.declared.view.Stage.{Stage}
use Rattle.shared_bench.specs.declared.view.Stage.TheVariants.{Idle, Waiting, Serving, Filling}
use Rattle.shared_bench.specs.Rule.{World, Queue, Kept, Obeys, IsSound, Fits, StageFits, AtHome, first_project, spent_of, IsServer, state_of, count_bits, tickets, many, live, journal_of, opened_of, first_view}
use Rattle.shared_bench.specs.Turn.{IsProjectIn, MayPass, staged, took, entered, HasTurn, Comes, comes, fills, left_with, leaves, IsLegalIn, looked, lengths}
use Rattle.shared_bench.proofs.Journals.{project_since}
use Rattle.shared_bench.proofs.Seats.{Mine, allows, one_step, only_one, few_out, put, put_here, put_other, starts_refl}

-- the journal is legal for each view
pub legal_at : (k : Opening) (w : World) (j : ℕ) (v : View) → IsSound k w.since w.bits → v.gone ≡ false → Fits k w j v → IsLegalIn v (journal_of k w.since)
legal_at k w j v sound here f =
    let o = f.knows.opened here in
    rw (o.0, o.1, o.2) (record { since = w.since; begins = refl; accepted = sound.accepted; goes_on = f.goes_on; own = f.knows.own; authors = sound.authors })

-- what a seat knows, where only the tickets and the slot change
queue_fits : (k : Opening) (w : World) (q : Queue) (j : ℕ) (u : View) → (spent_of w.last ≡ true → spent_of q.last ≡ true) → StageFits k w.since q j u.seen u.stage
    → Fits k w j u → Fits k (record w { queue = q }) j u
queue_fits k w q j u clocks stage g = record { knows = g.knows; goes_on = g.goes_on; spent = λ e. clocks (g.spent e); owns = g.owns; theirs = g.theirs; room = g.room; stage = stage }

-- ---- a ticket

-- a seat's stage, where tickets are handed out or change hands
pub stage_held : (k : Opening) (since seen : List Noted) (q : Queue) (issued : ℕ) (holder : ℕ → ℕ) (j j' : ℕ) → q.issued ≤ issued
    → ((t : ℕ) → t < q.issued → q.holder t ≡ j → holder t ≡ j')
    → (st : Stage) → StageFits k since q j seen st → StageFits k since (record q { issued = issued; holder = holder }) j' seen st
stage_held k since seen q issued holder j j' more moves Idle f = tt
stage_held k since seen q issued holder j j' more moves (Waiting t) f = let a = f.1 in (f.0, omega arith, moves t f.1 f.2, f.3)
stage_held k since seen q issued holder j j' more moves _ f = let a = f.1 in (f.0, omega arith, moves _ f.1 f.2, f.3, f.4, f.5)

pub takes : (k : Opening) (slots id : ℕ) (me : Mine) → me.0.stage ≡ Idle → 0 < many me.0
    → Allows (Kept k) slots id me 1 (λ n. (n + 1) % 2 ^ 64) (took (step slots 1 1 0 none) me)
takes k slots id me idle numbered = allows k slots id me 1 (λ n. (n + 1) % 2 ^ 64) (took (step slots 1 1 0 none) me) (λ w vs r sits.
    let v : View = me.0 in
    let v' : View = staged (Waiting w.issued) v in
    let holder = put w.holder w.issued id in
    let w' : World = record w { queue = record w.queue { issued = w.issued + 1; holder = holder } } in
    let f : Fits k w id v = r.each id v sits in
    let few = f.room.1 numbered in
    let none_live : live v.stage ≡ 0 = ap live idle in
    let low : w.served ≤ w.issued = (let a = r.in_all in omega arith) in
    let home : w.issued ≡ w.served → AtHome k w.since w.queue = (λ e. ⊎_elim (λ h. h) (λ h. absurd (omega arith)) r.home) in
    let stage : StageFits k w.since w'.queue id v.seen v'.stage = (low, omega arith, put_here w.holder w.issued id, home) in
    let mine : Fits k w' id v' = record { knows = f.knows; goes_on = f.goes_on; spent = f.spent; owns = f.owns; theirs = f.theirs; room = (omega arith, f.room.1); stage = stage } in
    let held : (j t : ℕ) → t < w.issued → w.holder t ≡ j → holder t ≡ j = (λ j t out is. put_other w.holder w.issued id t (λ e. omega arith) ∙ is) in
    let others : (j : ℕ) (u : View) → Fits k w j u → Fits k w' j u = (λ j u g.
    queue_fits k w w'.queue j u (λ e. e) (stage_held k w.since u.seen w.queue (w.issued + 1) holder j j (omega arith) (held j) u.stage g.stage) g) in (
      v',
      keeps,
      tt,
      (
        w',
        set vs id v',
        (λ i. record {
          words = length (journal_of k w.since) ∷ mod-add-mod w.issued (2 ^ 64) 1 i ∷ w.served % 2 ^ 64 ∷ w.bits ∷ [];
          homes = w.slot ∷ [];
          views = set vs id v';
        }),
        one_step k w w' vs id v v' r sits r.sound (inr (omega arith)) (omega arith) (omega arith) mine (λ j u _ g. others j u g),
      ),
      (w.issued, refl, refl),
    ))

-- ---- the turn

-- what a seat knows of its ticket stays so while the seat id has the turn, and where it passes it
pub stage_aside : (k : Opening) (since since' seen : List Noted) (q : Queue) (served : ℕ) (slot : maybe.Option (Option Shown)) (last : Shown) (id j : ℕ)
    → q.holder q.served ≡ id → j ≢ id → served ≤ q.served + 1
    → (q.served < served → AtHome k since' (record q { served = served; slot = slot; last = last }))
    → (st : Stage) → StageFits k since q j seen st → StageFits k since' (record q { served = served; slot = slot; last = last }) j seen st
stage_aside k since since' seen q served slot last id j turn other next home Idle f = tt
stage_aside k since since' seen q served slot last id j turn other next home (Waiting t) f =
    let a = f.0 in
    let later : t ≢ q.served = (λ e. other (sym f.2 ∙ (ap q.holder e ∙ turn))) in
    (omega arith, f.1, f.2, λ e. home (omega arith))
stage_aside k since since' seen q served slot last id j turn other next home _ f = absurd (other (sym f.2 ∙ (ap q.holder f.0 ∙ turn)))

-- the world once the seat that has the turn has taken what lies in the slot, or has passed the turn
abbrev at_turn : World → ℕ → maybe.Option (Option Shown) → Shown → World
at_turn w served slot last = record w { queue = record w.queue { served = served; slot = slot; last = last } }

turn_step : (k : Opening) (w : World) (served : ℕ) (slot : maybe.Option (Option Shown)) (last : Shown) (vs : List View) (id : ℕ) (v v' : View)
    → Obeys k w vs → get_elem? vs id ≡ some v → w.holder w.served ≡ id
    → served ≤ w.served + 1 → (w.served < served → AtHome k w.since (at_turn w served slot last).queue)
    → AtHome k w.since (at_turn w served slot last).queue ⊎ (served < w.issued) → (spent_of w.last ≡ true → spent_of last ≡ true)
    → w.served + tickets v ≡ served + tickets v' → many v' ≡ many v → Fits k (at_turn w served slot last) id v'
    → Obeys k (at_turn w served slot last) (set vs id v')
turn_step k w served slot last vs id v v' r sits turn next passed home clocks same same_many mine =
    one_step k w (at_turn w served slot last) vs id v v' r sits r.sound home (omega arith) (omega arith) mine
    (λ j u other g. queue_fits k w (at_turn w served slot last).queue j u clocks (stage_aside k w.since w.since u.seen w.queue served slot last id j turn other next passed u.stage g.stage) g)

-- the seat id takes what lies in the slot, and its stage becomes a server's
sits_down : (k : Opening) (w : World) (vs : List View) (id t : ℕ) (v v' : View) → Obeys k w vs → get_elem? vs id ≡ some v → t ≡ w.served
    → t < w.issued → w.holder t ≡ id → tickets v' ≡ tickets v → many v' ≡ many v
    → Fits k (at_turn w w.served none w.last) id v' → Obeys k (at_turn w w.served none w.last) (set vs id v')
sits_down k w vs id t v v' r sits now out held same same_many mine =
    turn_step k w w.served none w.last vs id v v' r sits (ap w.holder (sym now) ∙ held) (omega arith)
    (λ h. absurd (omega arith)) (inr (omega arith)) (λ e. e) (omega arith) same_many mine

-- the ticket that is served is the seat's own
comes_now : (m m' : Mine) (r t : ℕ) → m.0.stage ≡ Waiting t → r ≡ t % 2 ^ 64 → HasTurn t m m' → Comes m r m' m.0.stage
comes_now m m' r t is hit h = rw (is, eq-eqb r (t % 2 ^ 64) hit) h

pub comes_in : (k : Opening) (slots id : ℕ) (me : Mine) (t : ℕ) → me.0.stage ≡ Waiting t → me.0.gone ≡ false
    → Allows (Kept k) slots id me 2 (λ n. n) (comes (step slots 2 0 0 none) me)
comes_in k slots id me t is here = allows k slots id me 2 (λ n. n) (comes (step slots 2 0 0 none) me) (λ w vs r sits.
    let v : View = me.0 in
    let f : Fits k w id v = r.each id v sits in
    let waits : StageFits k w.since w.queue id v.seen (Waiting t) = rw is at f.stage in
    dite (ℕ_discrete (w.served % 2 ^ 64) (t % 2 ^ 64))
    (λ hit.
    let few = few_out k w vs r in
    let a = waits.0 in
    let b = waits.1 in
    let now : w.served ≡ t = one_turn w.served t (2 ^ 64) a (omega arith) hit in
    let h = waits.3 (sym now) in
    let d : Shown = w.last in
    let v' : View = entered t d v in
    let mine : Fits k (at_turn w w.served none w.last) id v' = record {
      knows = f.knows;
      goes_on = rw h.1 (starts_refl (journal_of k w.since));
      spent = f.spent;
      owns = f.owns;
      theirs = f.theirs;
      room = (rw is at f.room.0, f.room.1);
      stage = (sym now, waits.1, waits.2, refl, h.1, refl);
    } in
    let o = f.knows.opened here in (
      v',
      Act.takes 0 (Some d),
      ap some h.0,
      (
        at_turn w w.served none w.last,
        set vs id v',
        refl,
        sits_down k w vs id t v v' r sits (sym now) b waits.2 (ap (λ (st : Stage). live st + v.lost) (sym is)) refl mine,
      ),
      comes_now me (v', (0, Some d) ∷ me.1) (w.served % 2 ^ 64) t is hit (
        d,
        refl,
        rw h.1 f.goes_on,
        f.spent,
        subst (IsLegalIn v') (sym h.1) (legal_at k (at_turn w w.served none w.last) id v' r.sound here mine),
        h.2 ∙ sym (λ i. project_at (o.2 i) (o.0 i) d.journal),
      ),
    ))
    (λ miss. (
      v,
      keeps,
      tt,
      (w, vs, ap (state_of k w) (set_again vs id v sits), r),
      rw (is, ne_eqb (w.served % 2 ^ 64) (t % 2 ^ 64) miss) refl,
    )))

pub fills_in : (k : Opening) (slots id : ℕ) (me : Mine) (t : ℕ) (met : Shown) → me.0.stage ≡ Filling t met
    → Allows (Kept k) slots id me 2 (λ n. n) (fills (step slots 2 0 0 none) me)
fills_in k slots id me t met is = allows k slots id me 2 (λ n. n) (fills (step slots 2 0 0 none) me) (λ w vs r sits.
    let v : View = me.0 in
    let v' : View = staged (Serving t met) v in
    let f : Fits k w id v = r.each id v sits in
    let fill : StageFits k w.since w.queue id v.seen (Filling t met) = rw is at f.stage in
    let mine : Fits k (at_turn w w.served none w.last) id v' = record {
      knows = f.knows;
      goes_on = f.goes_on;
      spent = f.spent;
      owns = f.owns;
      theirs = f.theirs;
      room = (rw is at f.room.0, f.room.1);
      stage = (fill.0, fill.1, fill.2, refl, fill.4, fill.5);
    } in (
      v',
      Act.takes 0 None,
      ap some fill.3,
      (at_turn w w.served none w.last, set vs id v', refl, sits_down k w vs id t v v' r sits fill.0 fill.1 fill.2 (rw is refl) refl mine),
      rw is refl,
    ))

pub leaves_now : (k : Opening) (slots id : ℕ) (m : Mine) (v : View) (d : Shown) → MayPass v d → m ≡ (v, (0, Some d) ∷ [])
    → Allows (Kept k) slots id m 2 (λ n. (n + 1) % 2 ^ 64) (leaves (step slots 2 1 0 none) m)
leaves_now k slots id m v d may is = rw is (allows k slots id (v, (0, Some d) ∷ []) 2 (λ n. (n + 1) % 2 ^ 64) (leaves (step slots 2 1 0 none) (v, (0, Some d) ∷ []))
    (λ w vs r sits.
    let v' : View = left_with d v in
    let w' : World = at_turn w (w.served + 1) (some (Some d)) d in
    let f : Fits k w id v = r.each id v sits in
    let serves : StageFits k w.since w.queue id v.seen (Serving may.ticket may.met) = rw may.serves at f.stage in
    let was_live : live v.stage ≡ 1 = ap live may.serves in
    let room : (tickets v ≤ many v) × (0 < many v → v.lost < many v) = f.room in
    let o = f.knows.opened may.here in
    let home : AtHome k w.since w'.queue = (refl, may.seen ∙ serves.4, rw (← o.0, ← o.2) may.project) in
    let mine : Fits k w' id v' = record { knows = f.knows; goes_on = f.goes_on; spent = λ e. e; owns = f.owns; theirs = f.theirs; room = (omega arith, room.1); stage = tt } in (
      v',
      Act.gives,
      tt,
      (
        w',
        set vs id v',
        (λ i. record {
          words = length (journal_of k w.since) ∷ w.issued % 2 ^ 64 ∷ mod-add-mod w.served (2 ^ 64) 1 i ∷ w.bits ∷ [];
          homes = some (Some d) ∷ [];
          views = set vs id v';
        }),
        turn_step k w (w.served + 1) (some (Some d)) d vs id v v' r sits (ap w.holder (sym serves.0) ∙ serves.2) (omega arith)
            (λ _. home) (inl home) (λ e. may.spent (ap spent_of serves.5 ∙ e)) (omega arith) refl mine,
      ),
      (refl, (journal_of k w.since, legal_at k w' id v' r.sound may.here mine)),
    )))

-- ---- the length of the journal

pub stage_seen : (k : Opening) (since : List Noted) (q : Queue) (j : ℕ) (seen seen' : List Noted) (st : Stage) → (IsServer st → ⊥)
    → StageFits k since q j seen st → StageFits k since q j seen' st
stage_seen k since q j seen seen' Idle not f = tt
stage_seen k since q j seen seen' (Waiting t) not f = f
stage_seen k since q j seen seen' _ not f = absurd (not tt)

pub lengths_seen : (k : Opening) (slots id : ℕ) (me : Mine) → (IsServer me.0.stage → ⊥) → me.0.gone ≡ false
    → Allows (Kept k) slots id me 0 (λ n. n) (lengths (step slots 0 0 0 none) me)
lengths_seen k slots id me not here = allows k slots id me 0 (λ n. n) (lengths (step slots 0 0 0 none) me) (λ w vs r sits.
    let v : View = me.0 in
    let now : List Noted = journal_of k w.since in
    let v' : View = looked now v in
    let f : Fits k w id v = r.each id v sits in
    let stage = stage_seen k w.since w.queue id v.seen now v.stage not f.stage in
    let mine : Fits k w id v' = record { knows = f.knows; goes_on = starts_refl now; spent = f.spent; owns = f.owns; theirs = f.theirs; room = f.room; stage = stage } in (
      v',
      keeps,
      tt,
      (w, set vs id v', refl, one_step k w w vs id v v' r sits r.sound r.home refl (omega arith) mine (λ j u _ g. g)),
      (now, refl, refl, r.sound.short, f.goes_on, f.knows.heard, f.knows.distinct, (now, legal_at k w id v' r.sound here mine)),
    ))

-- ---- the opening

count_bits_one : (n : ℕ) → 1 ≤ count_bits (suc n) 1
unfolding count_bits
count_bits_one zero = lit≤ tt
count_bits_one (suc n) = let h = count_bits_one n in omega arith

pub has_one : (n m : ℕ) → has n (m ∷ []) ≡ true → n ≡ m
has_one n m e = dite (ℕ_discrete n m) (λ h. h) (λ ne. absurd (let no : false ≡ true = rw (ne_eqb n m ne) at e in cc))

pub opens : (k : Opening) (n : ℕ) → 0 < k.seats → n ≤ 65535 → n ≡ length (opened_of k) → Kept k (opening (n ∷ 1 ∷ 0 ∷ 1 ∷ []) (replicate 1 None) (first_view k))
opens k n some_seat most is =
    let v : View = first_view k in
    let whole : opened_of k ++ [] ≡ opened_of k = append-nil (opened_of k) in
    let queue : Queue = record { served = 0; issued = 1; holder = λ _. 0; slot = some None; last = k.bench.value } in
    let w : World = record { since = []; queue = queue; bits = 1; owner = λ _. 0 } in
    let long : n ≡ length (opened_of k ++ []) = is ∙ ap length (sym whole) in (
      w,
      v ∷ [],
      (λ i. record { words = long i ∷ 1 ∷ 0 ∷ 1 ∷ []; homes = some None ∷ []; views = v ∷ [] }),
      record {
        sound = record { short = rw (← long) most; accepted = tt; authors = tt; drawn = tt };
        in_all = refl;
        drawn = count_bits_one 63;
        home = inr (lit< tt);
        each = only_one (λ j u. Fits k w j u) v record {
          knows = record { opened = λ _. (refl, refl, refl); heard = (opened_of k ++ [], refl); distinct = (refl, tt); own = refl };
          goes_on = ([], refl);
          spent = λ e. absurd (let g : false ≡ true = e in cc);
          owns = λ m h. (refl, rw (has_one m 0 h) some_seat, rw (has_one m 0 h) refl);
          theirs = λ m h. absurd (let no : false ≡ true = h in cc);
          room = (lit≤ tt, λ _. lit< tt);
          stage = (refl, lit< tt, refl, refl, sym whole, refl);
        };
      },
    )

-- the first seat may fill the slot with the bench of the opening
abbrev MayFill : Mine → Shown → Type 0
MayFill m d = ((t : ℕ) × (m.0.stage ≡ Filling t d)) × (m.1 ≡ []) × (d.journal ≡ m.0.seen) × (m.0.gone ≡ false) × IsProjectIn m.0 d

pub fills_first : (k : Opening) (m : Mine) (d : Shown) → m ≡ (first_view k, []) → d ≡ k.bench.value → MayFill m d
fills_first k m d is same =
    let opened = k.bench.value.journal in
    rw (is, same) ((0, refl), refl, refl, refl, sym (ap (project_at (first_project k) opened) (sym (append-nil opened)) ∙ project_since (first_project k) opened []))
