-- Drawing a number keeps the rule.
use Rattle.std.proofs.Common.{◌≡◌, ◌≢◌, ⊎_elim, ℕ, zero, suc, ◌<◌, ◌≤◌, true, false, [], length, set, sym, refl, ap, ◌∙◌, arith, eq-eqb, ne_eqb, bit_or, w64}
use Rattle.std.proofs.lemmas.Nat.Bits.{bit_at_set_same, bit_at_set_other, bit_at-zero, bit_at_or, bit_at-lt, same_from_bits}
use mathlib.Core.Option.{none}
use mathlib.Core.Logic.{dite}
use native.Mathlib.Decide.{ℕ_discrete}
use Rattle.atomic_table.specs.Table.{step, Allows, keeps}
use Rattle.atomic_table.proofs.Lists.{set_again}
use Rattle.shared_bench.specs.declared.view.View.{View}
use Rattle.shared_bench.specs.declared.view.Opening.{Opening}
use Rattle.shared_bench.specs.declared.view.Stage.TheVariants.{Idle}
use Rattle.shared_bench.specs.Legal.{has}
use Rattle.shared_bench.specs.Rule.{World, Kept, IsSound, Fits, state_of, count_bits, bit_of, tickets, many, journal_of, opened_of}
use Rattle.shared_bench.specs.Turn.{numbered, IsBit, draws}
use Rattle.shared_bench.proofs.Seats.{Mine, allows, one_step, put, put_here, put_other}
use Rattle.shared_bench.proofs.Turns.{has_one, legal_at}
use Rattle.shared_bench.proofs.Journals.{bool_cases, drawn_more, entries_nobody, entries_undrawn}

-- where each bit of x is one of y's, and y has the bit n and x doesn't, more of the lowest bits are set
count_bits_more : (k x y n : ℕ) → bit_of x n < bit_of y n → ((i : ℕ) → bit_of x i ≤ bit_of y i)
    → (count_bits k x ≤ count_bits k y) × (n < k → count_bits k x < count_bits k y)
unfolding count_bits
count_bits_more zero x y n new more = omega arith
count_bits_more (suc k) x y n new more =
    let c = more k in
    let h = count_bits_more k x y n new more in (
      omega arith,
      λ below. dite (ℕ_discrete n k) (λ e. let d : bit_of x k < bit_of y k = rw e at new in omega arith) (λ ne. let d = h.1 (omega arith) in omega arith),
    )

-- which bit it is
same_bit : (b n m : ℕ) → IsBit b n → IsBit b m → n ≡ m
same_bit b n m p q = dite (ℕ_discrete n m) (λ e. e) (λ ne. absurd (
    let one = rw (← p.1) at (bit_at_set_same w64 0 n p.0) in
    let other = rw (← q.1) at (bit_at_set_other w64 0 m q.0 n ne) in
    omega (arith, one, other, bit_at-zero n)))

-- a bit that is set already is set again
set_twice : (x b n : ℕ) → IsBit b n → bit_of x n ≢ 0 → bit_or x b ≡ x
set_twice x b n bit was_set = same_from_bits (bit_or x b) x (λ i. rw bit.1 (dite (ℕ_discrete i n)
    (λ e. rw e (let a = bit_at_set_same w64 x n bit.0 in let b = bit_at-lt x n in omega arith))
    (λ ne. bit_at_set_other w64 x n bit.0 i ne)))

pub draws_one : (k : Opening) (slots id b n : ℕ) (me : Mine) → IsBit b n → n < me.0.seats → me.0.stage ≡ Idle → me.0.numbers ≡ [] → me.0.gone ≡ false
    → Allows (Kept k) slots id me 3 (λ x. bit_or x b) (draws (step slots 3 b 0 none) me)
draws_one k slots id b n me bit below idle bare here = allows k slots id me 3 (λ x. bit_or x b) (draws (step slots 3 b 0 none) me) (λ w vs r sits.
    let v : View = me.0 in
    let v' : View = numbered n v in
    let x : ℕ = w.bits in
    let y : ℕ = bit_or x b in
    let base : ℕ = length (opened_of k) in
    let f : Fits k w id v = r.each id v sits in
    dite (ℕ_discrete (bit_of x n) 0)
    (λ unset.
    let w' : World = record w { bits = y; owner = put w.owner n id } in
    let more : (i : ℕ) → bit_of x i ≤ bit_of y i = (λ i. let a = bit_at_or x b i in omega arith) in
    let still : (i : ℕ) → bit_of x i ≡ 1 → bit_of y i ≡ 1 = (λ i e. let a = more i in let b = bit_at-lt y i in omega arith) in
    let now : bit_of y n ≡ 1 = rw bit.1 (bit_at_set_same w64 x n bit.0) in
    let grows = count_bits_more 64 x y n (omega arith) more in
    let one_more = grows.1 bit.0 in
    let none_before : many v ≡ 0 = ap length bare in
    let no_tickets : tickets v ≤ 0 = (let a = f.room.0 in omega arith) in
    let drawn = drawn_more x y w.since still r.sound.drawn in
    let sound : IsSound k w.since y = record { short = r.sound.short; accepted = r.sound.accepted; authors = r.sound.authors; drawn = drawn } in
    let mine : Fits k w' id v' = record {
      knows = record {
        opened = f.knows.opened;
        heard = f.knows.heard;
        distinct = (refl, tt);
        own = (rw bare at f.knows.own) ∙ (entries_nobody base w.since ∙ sym (entries_undrawn x n base w.since r.sound.drawn unset));
      };
      goes_on = f.goes_on;
      spent = f.spent;
      owns = λ m h. rw (has_one m n h) (put_here w.owner n id, rw (← (f.knows.opened here).1) below, now);
      theirs = λ m h. still m (f.theirs m h);
      room = (omega arith, λ _. omega arith);
      stage = f.stage;
    } in
    let others : has n v.others ≡ false =
    ⊎_elim (λ (t : has n v.others ≡ true). absurd (let a = f.theirs n t in omega arith)) (λ (h : has n v.others ≡ false). h) (bool_cases (has n v.others)) in (
      v',
      keeps,
      tt,
      (
        w',
        set vs id v',
        refl,
        one_step k w w' vs id v v' r sits sound r.home refl (omega arith) mine
            (λ j u _ g. record {
              knows = g.knows;
              goes_on = g.goes_on;
              spent = g.spent;
              owns = λ m h. let o = g.owns m h in (put_other w.owner n id m (λ e. let a : bit_of x n ≡ 1 = rw e at o.2 in omega arith) ∙ o.0, o.1, still m o.2);
              theirs = λ m h. still m (g.theirs m h);
              room = g.room;
              stage = g.stage;
            }),
      ),
      λ m other. rw (same_bit b m n other bit, eq-eqb (bit_of x n) 0 unset) (refl, (journal_of k w.since, legal_at k w' id v' sound here mine), others),
    ))
    (λ was_set. (
      v,
      keeps,
      tt,
      (w, vs, (λ i. state_of k (record w { bits = set_twice x b n bit was_set i }) (set_again vs id v sits i)), r),
      λ m other. rw (same_bit b m n other bit, ne_eqb (bit_of x n) 0 was_set) refl,
    )))
