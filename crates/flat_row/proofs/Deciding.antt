-- What a stage decides, label by label.
use Rattle.std.proofs.Common.{◌≡◌, ℕ, zero, suc, ◌-◌, ◌^◌, ◌<◌, Bool, true, false, cond, refl, ap, sym, ◌∙◌, arith}
use Rattle.std.specs.Prelude.{◌==◌, ◌&&◌, ◌||◌, not, min, max, bit_and, bit_or}
use Rattle.std.specs.Int.{bit_at, bit_not, w64}
use Rattle.std.proofs.lemmas.Nat.{and_le_l}
use Rattle.std.proofs.lemmas.Nat.Bits.{bit_at_and, bit_at_or, bit_at_not, bit_at-lt, bit_at-zero}
use Rattle.omega_net.specs.Wires.{bit}
use Rattle.omega_net.specs.Queues.{turn_after}
use Rattle.flat_row.specs.declared.decide.Heads.{Heads}
use Rattle.flat_row.specs.declared.decide.Room.{Room}
use Rattle.flat_row.specs.Labels.{port}
use Rattle.flat_row.specs.Masks.{has, IsSetOf}
use Rattle.omega_net.specs.declared.component.Net.TheVariants.{Low, Comb}
use Rattle.mem_module.specs.MemModule.{chosen, is_net, turn_from}
use Rattle.ref_proc.specs.RefProc.{net_for}
use Rattle.flat_row.specs.Decisions.{asks, takes_from, comes, leaves, TurnsAfter, takes_both, comes_both, leaves_both, served_at, NetsAfter}
use Rattle.flat_row.proofs.Masking.{is_zero, first_port, has_and, has_or, has_not, ArePorts, ports_of, same_first, same_second}

or_false : (a : Bool) → (a || false) ≡ a
or_false true = refl
or_false false = refl

-- the heads that ask for port 0, and for port 1
zeros_at : (heads : Heads) (x : ℕ) → heads.ones < 2 ^ 64 → x < 64
    → has (bit_and heads.any (bit_not w64 heads.ones)) x ≡ (has heads.any x && (asks heads x == 0))
zeros_at heads x small within =
    has_and heads.any (bit_not w64 heads.ones) x
    ∙ ap (λ b. has heads.any x && b) (has_not heads.ones x small within ∙ sym (is_zero (bit x heads.ones) (bit_at-lt heads.ones x)))

ones_at : (heads : Heads) (x : ℕ) → has (bit_and heads.any heads.ones) x ≡ (has heads.any x && (asks heads x == 1))
ones_at heads x = has_and heads.any heads.ones x

-- the queues with room for a message from port 0, and from port 1
room_first : (room : Room) (turn y : ℕ) → turn < 2 ^ 64 → y < 64
    → has (bit_or room.two (bit_and room.one (bit_not w64 turn))) y ≡ takes_from room turn 0 y
room_first room turn y small within =
    has_or room.two (bit_and room.one (bit_not w64 turn)) y
    ∙ ap (λ b. has room.two y || b)
    (has_and room.one (bit_not w64 turn) y
    ∙ ap (λ b. has room.one y && b) (has_not turn y small within ∙ sym (is_zero (bit y turn) (bit_at-lt turn y))))

room_second : (room : Room) (turn y : ℕ) → has (bit_or room.two (bit_and room.one turn)) y ≡ takes_from room turn 1 y
room_second room turn y = has_or room.two (bit_and room.one turn) y ∙ ap (λ b. has room.two y || b) (has_and room.one turn y)

pub from_first : (by : ℕ) (heads : Heads) (room : Room) (turn own other : ℕ) → heads.ones < 2 ^ 64 → turn < 2 ^ 64
    → IsSetOf (λ x. (bit by x == 0) && has (bit_and heads.any (bit_not w64 heads.ones)) x) own
    → IsSetOf (λ x. (bit by x == 1) && has (bit_and heads.any heads.ones) (port by 0 x)) other
    → IsSetOf (comes by heads room turn 0) (bit_and (bit_or own other) (bit_or room.two (bit_and room.one (bit_not w64 turn))))
from_first by heads room turn own other small_ones small_turn f s y within =
    has_and (bit_or own other) _ y
    ∙ ap (λ b. b && has (bit_or room.two (bit_and room.one (bit_not w64 turn))) y) (has_or own other y ∙ by_bit (bit by y) refl (bit_at-lt y by))
    ∙ ap (λ b. (has heads.any (port by 0 y) && (asks heads (port by 0 y) == bit by y)) && b) (room_first room turn y small_turn within)
  where
    by_bit : (t : ℕ) → bit by y ≡ t → t < 2 → (has own y || has other y) ≡ (has heads.any (port by 0 y) && (asks heads (port by 0 y) == bit by y))
    by_bit zero z lt =
        ap (λ b. has own y || b) (s y within ∙ ap (λ n. (n == 1) && has (bit_and heads.any heads.ones) (port by 0 y)) z)
        ∙ or_false (has own y)
        ∙ f y within
        ∙ ap (λ n. (n == 0) && has (bit_and heads.any (bit_not w64 heads.ones)) y) z
        ∙ zeros_at heads y small_ones within
        ∙ ap (λ n. has heads.any y && (asks heads y == n)) (sym z)
        ∙ ap (λ p. has heads.any p && (asks heads p == bit by y)) (sym (same_first by y z))
    by_bit (suc zero) z lt =
        ap (λ b. b || has other y) (f y within ∙ ap (λ n. (n == 0) && has (bit_and heads.any (bit_not w64 heads.ones)) y) z)
        ∙ s y within
        ∙ ap (λ n. (n == 1) && has (bit_and heads.any heads.ones) (port by 0 y)) z
        ∙ ones_at heads (port by 0 y)
        ∙ ap (λ n. has heads.any (port by 0 y) && (asks heads (port by 0 y) == n)) (sym z)
    by_bit (suc (suc t)) z lt = absurd (omega arith)

pub from_second : (by : ℕ) (heads : Heads) (room : Room) (turn own other : ℕ) → by < 6 → heads.ones < 2 ^ 64
    → IsSetOf (λ x. (bit by x == 0) && has (bit_and heads.any (bit_not w64 heads.ones)) (port by 1 x)) other
    → IsSetOf (λ x. (bit by x == 1) && has (bit_and heads.any heads.ones) x) own
    → IsSetOf (comes by heads room turn 1) (bit_and (bit_or other own) (bit_or room.two (bit_and room.one turn)))
from_second by heads room turn own other h small_ones f s y within =
    has_and (bit_or other own) _ y
    ∙ ap (λ b. b && has (bit_or room.two (bit_and room.one turn)) y) (has_or other own y ∙ by_bit (bit by y) refl (bit_at-lt y by))
    ∙ ap (λ b. (has heads.any (port by 1 y) && (asks heads (port by 1 y) == bit by y)) && b) (room_second room turn y)
  where
    by_bit : (t : ℕ) → bit by y ≡ t → t < 2 → (has other y || has own y) ≡ (has heads.any (port by 1 y) && (asks heads (port by 1 y) == bit by y))
    by_bit zero z lt =
        let switch : ArePorts by y = ports_of by y h within in
        ap (λ b. has other y || b) (s y within ∙ ap (λ n. (n == 1) && has (bit_and heads.any heads.ones) y) z)
        ∙ or_false (has other y)
        ∙ f y within
        ∙ ap (λ n. (n == 0) && has (bit_and heads.any (bit_not w64 heads.ones)) (port by 1 y)) z
        ∙ zeros_at heads (port by 1 y) small_ones switch.below
        ∙ ap (λ n. has heads.any (port by 1 y) && (asks heads (port by 1 y) == n)) (sym z)
    by_bit (suc zero) z lt =
        ap (λ b. b || has own y) (f y within ∙ ap (λ n. (n == 0) && has (bit_and heads.any (bit_not w64 heads.ones)) (port by 1 y)) z)
        ∙ s y within
        ∙ ap (λ n. (n == 1) && has (bit_and heads.any heads.ones) y) z
        ∙ ones_at heads y
        ∙ ap (λ n. has heads.any y && (asks heads y == n)) (sym z)
        ∙ ap (λ p. has heads.any p && (asks heads p == bit by y)) (sym (same_second by y z))
    by_bit (suc (suc t)) z lt = absurd (omega arith)

-- the senders, from what came to the queues of their switches
abbrev pub came : ℕ → ℕ → ℕ → ℕ → Bool
came by first second x =
    cond (bit by x == 0) (has first (port by 0 x) || has first (port by 1 x)) (has second (port by 0 x) || has second (port by 1 x))

pub senders : (by first second a b c d : ℕ)
    → IsSetOf (λ x. (bit by x == 0) && has first x) a
    → IsSetOf (λ x. (bit by x == 0) && has first (port by 1 x)) b
    → IsSetOf (λ x. (bit by x == 1) && has second (port by 0 x)) c
    → IsSetOf (λ x. (bit by x == 1) && has second x) d
    → IsSetOf (came by first second) (bit_or (bit_or (bit_or a b) c) d)
senders by first second a b c d p q r s x within =
    has_or (bit_or (bit_or a b) c) d x
    ∙ ap (λ t. t || has d x) (has_or (bit_or a b) c x ∙ ap (λ t. t || has c x) (has_or a b x))
    ∙ by_bit (bit by x) refl (bit_at-lt x by)
  where
    by_bit : (t : ℕ) → bit by x ≡ t → t < 2 → (((has a x || has b x) || has c x) || has d x) ≡ came by first second x
    by_bit zero z lt =
        ap (λ t. ((has a x || has b x) || has c x) || t) (s x within ∙ ap (λ n. (n == 1) && has second x) z)
        ∙ or_false ((has a x || has b x) || has c x)
        ∙ ap (λ t. (has a x || has b x) || t) (r x within ∙ ap (λ n. (n == 1) && has second (port by 0 x)) z)
        ∙ or_false (has a x || has b x)
        ∙ ap (λ t. t || has b x) (p x within ∙ ap (λ n. (n == 0) && has first x) z)
        ∙ ap (λ t. has first x || t) (q x within ∙ ap (λ n. (n == 0) && has first (port by 1 x)) z)
        ∙ ap (λ u. has first u || has first (port by 1 x)) (sym (same_first by x z))
        ∙ sym (ap (λ n. cond (n == 0) (has first (port by 0 x) || has first (port by 1 x)) (has second (port by 0 x) || has second (port by 1 x))) z)
    by_bit (suc zero) z lt =
        ap (λ t. ((t || has b x) || has c x) || has d x) (p x within ∙ ap (λ n. (n == 0) && has first x) z)
        ∙ ap (λ t. (t || has c x) || has d x) (q x within ∙ ap (λ n. (n == 0) && has first (port by 1 x)) z)
        ∙ ap (λ t. t || has d x) (r x within ∙ ap (λ n. (n == 1) && has second (port by 0 x)) z)
        ∙ ap (λ t. has second (port by 0 x) || t) (s x within ∙ ap (λ n. (n == 1) && has second x) z)
        ∙ ap (λ u. has second (port by 0 x) || has second u) (sym (same_second by x z))
        ∙ sym (ap (λ n. cond (n == 0) (has first (port by 0 x) || has first (port by 1 x)) (has second (port by 0 x) || has second (port by 1 x))) z)
    by_bit (suc (suc t)) z lt = absurd (omega arith)

-- turns, bit by bit
turn_bits : (t f s : ℕ) → t < 2 → f < 2 → s < 2 → min (max t (min f (1 - s))) (1 - min s (1 - f)) ≡ turn_after t (f == 1) (s == 1)
turn_bits zero zero zero a b c = refl
turn_bits zero zero (suc zero) a b c = refl
turn_bits zero (suc zero) zero a b c = refl
turn_bits zero (suc zero) (suc zero) a b c = refl
turn_bits (suc zero) zero zero a b c = refl
turn_bits (suc zero) zero (suc zero) a b c = refl
turn_bits (suc zero) (suc zero) zero a b c = refl
turn_bits (suc zero) (suc zero) (suc zero) a b c = refl
turn_bits (suc (suc t)) f s a b c = absurd (omega arith)
turn_bits zero (suc (suc f)) s a b c = absurd (omega arith)
turn_bits (suc zero) (suc (suc f)) s a b c = absurd (omega arith)
turn_bits zero zero (suc (suc s)) a b c = absurd (omega arith)
turn_bits zero (suc zero) (suc (suc s)) a b c = absurd (omega arith)
turn_bits (suc zero) zero (suc (suc s)) a b c = absurd (omega arith)
turn_bits (suc zero) (suc zero) (suc (suc s)) a b c = absurd (omega arith)

pub turns : (turn first second : ℕ) → first < 2 ^ 64 → second < 2 ^ 64
    → TurnsAfter turn (has first) (has second) (bit_and (bit_or turn (bit_and first (bit_not w64 second))) (bit_not w64 (bit_and second (bit_not w64 first))))
turns turn first second small_first small_second y within =
    let small : bit_and second (bit_not w64 first) < 2 ^ 64 = omega (arith, and_le_l second (bit_not w64 first)) in
    bit_at_and (bit_or turn (bit_and first (bit_not w64 second))) (bit_not w64 (bit_and second (bit_not w64 first))) y
    ∙ ap (λ n. min n (bit_at (bit_not w64 (bit_and second (bit_not w64 first))) y))
    (bit_at_or turn (bit_and first (bit_not w64 second)) y
    ∙ ap (λ n. max (bit_at turn y) n) (bit_at_and first (bit_not w64 second) y ∙ ap (λ n. min (bit_at first y) n) (bit_at_not w64 second y small_second within)))
    ∙ ap (λ n. min (max (bit_at turn y) (min (bit_at first y) (1 - bit_at second y))) n)
    (bit_at_not w64 (bit_and second (bit_not w64 first)) y small within
    ∙ ap (λ n. 1 - n) (bit_at_and second (bit_not w64 first) y ∙ ap (λ n. min (bit_at second y) n) (bit_at_not w64 first y small_first within)))
    ∙ turn_bits (bit_at turn y) (bit_at first y) (bit_at second y) (bit_at-lt turn y) (bit_at-lt first y) (bit_at-lt second y)

-- of two queues, a head comes to the one that it asks for
asked_one : (a : Bool) (o : ℕ) (takes : ℕ → Bool) → o < 2 → (((a && (o == 0)) && takes 0) || ((a && (o == 1)) && takes 1)) ≡ (a && takes o)
asked_one false o takes lt = refl
asked_one true zero takes lt = or_false (takes 0)
asked_one true (suc zero) takes lt = refl
asked_one true (suc (suc o)) takes lt = absurd (omega arith)

-- what comes to a queue of a switch from one of its labels
comes_at : (b : ℕ) (heads : Heads) (room : Room) (turn i j x : ℕ) → port b i (port b j x) ≡ x → bit b (port b j x) ≡ j
    → comes b heads room turn i (port b j x) ≡ ((has heads.any x && (asks heads x == j)) && takes_from room turn i (port b j x))
comes_at b heads room turn i j x back own =
    ap (λ p. (has heads.any p && (asks heads p == bit b (port b j x))) && takes_from room turn i (port b j x)) back
    ∙ ap (λ n. (has heads.any x && (asks heads x == n)) && takes_from room turn i (port b j x)) own

pub leaving : (b : ℕ) (heads : Heads) (room : Room) (turn first second leave : ℕ) → b < 6
    → IsSetOf (comes b heads room turn 0) first → IsSetOf (comes b heads room turn 1) second → IsSetOf (came b first second) leave
    → IsSetOf (leaves b heads room turn) leave
leaving b heads room turn first second leave h f s l x within = l x within ∙ by_bit (bit b x) refl (bit_at-lt x b)
  where
    switch : ArePorts b x
    switch = ports_of b x h within

    by_bit : (t : ℕ) → bit b x ≡ t → t < 2 → came b first second x ≡ leaves b heads room turn x
    by_bit zero z lt =
        let here : port b 0 x ≡ x = same_first b x z in
        ap (λ n. cond (n == 0) (has first (port b 0 x) || has first (port b 1 x)) (has second (port b 0 x) || has second (port b 1 x))) z
        ∙ ap (λ t. t || has first (port b 1 x)) (f (port b 0 x) (omega arith) ∙ comes_at b heads room turn 0 0 x (switch.again_00 ∙ here) switch.bit_0)
        ∙ ap (λ t. ((has heads.any x && (asks heads x == 0)) && takes_from room turn 0 (port b 0 x)) || t)
        (f (port b 1 x) switch.below ∙ comes_at b heads room turn 0 1 x (switch.again_01 ∙ here) switch.bit_1)
        ∙ asked_one (has heads.any x) (asks heads x) (λ o. takes_from room turn 0 (port b o x)) (bit_at-lt heads.ones x)
        ∙ ap (λ i. has heads.any x && takes_from room turn i (port b (asks heads x) x)) (sym z)
    by_bit (suc zero) z lt =
        let here : port b 1 x ≡ x = same_second b x z in
        let under : port b 0 x < 64 = omega (arith, first_port b x z) in
        ap (λ n. cond (n == 0) (has first (port b 0 x) || has first (port b 1 x)) (has second (port b 0 x) || has second (port b 1 x))) z
        ∙ ap (λ t. t || has second (port b 1 x)) (s (port b 0 x) under ∙ comes_at b heads room turn 1 0 x (switch.again_10 ∙ here) switch.bit_0)
        ∙ ap (λ t. ((has heads.any x && (asks heads x == 0)) && takes_from room turn 1 (port b 0 x)) || t)
        (s (port b 1 x) switch.below ∙ comes_at b heads room turn 1 1 x (switch.again_11 ∙ here) switch.bit_1)
        ∙ asked_one (has heads.any x) (asks heads x) (λ o. takes_from room turn 1 (port b o x)) (bit_at-lt heads.ones x)
        ∙ ap (λ i. has heads.any x && takes_from room turn i (port b (asks heads x) x)) (sym z)
    by_bit (suc (suc t)) z lt = absurd (omega arith)

pub turning : (turn first second next : ℕ) (from_0 from_1 : ℕ → Bool) → IsSetOf from_0 first → IsSetOf from_1 second
    → TurnsAfter turn (has first) (has second) next → TurnsAfter turn from_0 from_1 next
turning turn first second next from_0 from_1 f s t y within =
    t y within ∙ ap (λ b. turn_after (bit y turn) b (has second y)) (f y within) ∙ ap (λ b. turn_after (bit y turn) (from_0 y) b) (s y within)

-- switches with both labels in a set
pub both : (by set a b : ℕ) → IsSetOf (λ x. (bit by x == 0) && has set x) a → IsSetOf (λ x. (bit by x == 0) && has set (port by 1 x)) b
    → IsSetOf (λ x. (bit by x == 0) && (has set (port by 0 x) && has set (port by 1 x))) (bit_and a b)
both by set a b p q x within =
    has_and a b x
    ∙ ap (λ t. t && has b x) (p x within)
    ∙ ap (λ t. ((bit by x == 0) && has set x) && t) (q x within)
    ∙ by_bit (bit by x) refl (bit_at-lt x by)
  where
    by_bit : (t : ℕ) → bit by x ≡ t → t < 2
        → (((bit by x == 0) && has set x) && ((bit by x == 0) && has set (port by 1 x))) ≡ ((bit by x == 0) && (has set (port by 0 x) && has set (port by 1 x)))
    by_bit zero z lt =
        ap (λ n. ((n == 0) && has set x) && ((n == 0) && has set (port by 1 x))) z
        ∙ ap (λ u. has set u && has set (port by 1 x)) (sym (same_first by x z))
        ∙ sym (ap (λ n. (n == 0) && (has set (port by 0 x) && has set (port by 1 x))) z)
    by_bit (suc zero) z lt =
        ap (λ n. ((n == 0) && has set x) && ((n == 0) && has set (port by 1 x))) z
        ∙ sym (ap (λ n. (n == 0) && (has set (port by 0 x) && has set (port by 1 x))) z)
    by_bit (suc (suc t)) z lt = absurd (omega arith)

abbrev in_both : ℕ → ℕ → ℕ → Bool
in_both by set x = (bit by x == 0) && (has set (port by 0 x) && has set (port by 1 x))

-- the heads of side 0 that come, and those of side 1
pub both_first : (by any : ℕ) (room : Room) (turn a two one : ℕ) → turn < 2 ^ 64
    → IsSetOf (λ x. (bit by x == 0) && has any x) a → IsSetOf (in_both by room.two) two → IsSetOf (in_both by room.one) one
    → IsSetOf (comes_both by any room turn 0) (bit_and a (bit_or two (bit_and one (bit_not w64 turn))))
both_first by any room turn a two one small p q r x within =
    has_and a (bit_or two (bit_and one (bit_not w64 turn))) x
    ∙ ap (λ t. has a x && t) (has_or two (bit_and one (bit_not w64 turn)) x ∙ ap (λ t. has two x || t) (has_and one (bit_not w64 turn) x
    ∙ ap (λ t. has one x && t) (has_not turn x small within ∙ sym (is_zero (bit x turn) (bit_at-lt turn x)))))
    ∙ ap (λ t. t && (has two x || (has one x && (bit x turn == 0)))) (p x within)
    ∙ ap (λ t. ((bit by x == 0) && has any x) && (t || (has one x && (bit x turn == 0)))) (q x within)
    ∙ ap (λ t. ((bit by x == 0) && has any x) && (in_both by room.two x || (t && (bit x turn == 0)))) (r x within)
    ∙ by_bit (bit by x) refl (bit_at-lt x by)
  where
    by_bit : (t : ℕ) → bit by x ≡ t → t < 2
        → (((bit by x == 0) && has any x) && (in_both by room.two x || (in_both by room.one x && (bit x turn == 0)))) ≡ comes_both by any room turn 0 x
    by_bit zero z lt =
        let here : port by 0 x ≡ x = same_first by x z in
        ap (λ n. ((n == 0) && has any x) && (((n == 0) && (has room.two (port by 0 x) && has room.two (port by 1 x))) || (((n == 0) && (has room.one (port by 0 x) && has room.one (port by 1 x))) && (bit x turn == 0)))) z
        ∙ ap (λ u. has any u && ((has room.two (port by 0 x) && has room.two (port by 1 x)) || ((has room.one (port by 0 x) && has room.one (port by 1 x)) && (bit u turn == 0)))) (sym here)
        ∙ sym (ap (λ n. (n == 0) && (has any (port by 0 x) && takes_both by room turn 0 x)) z)
    by_bit (suc zero) z lt =
        ap (λ n. ((n == 0) && has any x) && (in_both by room.two x || (in_both by room.one x && (bit x turn == 0)))) z
        ∙ sym (ap (λ n. (n == 0) && (has any (port by 0 x) && takes_both by room turn 0 x)) z)
    by_bit (suc (suc t)) z lt = absurd (omega arith)

pub both_second : (by any : ℕ) (room : Room) (turn b two one : ℕ)
    → IsSetOf (λ x. (bit by x == 0) && has any (port by 1 x)) b → IsSetOf (in_both by room.two) two → IsSetOf (in_both by room.one) one
    → IsSetOf (comes_both by any room turn 1) (bit_and b (bit_or two (bit_and one turn)))
both_second by any room turn b two one p q r x within =
    has_and b (bit_or two (bit_and one turn)) x
    ∙ ap (λ t. has b x && t) (has_or two (bit_and one turn) x ∙ ap (λ t. has two x || t) (has_and one turn x))
    ∙ ap (λ t. t && (has two x || (has one x && (bit x turn == 1)))) (p x within)
    ∙ ap (λ t. ((bit by x == 0) && has any (port by 1 x)) && (t || (has one x && (bit x turn == 1)))) (q x within)
    ∙ ap (λ t. ((bit by x == 0) && has any (port by 1 x)) && (in_both by room.two x || (t && (bit x turn == 1)))) (r x within)
    ∙ by_bit (bit by x) refl (bit_at-lt x by)
  where
    by_bit : (t : ℕ) → bit by x ≡ t → t < 2
        → (((bit by x == 0) && has any (port by 1 x)) && (in_both by room.two x || (in_both by room.one x && (bit x turn == 1)))) ≡ comes_both by any room turn 1 x
    by_bit zero z lt =
        let here : port by 0 x ≡ x = same_first by x z in
        ap (λ n. ((n == 0) && has any (port by 1 x)) && (((n == 0) && (has room.two (port by 0 x) && has room.two (port by 1 x))) || (((n == 0) && (has room.one (port by 0 x) && has room.one (port by 1 x))) && (bit x turn == 1)))) z
        ∙ ap (λ u. has any (port by 1 x) && ((has room.two (port by 0 x) && has room.two (port by 1 x)) || ((has room.one (port by 0 x) && has room.one (port by 1 x)) && (bit u turn == 1)))) (sym here)
        ∙ sym (ap (λ n. (n == 0) && (has any (port by 1 x) && takes_both by room turn 1 x)) z)
    by_bit (suc zero) z lt =
        ap (λ n. ((n == 0) && has any (port by 1 x)) && (in_both by room.two x || (in_both by room.one x && (bit x turn == 1)))) z
        ∙ sym (ap (λ n. (n == 0) && (has any (port by 1 x) && takes_both by room turn 1 x)) z)
    by_bit (suc (suc t)) z lt = absurd (omega arith)

-- a switch takes the same at each of its labels
takes_at : (by : ℕ) (room : Room) (turn i x y : ℕ) → port by 0 y ≡ port by 0 x → port by 1 y ≡ port by 1 x → takes_both by room turn i y ≡ takes_both by room turn i x
takes_at by room turn i x y e f =
    ap (λ u. (has room.two u && has room.two (port by 1 y)) || ((has room.one u && has room.one (port by 1 y)) && (bit u turn == i))) e
    ∙ ap (λ u. (has room.two (port by 0 x) && has room.two u) || ((has room.one (port by 0 x) && has room.one u) && (bit (port by 0 x) turn == i))) f

pub both_leave : (by any : ℕ) (room : Room) (turn first second moved : ℕ) → by < 6
    → IsSetOf (comes_both by any room turn 0) first → IsSetOf (comes_both by any room turn 1) second
    → IsSetOf (λ x. (bit by x == 1) && has second (port by 0 x)) moved
    → IsSetOf (leaves_both by any room turn) (bit_or first moved)
both_leave by any room turn first second moved h p q r x within =
    has_or first moved x ∙ ap (λ t. has first x || t) (r x within) ∙ ap (λ t. t || ((bit by x == 1) && has second (port by 0 x))) (p x within)
    ∙ by_bit (bit by x) refl (bit_at-lt x by)
  where
    by_bit : (t : ℕ) → bit by x ≡ t → t < 2 → (comes_both by any room turn 0 x || ((bit by x == 1) && has second (port by 0 x))) ≡ leaves_both by any room turn x
    by_bit zero z lt =
        let here : port by 0 x ≡ x = same_first by x z in
        ap (λ n. ((n == 0) && (has any (port by 0 x) && takes_both by room turn 0 x)) || ((n == 1) && has second (port by 0 x))) z
        ∙ or_false (has any (port by 0 x) && takes_both by room turn 0 x)
        ∙ ap (λ u. has any u && takes_both by room turn 0 x) here
        ∙ ap (λ i. has any x && takes_both by room turn i x) (sym z)
    by_bit (suc zero) z lt =
        let here : port by 1 x ≡ x = same_second by x z in
        let switch : ArePorts by x = ports_of by x h within in
        let under : port by 0 x < 64 = omega (arith, first_port by x z) in
        ap (λ n. ((n == 0) && (has any (port by 0 x) && takes_both by room turn 0 x)) || ((n == 1) && has second (port by 0 x))) z
        ∙ q (port by 0 x) under
        ∙ ap (λ n. (n == 0) && (has any (port by 1 (port by 0 x)) && takes_both by room turn 1 (port by 0 x))) switch.bit_0
        ∙ ap (λ u. has any u && takes_both by room turn 1 (port by 0 x)) (switch.again_10 ∙ here)
        ∙ ap (λ t. has any x && t) (takes_at by room turn 1 x (port by 0 x) switch.again_00 switch.again_10)
        ∙ ap (λ i. has any x && takes_both by room turn i x) (sym z)
    by_bit (suc (suc t)) z lt = absurd (omega arith)

-- what modules serve
serve_low : (l c t : Bool) → (l && not (c && t)) ≡ is_net Low (chosen l c (net_for t))
serve_low true true true = refl
serve_low true true false = refl
serve_low true false true = refl
serve_low true false false = refl
serve_low false true true = refl
serve_low false true false = refl
serve_low false false true = refl
serve_low false false false = refl

serve_comb : (l c t : Bool) → (c && not (l && not t)) ≡ is_net Comb (chosen l c (net_for t))
serve_comb true true true = refl
serve_comb true true false = refl
serve_comb true false true = refl
serve_comb true false false = refl
serve_comb false true true = refl
serve_comb false true false = refl
serve_comb false false true = refl
serve_comb false false false = refl

serve_turn : (l c t : Bool) → net_for ((t || is_net Low (chosen l c (net_for t))) && not (is_net Comb (chosen l c (net_for t)))) ≡ turn_from (net_for t) (chosen l c (net_for t))
serve_turn true true true = refl
serve_turn true true false = refl
serve_turn true false true = refl
serve_turn true false false = refl
serve_turn false true true = refl
serve_turn false true false = refl
serve_turn false false true = refl
serve_turn false false false = refl

pub served_low : (low comb turn : ℕ) → comb < 2 ^ 64 → IsSetOf (λ x. is_net Low (served_at low comb turn x)) (bit_and low (bit_not w64 (bit_and comb turn)))
served_low low comb turn small x within =
    let fits : bit_and comb turn < 2 ^ 64 = omega (arith, and_le_l comb turn) in
    has_and low (bit_not w64 (bit_and comb turn)) x
    ∙ ap (λ t. has low x && t) (has_not (bit_and comb turn) x fits within ∙ ap not (has_and comb turn x))
    ∙ serve_low (has low x) (has comb x) (has turn x)

pub served_comb : (low comb turn : ℕ) → low < 2 ^ 64 → turn < 2 ^ 64
    → IsSetOf (λ x. is_net Comb (served_at low comb turn x)) (bit_and comb (bit_not w64 (bit_and low (bit_not w64 turn))))
served_comb low comb turn small small_turn x within =
    let fits : bit_and low (bit_not w64 turn) < 2 ^ 64 = omega (arith, and_le_l low (bit_not w64 turn)) in
    has_and comb (bit_not w64 (bit_and low (bit_not w64 turn))) x
    ∙ ap (λ t. has comb x && t)
    (has_not (bit_and low (bit_not w64 turn)) x fits within ∙ ap not (has_and low (bit_not w64 turn) x ∙ ap (λ t. has low x && t) (has_not turn x small_turn within)))
    ∙ serve_comb (has low x) (has comb x) (has turn x)

pub served_turn : (low comb turn a b : ℕ) → b < 2 ^ 64
    → IsSetOf (λ x. is_net Low (served_at low comb turn x)) a → IsSetOf (λ x. is_net Comb (served_at low comb turn x)) b
    → NetsAfter low comb turn (bit_and (bit_or turn a) (bit_not w64 b))
served_turn low comb turn a b small p q x within =
    ap net_for
    (has_and (bit_or turn a) (bit_not w64 b) x
    ∙ ap (λ t. t && has (bit_not w64 b) x) (has_or turn a x ∙ ap (λ t. has turn x || t) (p x within))
    ∙ ap (λ t. (has turn x || is_net Low (served_at low comb turn x)) && t) (has_not b x small within ∙ ap not (q x within)))
    ∙ serve_turn (has low x) (has comb x) (has turn x)

-- where nothing waits nothing leaves
empty_at : (any : ℕ) → any ≡ 0 → (x : ℕ) → has any x ≡ false
empty_at any e x = ap (λ a. has a x) e ∙ ap (λ n. n == 1) (bit_at-zero x)

and_false : (a : Bool) → (a && false) ≡ false
and_false true = refl
and_false false = refl

module _ (by : ℕ) (heads : Heads) (room : Room) (turn : ℕ) (e : heads.any ≡ 0) where
  none_comes : (i y : ℕ) → comes by heads room turn i y ≡ false
  none_comes i y = ap (λ t. t && (asks heads (port by i y) == bit by y) && takes_from room turn i y) (empty_at heads.any e (port by i y))

  pub none_leave : IsSetOf (leaves by heads room turn) 0
  none_leave x small = empty_at 0 refl x ∙ sym (ap (λ t. t && takes_from room turn (bit by x) (port by (asks heads x) x)) (empty_at heads.any e x))

  pub none_turn : TurnsAfter turn (comes by heads room turn 0) (comes by heads room turn 1) turn
  none_turn y small = sym (ap (λ t. turn_after (bit y turn) t (comes by heads room turn 1 y)) (none_comes 0 y) ∙ ap (λ t. turn_after (bit y turn) false t) (none_comes 1 y))

module _ (by any : ℕ) (room : Room) (turn : ℕ) (e : any ≡ 0) where
  none_comes_both : (i x : ℕ) → comes_both by any room turn i x ≡ false
  none_comes_both i x = ap (λ t. (bit by x == 0) && (t && takes_both by room turn i x)) (empty_at any e (port by i x)) ∙ and_false (bit by x == 0)

  pub none_leave_both : IsSetOf (leaves_both by any room turn) 0
  none_leave_both x small = empty_at 0 refl x ∙ sym (ap (λ t. t && takes_both by room turn (bit by x) x) (empty_at any e x))

  pub none_turn_both : TurnsAfter turn (comes_both by any room turn 0) (comes_both by any room turn 1) turn
  none_turn_both y small = sym (ap (λ t. turn_after (bit y turn) t (comes_both by any room turn 1 y)) (none_comes_both 0 y) ∙ ap (λ t. turn_after (bit y turn) false t) (none_comes_both 1 y))
