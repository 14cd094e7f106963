-- Turns are bits, and a switch combines at most two requests in a cycle, so they fit in a byte.
use Rattle.std.proofs.Common.{◌≡◌, ℕ, ◌+◌, ◌%◌, ◌^◌, ◌<◌, ◌≤◌, Bool, true, false, List, [], ◌∷◌, length, All, Result, Ok, Err, refl, subst, arith}
use Rattle.std.specs.Prelude.{OnOk}
use Rattle.arrayvec.specs.ArrayVec.{ArrayVec}
use Rattle.omega_net.specs.Limits.{queue_places}
use Rattle.omega_net.specs.Queues.{turn_after}
use Rattle.state_words.specs.Fits.{AreTurns, IsQueue}
use Rattle.flat_row.specs.Row.{Buffers, combined_of, turn_of}

small : (n : ℕ) → n % 2 < 2 ^ 8
small n = omega arith

pub turn_fits : (sets : List ℕ) (s x : ℕ) → turn_of sets s x < 2 ^ 8
turn_fits sets s x = small _

pub turns_fit : (sets : List ℕ) (s x y : ℕ) → AreTurns (turn_of sets s x ∷ turn_of sets s y ∷ [])
turns_fit sets s x y = record { two = refl; first = turn_fits sets s x; second = turn_fits sets s y }

pub combined_fit : (b : Buffers) (x : ℕ) → combined_of b x < 2 ^ 8
combined_fit b x = two_bits _ _
  where
    two_bits : (m n : ℕ) → m % 2 + n % 2 < 2 ^ 8
    two_bits m n = omega arith

-- a turn one cycle later
pub turn_later : (turn : ℕ) (a b : Bool) → turn < 2 ^ 8 → turn_after turn a b < 2 ^ 8
turn_later turn true true h = h
turn_later turn true false h = omega arith
turn_later turn false true h = omega arith
turn_later turn false false h = h

-- a queue of these messages
pub queue_fits : {T : Type 0} (Is : T → Type 0) (q : ArrayVec T) (messages : List T) → messages ≡ q.items → length messages ≤ queue_places → All Is messages → IsQueue Is q
queue_fits {T} Is q messages e few each = record { fits = subst (λ (xs : List T). length xs ≤ queue_places) e few; each = subst (All Is) e each }

-- what is so whatever a call answers
pub on_answer : {A E : Type 0} (r : Result A E) {X : Type 0} → X → OnOk r X
on_answer (Ok a) x = x
on_answer (Err e) x = tt
