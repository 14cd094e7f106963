-- The queues of a level, and what each shows of itself: marks that are functions of how many messages wait and of the first.
use Rattle.std.specs.Prelude.{◌≡◌, ℕ, ◌<◌, ◌≤◌, ◌==◌, nat_le, ◌-◌, Bool, false, List, [], ◌∷◌, length, is_some, slice_get, slice_set, refl}
use Rattle.std.specs.Coded.{Coded, code_by, coded×, coded_ℕ, coded_list}
use Rattle.arrayvec.specs.ArrayVec.{ArrayVec, array_vec_code}
use Rattle.omega_net.specs.Wires.{bit}
use Rattle.omega_net.specs.Ports.{queue_at}
use Rattle.flat_row.specs.declared.marks.Rule.{Rule}
use Rattle.flat_row.specs.declared.marks.Shown.{Shown}
use Rattle.flat_row.specs.declared.marks.Marks.{Marks}
use Rattle.flat_row.specs.Masks.{has}

-- whether the first of these messages asks for port 1, by a bit of its route
abbrev pub asks_one : {T : Type 0} → (T → ℕ) → ℕ → List T → Bool
asks_one route by [] = false
asks_one route by (m ∷ ms) = bit by (route m) == 1

-- what a queue of these messages shows
abbrev pub shown_of : {T : Type 0} → (T → ℕ) → Rule → List T → Shown
shown_of route rule ms = record {
  any = is_some (slice_get ms 0);
  asks = asks_one route rule.by ms;
  two = nat_le rule.two (rule.depth - length ms);
  one = nat_le rule.one (rule.depth - length ms);
}

-- what the marks say of a label
abbrev pub shown_at : Marks → ℕ → Shown
shown_at marks x = record { any = has marks.any x; asks = has marks.asks x; two = has marks.two x; one = has marks.one x }

-- the queues by label; a label without one shows what an empty one does
pub record Queues (T : Type 0) : Type 0 where
  pub queues : List (ArrayVec T)
  pub rule : Rule

-- the marks are those of the queues
pub record AreMarked {T : Type 0} (route : T → ℕ) (rule : Rule) (queues : List (ArrayVec T)) (marks : Marks) : Type 0 where
  pub few : length queues ≤ 64
  pub marked : (x : ℕ) → x < 64 → shown_at marks x ≡ shown_of route rule (queue_at queues x).items

-- these queues, where that of a label is another one
abbrev pub with_queue : {T : Type 0} → Queues T → ℕ → ArrayVec T → Queues T
with_queue q x new = record q { queues = slice_set q.queues x new }

-- queues are stored as the list of them and their rule's numbers
abbrev pub queues_code : {T : Type 0} → Coded T → Coded (Queues T)
queues_code {T} code =
    code_by (List (ArrayVec T) × (ℕ × (ℕ × (ℕ × ℕ)))) (coded× (coded_list (array_vec_code code)) (coded× coded_ℕ (coded× coded_ℕ (coded× coded_ℕ coded_ℕ))))
    (λ q. (q.queues, (q.rule.depth, (q.rule.two, (q.rule.one, q.rule.by)))))
    (λ p. record { queues = p.0; rule = record { depth = p.1.0; two = p.1.1.0; one = p.1.1.1.0; by = p.1.1.1.1 } })
    (λ _. refl)
