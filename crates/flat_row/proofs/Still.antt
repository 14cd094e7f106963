-- Where nothing leaves, levels stay as they are.
use Rattle.std.proofs.Common.{◌≡◌, ℕ, zero, suc, ◌-◌, Bool, true, false, cond, List, [], ◌∷◌, refl, ap, sym, ◌∙◌, None}
use Rattle.std.specs.Prelude.{◌==◌, nat_lt, slice_index_or}
use Rattle.std.proofs.lemmas.Bool.{and_parts, eqb-true}
use Rattle.std.proofs.lemmas.Nat.Bits.{bit_at-zero}
use Rattle.arrayvec.specs.ArrayVec.{ArrayVec}
use Rattle.omega_net.specs.declared.message.Reply.{Reply}
use Rattle.omega_net.specs.Wires.{bit}
use Rattle.omega_net.specs.Queues.{without_head, joined}
use Rattle.omega_net.specs.Ports.{empty}
use Rattle.comb_switch.specs.declared.state.CombState.{CombState}
use Rattle.comb_switch.specs.CombSwitch.{returns_to}
use Rattle.project_book.specs.Project.{Project}
use Rattle.machine_cells.specs.Cycle.{comb_settings}
use Rattle.flat_row.specs.Labels.{port}
use Rattle.flat_row.specs.Masks.{has, are_empty}
use Rattle.flat_row.specs.Queues.{Queues}
use Rattle.flat_row.specs.Row.{Buffers, queue_of, wait_of, combined_of}
use Rattle.flat_row.specs.Rows.{if_leaves}
use Rattle.flat_row.specs.Moving.{sent_to, arrival, leaves_forth, forth_after, left_back, back_after}
use Rattle.flat_row.specs.Combining.{core, splitting}
use Rattle.flat_row.specs.Stages.{CombBack, buffers_in, returned_at}
use Rattle.flat_row.proofs.Passing.{shape_same}

pub none_has : (set x : ℕ) → set ≡ 0 → has set x ≡ false
none_has set x e = ap (λ n. bit x n == 1) e ∙ ap (λ n. n == 1) (bit_at-zero x)

all_zero : (sets : List ℕ) (s : ℕ) → are_empty sets ≡ true → slice_index_or sets s 0 ≡ 0
all_zero [] s e = refl
all_zero (n ∷ sets) zero e = eqb-true n 0 (and_parts (n == 0) (are_empty sets) e).0
all_zero (n ∷ sets) (suc s) e = all_zero sets s (and_parts (n == 0) (are_empty sets) e).1

same_both : {X : Type 0} (t : Bool) (a : X) → cond t a a ≡ a
same_both true a = refl
same_both false a = refl

-- sets in which nothing is
module _ (k : ℕ) (sets : List ℕ) (none : are_empty sets ≡ true) where
  at : (s x : ℕ) → has (slice_index_or sets s 0) x ≡ false
  at s x = none_has (slice_index_or sets s 0) x (all_zero sets s none)

  pub none_leaves : (enter : ℕ) → enter ≡ 0 → (l x : ℕ) → leaves_forth k sets enter l x ≡ false
  none_leaves enter e l x =
      ap (λ t. cond (l == k) t (has (slice_index_or sets l 0) x)) (none_has enter x e) ∙ ap (λ t. cond (l == k) false t) (at l x) ∙ same_both (l == k) false

  module _ {T : Type 0} (route : T → ℕ) (levels : List (Queues T)) where
    left_same : (l z : ℕ) → left_back sets levels l z ≡ queue_of levels l z
    left_same zero z = refl
    left_same (suc s) z = ap (λ t. without_head t (queue_of levels (suc s) z)) (at s z)

    none_arrives : (b s from i z : ℕ) → arrival route b (has (slice_index_or sets s 0)) levels from i z ≡ None
    none_arrives b s from i z = ap (λ t. sent_to route b (bit b z) (if_leaves t (queue_of levels from (port b i z)))) (at s (port b i z))

    pub back_same : (l z : ℕ) → back_after route k sets levels l z ≡ queue_of levels l z
    back_same l z =
        let b = k - 1 - l in
        let q = left_back sets levels l z in
        ap (λ m. cond (nat_lt l k) (joined (joined q m) (arrival route b (has (slice_index_or sets l 0)) levels (suc l) 1 z)) q) (none_arrives b l (suc l) 0 z)
        ∙ ap (λ m. cond (nat_lt l k) (joined q m) q) (none_arrives b l (suc l) 1 z)
        ∙ same_both (nat_lt l k) q ∙ left_same l z

    pub forth_same : (enter : ℕ) → enter ≡ 0 → (l z : ℕ) → forth_after route k sets enter levels l z ≡ queue_of levels l z
    forth_same enter e zero z = ap (λ t. without_head t (queue_of levels 0 z)) (none_leaves enter e 0 z)
    forth_same enter e (suc l) z =
        let b = k - 1 - l in
        let q = without_head (leaves_forth k sets enter (suc l) z) (queue_of levels (suc l) z) in
        ap (λ m. cond (l == k) (joined (queue_of levels (suc k) z) (if_leaves (has enter z) (queue_of levels k z))) (joined (joined q m) (arrival route b (has (slice_index_or sets l 0)) levels l 1 z))) (none_arrives b l l 0 z)
        ∙ ap (λ m. cond (l == k) (joined (queue_of levels (suc k) z) (if_leaves (has enter z) (queue_of levels k z))) (joined q m)) (none_arrives b l l 1 z)
        ∙ ap (λ t. cond (l == k) (joined (queue_of levels (suc k) z) (if_leaves t (queue_of levels k z))) q) (none_has enter z e)
        ∙ ap (λ t. cond (l == k) (queue_of levels (suc k) z) (without_head t (queue_of levels (suc l) z))) (none_leaves enter e (suc l) z)
        ∙ by_test (l == k) refl
      where
        by_test : (t : Bool) → (l == k) ≡ t → cond (l == k) (queue_of levels (suc k) z) (queue_of levels (suc l) z) ≡ queue_of levels (suc l) z
        by_test true f = ap (λ t. cond t (queue_of levels (suc k) z) (queue_of levels (suc l) z)) f ∙ ap (λ n. queue_of levels (suc n) z) (sym (eqb-true l k f))
        by_test false f = ap (λ t. cond t (queue_of levels (suc k) z) (queue_of levels (suc l) z)) f

pub none_at : (sets : List ℕ) → are_empty sets ≡ true → (s x : ℕ) → has (slice_index_or sets s 0) x ≡ false
none_at sets none s x = at 0 sets none s x

-- the combining network, on the way back
module _ (P : Project) (sets : List ℕ) (levels : List (Queues Reply)) (waits : List Buffers) (none : are_empty sets ≡ true) where
  abbrev splitting_of : ℕ → ℕ → ArrayVec Reply → ArrayVec Reply → CombState
  splitting_of s x p q = core (empty ∷ empty ∷ []) (p ∷ q ∷ []) (wait_of (buffers_in waits s) x) (combined_of (buffers_in waits s) x)

  left_here : (s z : ℕ) → left_back sets levels s z ≡ queue_of levels s z
  left_here s z = left_same P.k sets none (λ (y : Reply). y.tag.proc) levels s z

  abbrev left : ℕ → ℕ → ℕ → ArrayVec Reply
  left s x i = left_back sets levels s (port (P.k - 1 - s) i x)

  returned_so : (s x : ℕ) → returned_at P sets levels waits s x ≡ splitting (P.k - 1 - s) (queue_of levels s) (buffers_in waits s) x
  returned_so s x =
      ap (λ t. returns_to (comb_settings P s) (if_leaves t (queue_of levels (suc s) (port (P.k - 1 - s) 1 x)))
      (returns_to (comb_settings P s) (if_leaves (has (slice_index_or sets s 0) (port (P.k - 1 - s) 0 x)) (queue_of levels (suc s) (port (P.k - 1 - s) 0 x))) (splitting_of s x (left s x 0) (left s x 1))))
      (none_at sets none s (port (P.k - 1 - s) 1 x))
      ∙ ap (λ t. returns_to (comb_settings P s) (if_leaves t (queue_of levels (suc s) (port (P.k - 1 - s) 0 x))) (splitting_of s x (left s x 0) (left s x 1))) (none_at sets none s (port (P.k - 1 - s) 0 x))
      ∙ ap (λ q. splitting_of s x q (left s x 1)) (left_here s (port (P.k - 1 - s) 0 x))
      ∙ ap (λ q. splitting_of s x (queue_of levels s (port (P.k - 1 - s) 0 x)) q) (left_here s (port (P.k - 1 - s) 1 x))

  pub combs_still : CombBack P sets levels levels waits waits
  combs_still = record {
    shape = shape_same levels;
    buffers = record { many = refl; entries = λ s. refl };
    last = λ z small. sym (left_here P.k z);
    switches = λ s x lt small e. sym (returned_so s x);
  }
