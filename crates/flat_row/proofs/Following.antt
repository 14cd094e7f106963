-- A row under another project has the states that it had.
use Rattle.std.proofs.Common.{◌≡◌, ℕ, suc, ◌<◌, ◌≤◌, List, length, refl, ap, sym, ◌∙◌, ◌⊎◌, inl, inr, Some, arith}
use Rattle.std.proofs.lemmas.List.{get_or_past}
use Rattle.std.proofs.lemmas.Bool.{cases_lt}
use Rattle.arrayvec.specs.ArrayVec.{ArrayVec}
use Rattle.omega_net.specs.declared.component.Net.{Net}
use Rattle.omega_net.specs.declared.component.Net.TheVariants.{Low as LowNet, Comb as CombNet}
use Rattle.omega_net.specs.declared.component.Component.{Component}
use Rattle.omega_net.specs.declared.component.Component.TheVariants.{Proc as ProcAt, Module as ModuleAt, Switch}
use Rattle.omega_net.specs.Queues.{head}
use Rattle.omega_net.specs.Ports.{queue_at}
use Rattle.comb_switch.specs.declared.waiting.Waiting.{Waiting}
use Rattle.machine_cells.specs.declared.state.MachineState.TheVariants.{Proc, Module, Low, Comb}
use Rattle.project_book.specs.Project.{Project}
use Rattle.flat_row.specs.declared.marks.Rule.{Rule}
use Rattle.flat_row.specs.Labels.{switch_label}
use Rattle.flat_row.specs.Queues.{Queues}
use Rattle.flat_row.specs.Row.{Network, Arrays, no_queues, level_at, queue_of, port_label, turn_of, low_of, comb_of, proc_of, state_of, states_of, buffers_at, wait_of, combined_of, request_rule, reply_rule}
use Rattle.flat_row.specs.Follow.{Follows, NetworkFollows}
use Rattle.flat_row.proofs.Loading.{low_same, comb_same, module_same, showing}
use Rattle.flat_row.proofs.Cycling.{states_alike}

-- levels below n follow, and the others are as they were
pub record PartlyFollows {T : Type 0} (rule : ℕ → Rule) (n : ℕ) (old now : List (Queues T)) : Type 0 where
  pub many : length now ≡ length old
  pub done : (l : ℕ) → l < n → level_at now l ≡ record (level_at old l) { rule = rule l }
  pub rest : (l : ℕ) → n ≤ l → level_at now l ≡ level_at old l

module _ {T : Type 0} (rule : ℕ → Rule) (old new : List (Queues T)) (follows : Follows rule old new) where
  -- the queues are those that they were
  pub queue_kept : (l x : ℕ) → queue_of new l x ≡ queue_of old l x
  queue_kept l x = by_place (cases_lt l (length old))
    where
      by_place : (l < length old) ⊎ (length old ≤ l) → queue_of new l x ≡ queue_of old l x
      by_place (inl h) = ap (λ (q : Queues T). queue_at q.queues x) (follows.each l h)
      by_place (inr h) =
          ap (λ (q : Queues T). queue_at q.queues x) (get_or_past new l no_queues (omega (arith, h, follows.many)) ∙ sym (get_or_past old l no_queues h))

module _ (P : Project) (net : Net) (old new : Network) (follows : NetworkFollows P net old new) where
  requests_kept : (l x : ℕ) → queue_of new.requests l x ≡ queue_of old.requests l x
  requests_kept = queue_kept (request_rule P net) old.requests new.requests follows.requests

  replies_kept : (l x : ℕ) → queue_of new.replies l x ≡ queue_of old.replies l x
  replies_kept = queue_kept (reply_rule P net) old.replies new.replies follows.replies

  turn_kept : (s x : ℕ) → turn_of new.turns s x ≡ turn_of old.turns s x
  turn_kept s x = ap (λ ts. turn_of ts s x) follows.turns

  back_kept : (s x : ℕ) → turn_of new.back_turns s x ≡ turn_of old.back_turns s x
  back_kept s x = ap (λ ts. turn_of ts s x) follows.back_turns

  low_kept : (k s j : ℕ) → low_of k new s j ≡ low_of k old s j
  low_kept k s j =
      low_same _ _ _ _ _ _ _ _ _ _ _ _ _ _ _ _ (requests_kept (suc s) (port_label k s j 0)) (requests_kept (suc s) (port_label k s j 1))
      (turn_kept s (port_label k s j 0)) (turn_kept s (port_label k s j 1)) (replies_kept s (port_label k s j 0)) (replies_kept s (port_label k s j 1))
      (back_kept s (port_label k s j 0)) (back_kept s (port_label k s j 1))

  comb_kept : (k s j : ℕ) (wait : ArrayVec Waiting) (n : ℕ) → comb_of k new s j wait n ≡ comb_of k old s j wait n
  comb_kept k s j wait n =
      comb_same _ _ _ _ _ _ _ _ _ _ _ _ _ _ _ _ _ _ (requests_kept (suc s) (port_label k s j 0)) (requests_kept (suc s) (port_label k s j 1))
      (replies_kept s (port_label k s j 0)) (replies_kept s (port_label k s j 1)) refl (turn_kept s (port_label k s j 0)) (turn_kept s (port_label k s j 1))
      (back_kept s (port_label k s j 0)) refl

-- both networks of a row follow, and nobody rests
module _ (P : Project) (R : Arrays) (L C : Network) (low : NetworkFollows P LowNet R.low L) (comb : NetworkFollows P CombNet R.comb C) where
  abbrev pub following : Arrays
  following = record R { low = L; comb = C; rests = 0 }

  shown_low : (p : ℕ) → queue_of L.requests 0 p ≡ queue_of R.low.requests 0 p
  shown_low p = requests_kept P LowNet R.low L low 0 p

  shown_comb : (p : ℕ) → queue_of C.requests 0 p ≡ queue_of R.comb.requests 0 p
  shown_comb p = requests_kept P CombNet R.comb C comb 0 p

  pub following_each : (c : Component) → state_of following (Some c) ≡ state_of R (Some c)
  following_each (ProcAt p) = ap Proc (
      ap (λ q. showing (proc_of R p) (head q) (head (queue_of C.requests 0 p))) (shown_low p)
      ∙ ap (λ q. showing (proc_of R p) (head (queue_of R.low.requests 0 p)) (head q)) (shown_comb p)
      )
  following_each (ModuleAt m) = ap Module (
      module_same _ _ _ _ _ _ _ _ _ _ _ _ _ (requests_kept P LowNet R.low L low (suc R.k) m) (requests_kept P CombNet R.comb C comb (suc R.k) m)
      (replies_kept P LowNet R.low L low R.k m) (replies_kept P CombNet R.comb C comb R.k m) refl refl
      )
  following_each (Switch LowNet s j) = ap Low (low_kept P LowNet R.low L low R.k s j)
  following_each (Switch CombNet s j) =
      ap Comb (comb_kept P CombNet R.comb C comb R.k s j (wait_of (buffers_at R s) (switch_label R.k s j)) (combined_of (buffers_at R s) (switch_label R.k s j)))

  pub following_states : states_of following ≡ states_of R
  following_states = states_alike R following R.k refl refl (λ x h. following_each x)
