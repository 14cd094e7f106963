-- A module and a processor one cycle later, by what the row holds of them.
use Rattle.std.proofs.Common.{◌≡◌, ◌+◌, ◌≤◌, Bool, true, false, cond, List, [], ◌∷◌, length, refl, ap, ◌∙◌, Option, None, Some, arith}
use Rattle.std.specs.Prelude.{◌||◌, is_some, slice_get}
use Rattle.arrayvec.specs.ArrayVec.{ArrayVec}
use Rattle.omega_net.specs.declared.component.Net.{Net}
use Rattle.omega_net.specs.declared.component.Net.TheVariants.{Low as LowNet, Comb as CombNet}
use Rattle.omega_net.specs.declared.message.Request.{Request}
use Rattle.omega_net.specs.declared.message.Reply.{Reply}
use Rattle.omega_net.specs.Queues.{head, without_head, joined}
use Rattle.mem_module.specs.declared.words.Stored.{Stored}
use Rattle.mem_module.specs.declared.state.ModuleState.{ModuleState}
use Rattle.mem_module.specs.declared.step.ModuleTraffic.{ModuleTraffic}
use Rattle.mem_module.specs.MemModule.{is_net, answer_to, words_after, turn_from, module_serving}
use Rattle.ref_proc.specs.declared.state.Outgoing.{Outgoing}
use Rattle.ref_proc.specs.declared.state.ProcState.{ProcState}
use Rattle.ref_proc.specs.declared.step.ProcSettings.{ProcSettings}
use Rattle.ref_proc.specs.RefProc.{proc_after}
use Rattle.flat_row.specs.Row.{out_from}
use Rattle.flat_row.specs.Rows.{if_leaves}

-- a module, by the network that it serves
module _ (words : List Stored) (low comb : ArrayVec Request) (low_replies comb_replies : ArrayVec Reply) (turn : Net) (served : Bool)
    (low_in comb_in : Option Request) (low_leaves comb_leaves : Bool) where
  abbrev was : ModuleState
  was = record { words = words; requests = low ∷ comb ∷ []; replies = low_replies ∷ comb_replies ∷ []; turn = turn; served = served }

  abbrev traffic : ModuleTraffic
  traffic = record { requests = low_in ∷ comb_in ∷ []; replies_leave = low_leaves ∷ comb_leaves ∷ [] }

  abbrev made_so : List Stored → ArrayVec Request → ArrayVec Request → ArrayVec Reply → ArrayVec Reply → Net → Bool → ModuleState
  made_so ws a b c d t v = record { words = ws; requests = a ∷ b ∷ []; replies = c ∷ d ∷ []; turn = t; served = v }

  -- what serving leaves, by which of both it serves
  abbrev with_served : Bool → Bool → Option Reply → Option Reply → Net → Bool → ModuleState
  with_served at_low at_comb low_answer comb_answer next v =
      made_so (words_after (words_after words (if_leaves at_low low)) (if_leaves at_comb comb)) (joined (without_head at_low low) low_in) (joined (without_head at_comb comb) comb_in)
      (joined (without_head low_leaves low_replies) low_answer) (joined (without_head comb_leaves comb_replies) comb_answer) next v

  -- the answer on a network is that of the words when it is served
  answered : Bool → Option Reply → List Stored → ArrayVec Request → Type 0
  answered at answer ws q = answer ≡ cond at (answer_to ws (head q)) None

  pub module_steps : (N : Option Net) (at_low at_comb : Bool) (low_answer comb_answer : Option Reply) (next : Net) (v : Bool)
      → at_low ≡ is_net LowNet N → at_comb ≡ is_net CombNet N
      → low_answer ≡ cond at_low (answer_to words (head low)) None → comb_answer ≡ cond at_comb (answer_to (words_after words (if_leaves at_low low)) (head comb)) None
      → next ≡ turn_from turn N → v ≡ is_some N
      → with_served at_low at_comb low_answer comb_answer next v ≡ module_serving traffic was N
  module_steps N at_low at_comb low_answer comb_answer next v a c d f g h =
      ap (λ m. with_served at_low at_comb m comb_answer next v) d
      ∙ ap (λ m. with_served at_low at_comb (cond at_low (answer_to words (head low)) None) m next v) f
      ∙ ap (λ t. with_served t at_comb (cond t (answer_to words (head low)) None) (cond at_comb (answer_to (words_after words (if_leaves t low)) (head comb)) None) next v) a
      ∙ ap (λ t. with_served (is_net LowNet N) t (cond (is_net LowNet N) (answer_to words (head low)) None) (cond t (answer_to (words_after words (if_leaves (is_net LowNet N) low)) (head comb)) None) next v) c
      ∙ ap (λ t. with_served (is_net LowNet N) (is_net CombNet N) (cond (is_net LowNet N) (answer_to words (head low)) None) (cond (is_net CombNet N) (answer_to (words_after words (if_leaves (is_net LowNet N) low)) (head comb)) None) t v) g
      ∙ ap (λ t. with_served (is_net LowNet N) (is_net CombNet N) (cond (is_net LowNet N) (answer_to words (head low)) None) (cond (is_net CombNet N) (answer_to (words_after words (if_leaves (is_net LowNet N) low)) (head comb)) None) (turn_from turn N) t) h
      ∙ by_net N
    where
      by_net : (N : Option Net)
          → with_served (is_net LowNet N) (is_net CombNet N) (cond (is_net LowNet N) (answer_to words (head low)) None) (cond (is_net CombNet N) (answer_to (words_after words (if_leaves (is_net LowNet N) low)) (head comb)) None) (turn_from turn N) (is_some N)
          ≡ module_serving traffic was N
      by_net None = refl
      by_net (Some LowNet) = refl
      by_net (Some CombNet) = refl

-- what a processor shows when what leaves has left
pub out_left : (low comb : ArrayVec Request) (at_low at_comb : Bool) → length low.items + length comb.items ≤ 1
    → out_from (head (without_head at_low low)) (head (without_head at_comb comb))
    ≡ cond (is_some (if_leaves at_low low) || is_some (if_leaves at_comb comb)) None (out_from (head low) (head comb))
out_left low comb at_low at_comb h = by_items low.items comb.items h at_low at_comb
  where
    by_items : (xs ys : List Request) → length xs + length ys ≤ 1 → (s t : Bool)
        → out_from (head (without_head s (record { items = xs }))) (head (without_head t (record { items = ys })))
        ≡ cond (is_some (if_leaves s (record { items = xs })) || is_some (if_leaves t (record { items = ys }))) None (out_from (slice_get xs 0) (slice_get ys 0))
    by_items [] [] g true true = refl
    by_items [] [] g true false = refl
    by_items [] [] g false true = refl
    by_items [] [] g false false = refl
    by_items (r ∷ []) [] g true true = refl
    by_items (r ∷ []) [] g true false = refl
    by_items (r ∷ []) [] g false true = refl
    by_items (r ∷ []) [] g false false = refl
    by_items [] (r ∷ []) g true true = refl
    by_items [] (r ∷ []) g true false = refl
    by_items [] (r ∷ []) g false true = refl
    by_items [] (r ∷ []) g false false = refl
    by_items (r ∷ p ∷ xs) ys g s t = absurd (omega arith)
    by_items (r ∷ []) (p ∷ ys) g s t = absurd (omega arith)
    by_items [] (r ∷ p ∷ ys) g s t = absurd (omega arith)

-- a processor steps alike where what leaves has left before
pub proc_steps : (settings : ProcSettings) (replies : List (Option Reply)) (s : ProcState) (leaves : Bool) (left out : Option Outgoing) → left ≡ cond leaves None out
    → proc_after settings (record { replies = replies; request_leaves = false }) (record s { out = left })
    ≡ proc_after settings (record { replies = replies; request_leaves = leaves }) (record s { out = out })
proc_steps settings replies s leaves left out e =
    ap (λ o. proc_after settings (record { replies = replies; request_leaves = false }) (record s { out = o })) e
