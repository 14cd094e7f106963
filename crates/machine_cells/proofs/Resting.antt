-- A switch or a module in which nothing happens stays as it is.
use Rattle.std.proofs.Common.{◌≡◌, ℕ, List, [], ◌∷◌, length, get_or, Bool, false, refl, ap, sym, ◌∙◌, arith}
use Rattle.arrayvec.specs.ArrayVec.{ArrayVec}
use Rattle.omega_net.specs.declared.component.Net.{Net}
use Rattle.omega_net.specs.declared.message.Request.{Request}
use Rattle.omega_net.specs.declared.message.Reply.{Reply}
use Rattle.omega_net.specs.Ports.{empty, queue_at}
use Rattle.low_switch.specs.declared.state.LowState.{LowState}
use Rattle.low_switch.specs.LowSwitch.{low_after}
use Rattle.comb_switch.specs.declared.state.CombState.{CombState}
use Rattle.comb_switch.specs.declared.settings.CombSettings.{CombSettings}
use Rattle.comb_switch.specs.declared.waiting.Waiting.{Waiting}
use Rattle.comb_switch.specs.CombSwitch.{comb_after}
use Rattle.mem_module.specs.declared.state.ModuleState.{ModuleState}
use Rattle.mem_module.specs.declared.words.Stored.{Stored}
use Rattle.mem_module.specs.MemModule.{module_after}
use Rattle.machine_cells.specs.Quiet.{quiet, quiet_module}

-- a list of two is its items
two_of : {X : Type 0} (d e : X) (xs : List X) → length xs ≡ 2 → get_or xs 0 d ∷ get_or xs 1 e ∷ [] ≡ xs
two_of d e [] h = absurd (omega arith)
two_of d e (x ∷ []) h = absurd (omega arith)
two_of d e (x ∷ y ∷ []) h = refl
two_of d e (x ∷ y ∷ z ∷ xs) h = absurd (omega arith)

abbrev low_of : List (ArrayVec Request) → List ℕ → List (ArrayVec Reply) → List ℕ → LowState
low_of f t r u = record { fwd = f; turn = t; rev = r; rturn = u }

pub low_rests : (b : ℕ) (s : LowState) → length s.fwd ≡ 2 → length s.turn ≡ 2 → length s.rev ≡ 2 → length s.rturn ≡ 2 → low_after b quiet s ≡ s
low_rests b s forward turns back returns =
    ap (λ f. low_of f (get_or s.turn 0 0 ∷ get_or s.turn 1 0 ∷ []) (get_or s.rev 0 empty ∷ get_or s.rev 1 empty ∷ []) (get_or s.rturn 0 0 ∷ get_or s.rturn 1 0 ∷ [])) (two_of empty empty s.fwd forward)
    ∙ ap (λ t. low_of s.fwd t (get_or s.rev 0 empty ∷ get_or s.rev 1 empty ∷ []) (get_or s.rturn 0 0 ∷ get_or s.rturn 1 0 ∷ [])) (two_of 0 0 s.turn turns)
    ∙ ap (λ r. low_of s.fwd s.turn r (get_or s.rturn 0 0 ∷ get_or s.rturn 1 0 ∷ [])) (two_of empty empty s.rev back)
    ∙ ap (λ u. low_of s.fwd s.turn s.rev u) (two_of 0 0 s.rturn returns)

abbrev comb_of : List (ArrayVec Request) → List ℕ → List (ArrayVec Reply) → ℕ → ArrayVec Waiting → ℕ → CombState
comb_of f t r u w n = record { fwd = f; turn = t; rev = r; rturn = u; wait = w; combined = n }

pub comb_rests : (settings : CombSettings) (s : CombState) → length s.fwd ≡ 2 → length s.turn ≡ 2 → length s.rev ≡ 2 → s.combined ≡ 0 → comb_after settings quiet s ≡ s
comb_rests settings s forward turns back none =
    ap (λ f. comb_of f (get_or s.turn 0 0 ∷ get_or s.turn 1 0 ∷ []) (get_or s.rev 0 empty ∷ get_or s.rev 1 empty ∷ []) s.rturn s.wait 0) (two_of empty empty s.fwd forward)
    ∙ ap (λ t. comb_of s.fwd t (get_or s.rev 0 empty ∷ get_or s.rev 1 empty ∷ []) s.rturn s.wait 0) (two_of 0 0 s.turn turns)
    ∙ ap (λ r. comb_of s.fwd s.turn r s.rturn s.wait 0) (two_of empty empty s.rev back)
    ∙ ap (λ n. comb_of s.fwd s.turn s.rev s.rturn s.wait n) (sym none)

abbrev module_of : List Stored → List (ArrayVec Request) → List (ArrayVec Reply) → Net → Bool → ModuleState
module_of words asked answers turn served = record { words = words; requests = asked; replies = answers; turn = turn; served = served }

empty_rests : (depth : ℕ) (words : List Stored) (answers : List (ArrayVec Reply)) (turn : Net) → length answers ≡ 2
    → module_after depth quiet_module (module_of words (empty ∷ empty ∷ []) answers turn false) ≡ module_of words (empty ∷ empty ∷ []) answers turn false
empty_rests depth words answers turn two = ap (λ r. module_of words (empty ∷ empty ∷ []) r turn false) (two_of empty empty answers two)

pub module_rests : (depth : ℕ) (s : ModuleState) → length s.requests ≡ 2 → length s.replies ≡ 2 → s.served ≡ false
    → queue_at s.requests 0 ≡ empty → queue_at s.requests 1 ≡ empty → module_after depth quiet_module s ≡ s
module_rests depth s asked answers none first second =
    ap (module_after depth quiet_module) is ∙ empty_rests depth s.words s.replies s.turn answers ∙ sym is
  where
    both : s.requests ≡ empty ∷ empty ∷ []
    both = sym (two_of empty empty s.requests asked) ∙ ap (λ q. q ∷ queue_at s.requests 1 ∷ []) first ∙ ap (λ q. empty ∷ q ∷ []) second

    is : s ≡ module_of s.words (empty ∷ empty ∷ []) s.replies s.turn false
    is = ap (λ r. module_of s.words r s.replies s.turn s.served) both ∙ ap (λ b. module_of s.words (empty ∷ empty ∷ []) s.replies s.turn b) none
