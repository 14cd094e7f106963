-- What words say of components.
use Rattle.std.specs.Prelude.{◌≡◌, ℕ, ◌+◌, ◌%◌, ◌^◌, ◌<◌, List, ◌∷◌, length, All}
use Rattle.ref_proc.specs.declared.state.ProcState.{ProcState}
use Rattle.mem_module.specs.declared.words.Stored.{Stored}
use Rattle.mem_module.specs.declared.state.ModuleState.{ModuleState}
use Rattle.low_switch.specs.declared.state.LowState.{LowState}
use Rattle.comb_switch.specs.declared.state.CombState.{CombState}
use Rattle.state_words.specs.Words.{proc_head, proc_body, module_head, module_body, low_head, low_body, comb_head, comb_body, length_of}
use Rattle.state_words.specs.Fits.{IsProc, IsModule, IsLow, IsComb}
use Rattle.state_words.specs.Reading.{proc_from, module_from, low_from, comb_from}

-- a component is the one that its head and the words after it are; a module's memory stands beside them
abbrev pub ProcsAreTold : Type 0
ProcsAreTold = (s : ProcState) → IsProc s → proc_from (proc_head s) (proc_body s) ≡ s

abbrev pub ModulesAreTold : Type 0
ModulesAreTold = (s : ModuleState) (memory : List Stored) → IsModule s → module_from (module_head s) (module_body s) memory ≡ record s { words = memory }

abbrev pub LowsAreTold : Type 0
LowsAreTold = (s : LowState) → IsLow s → low_from (low_head s) (low_body s) ≡ s

abbrev pub CombsAreTold : Type 0
CombsAreTold = (s : CombState) → IsComb s → comb_from (comb_head s) (comb_body s) ≡ s

-- a head has the number of the kind, says how many words there are, and each word has 64 bits
pub record AreWords (number head : ℕ) (body : List ℕ) : Type 0 where
  pub kind : head % 2 ^ 2 ≡ number
  pub exact : 1 + length body ≡ length_of head
  pub fit : All (λ w. w < 2 ^ 64) (head ∷ body)

abbrev pub ProcsAreWords : Type 0
ProcsAreWords = (s : ProcState) → IsProc s → AreWords 0 (proc_head s) (proc_body s)

abbrev pub ModulesAreWords : Type 0
ModulesAreWords = (s : ModuleState) → IsModule s → AreWords 1 (module_head s) (module_body s)

abbrev pub LowsAreWords : Type 0
LowsAreWords = (s : LowState) → IsLow s → AreWords 2 (low_head s) (low_body s)

abbrev pub CombsAreWords : Type 0
CombsAreWords = (s : CombState) → IsComb s → AreWords 3 (comb_head s) (comb_body s)
