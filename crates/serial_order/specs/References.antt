-- The references of a run: what was issued, what was received, and the word that references leave when they are done one after another.
use Rattle.std.specs.Prelude.{◌≡◌, ℕ, ◌<◌, true, List, [], ◌∷◌, Some, ◌⊎◌}
use Rattle.word_ops.specs.Words.{word_after}
use Rattle.omega_net.specs.declared.component.Net.{Net}
use Rattle.omega_net.specs.declared.component.Component.TheVariants.{Proc as ProcAt}
use Rattle.omega_net.specs.declared.message.Request.{Request}
use Rattle.omega_net.specs.declared.message.Reply.{Reply}
use Rattle.omega_net.specs.Numbers.{lines, number_of}
use Rattle.omega_net.specs.Ports.{message_at}
use Rattle.ref_proc.specs.declared.state.ProcState.{ProcState}
use Rattle.machine_cells.specs.declared.state.MachineState.TheVariants.{Proc}
use Rattle.machine_cells.specs.Run.{run}
use Rattle.machine_cells.specs.Runs.{state_in}
use Rattle.project_book.specs.Project.{Project}

-- a reference as its processor issued it: its request, and the network that it went out on
pub record Reference : Type 0 where
  pub net : Net
  pub request : Request

-- it was issued in the run: at some cycle a processor has just sent it
pub record WasIssued (P : Project) (g : Reference) : Type 0 where
  pub cycle : ℕ
  pub proc : ℕ
  pub there : proc < lines P.k
  pub state : ProcState
  pub is : state_in (run P) cycle (number_of P.k (ProcAt proc)) ≡ Some (Proc state)
  pub sent : state.sent ≡ true
  pub out : state.out ≡ Some (record { net = g.net; request = g.request })

-- a reply was received in the run: at some cycle a processor has just got it, on port 0 or 1
pub record WasReceived (P : Project) (y : Reply) : Type 0 where
  pub cycle : ℕ
  pub proc : ℕ
  pub there : proc < lines P.k
  pub state : ProcState
  pub is : state_in (run P) cycle (number_of P.k (ProcAt proc)) ≡ Some (Proc state)
  pub port : ℕ
  pub two : port < 2
  pub got : message_at state.got port ≡ Some y

-- the word that references leave of another, done one after another
abbrev pub word_after_all : List Reference → ℕ → ℕ
word_after_all [] w = w
word_after_all (g ∷ gs) w = word_after_all gs (word_after g.request.op w)

-- what stands in a list; what each that stands in it is; what every two of them are, the earlier one first
abbrev pub In : {X : Type 0} → X → List X → Type 0
In x [] = ⊥
In x (y ∷ ys) = (x ≡ y) ⊎ In x ys

abbrev pub Each : {X : Type 0} → (X → Type 0) → List X → Type 0
Each P [] = Unit {0}
Each P (x ∷ xs) = P x × Each P xs

abbrev pub Pairs : {X : Type 0} → (X → X → Type 0) → List X → Type 0
Pairs R [] = Unit {0}
Pairs R (x ∷ xs) = Each (R x) xs × Pairs R xs
