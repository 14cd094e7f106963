-- Nothing in this file needs believing: it is proofs, which stand here since a definition of `specs/` cites them.
-- Equal messages make equal traffic.
use Rattle.std.proofs.Common.{◌≡◌, ℕ, true, [], ◌∷◌, refl, Option, ◌||◌, eq-eqb}
use Rattle.std.specs.Prelude.{◌==◌, is_some}
use Rattle.omega_net.specs.declared.component.Net.{Net}
use Rattle.omega_net.specs.declared.component.Net.TheVariants.{Low, Comb}
use Rattle.omega_net.specs.declared.component.Component.TheVariants.{Module as ModuleAt}
use Rattle.omega_net.specs.declared.message.Request.{Request}
use Rattle.omega_net.specs.declared.message.Reply.{Reply}
use Rattle.omega_net.specs.declared.message.Traffic.{Traffic}
use Rattle.omega_net.specs.Wires.{net_number, lower_end, wire_of_module}
use Rattle.ref_proc.specs.declared.step.ProcTraffic.{ProcTraffic}
use Rattle.mem_module.specs.declared.step.ModuleTraffic.{ModuleTraffic}

pub same_net : (m n : Net) → (net_number m == net_number n) ≡ true → m ≡ n
same_net Low Low e = refl
same_net Low Comb e = cc
same_net Comb Low e = cc
same_net Comb Comb e = refl

-- the wire of a module ends there
pub module_end : (k m : ℕ) (net : Net) → lower_end k (wire_of_module k net m) ≡ ModuleAt m
module_end k m net = rw (eq-eqb k k refl)

-- the traffic of these messages
abbrev pub traffic_from : Option Request → Option Request → Option Reply → Option Reply → Option Request → Option Request → Option Reply → Option Reply → Traffic
traffic_from a b c d e f g h = record {
  requests = a ∷ b ∷ [];
  replies = c ∷ d ∷ [];
  requests_leave = is_some e ∷ is_some f ∷ [];
  replies_leave = is_some g ∷ is_some h ∷ [];
}

pub same_traffic : (a a' b b' : Option Request) (c c' d d' : Option Reply) (e e' f f' : Option Request) (g g' h h' : Option Reply)
    → a ≡ a' → b ≡ b' → c ≡ c' → d ≡ d' → e ≡ e' → f ≡ f' → g ≡ g' → h ≡ h' → traffic_from a b c d e f g h ≡ traffic_from a' b' c' d' e' f' g' h'
same_traffic a a' b b' c c' d d' e e' f f' g g' h h' p q r s t u v w = rw (p, q, r, s, t, u, v, w)

abbrev pub proc_from : Option Reply → Option Reply → Option Request → Option Request → ProcTraffic
proc_from a b c d = record { replies = a ∷ b ∷ []; request_leaves = is_some c || is_some d }

pub same_proc : (a a' b b' : Option Reply) (c c' d d' : Option Request) → a ≡ a' → b ≡ b' → c ≡ c' → d ≡ d' → proc_from a b c d ≡ proc_from a' b' c' d'
same_proc a a' b b' c c' d d' p q r s = rw (p, q, r, s)

abbrev pub module_from : Option Request → Option Request → Option Reply → Option Reply → ModuleTraffic
module_from a b c d = record { requests = a ∷ b ∷ []; replies_leave = is_some c ∷ is_some d ∷ [] }

pub same_module : (a a' b b' : Option Request) (c c' d d' : Option Reply) → a ≡ a' → b ≡ b' → c ≡ c' → d ≡ d' → module_from a b c d ≡ module_from a' b' c' d'
same_module a a' b b' c c' d d' p q r s = rw (p, q, r, s)
