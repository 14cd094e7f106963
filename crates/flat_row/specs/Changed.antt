-- What a step changes of a row: sets of components, outside of which each is as it was.
use Rattle.std.specs.Prelude.{◌≡◌, ℕ, suc, ◌-◌, ◌<◌, ◌==◌, ◌&&◌, ◌||◌, Bool, true, false, Some, slice_index_or}
use Rattle.omega_net.specs.declared.component.Net.TheVariants.{Low as LowNet, Comb as CombNet}
use Rattle.omega_net.specs.declared.component.Component.{Component}
use Rattle.omega_net.specs.declared.component.Component.TheVariants.{Proc as ProcAt, Module as ModuleAt, Switch}
use Rattle.omega_net.specs.Numbers.{lines, Exists}
use Rattle.omega_net.specs.Wires.{bit}
use Rattle.flat_row.specs.declared.changed.Changed.{Changed}
use Rattle.flat_row.specs.declared.decide.Served.{Served}
use Rattle.flat_row.specs.declared.leaving.Plan.{Plan}
use Rattle.flat_row.specs.Labels.{port, switch_label}
use Rattle.flat_row.specs.Masks.{has, are_empty, IsSetOf}
use Rattle.flat_row.specs.Row.{Arrays, Buffers, buffers_at, module_of, state_of}
use Rattle.flat_row.specs.Moving.{leaves_forth, leaves_back}

-- whether a component of a machine of 2^k processors is in these sets: a switch by its label of port 0
abbrev pub has_changed : ℕ → Changed → Component → Bool
has_changed k c (ProcAt p) = has c.procs p
has_changed k c (ModuleAt m) = has c.modules m
has_changed k c (Switch LowNet s j) = has (slice_index_or c.low s 0) (switch_label k s j)
has_changed k c (Switch CombNet s j) = has (slice_index_or c.comb s 0) (switch_label k s j)

-- whether nothing has changed
abbrev pub none_changed : Changed → Bool
none_changed c = (c.procs == 0) && ((c.modules == 0) && (are_empty c.low && are_empty c.comb))

-- outside of these sets each component of the machine is as it was
abbrev pub SameOutside : ℕ → Changed → Arrays → Arrays → Type 0
SameOutside k changed old new = (c : Component) → Exists k c → has_changed k changed c ≡ false → state_of new (Some c) ≡ state_of old (Some c)

-- the modules that are said to have written, and no others of the machine, have other words of memory than before
pub record TellsMemory (k : ℕ) (c : Changed) (old new : Arrays) : Type 0 where
  pub same : (m : ℕ) → m < lines k → has c.wrote m ≡ false → (module_of new m).words ≡ (module_of old m).words
  pub other : (m : ℕ) → m < lines k → has c.wrote m ≡ true → (module_of new m).words ≡ (module_of old m).words → ⊥

-- whether a message comes to a switch of a stage at the port of a label, or leaves it there, by what leaves the levels
abbrev pub passes : ℕ → Plan → ℕ → ℕ → Bool
passes k plan s x =
    (has (slice_index_or plan.forth.leave s 0) x || leaves_forth k plan.forth.leave plan.enter (suc s) x)
    || (has (slice_index_or plan.back.leave s 0) x || leaves_back plan.receive plan.back.leave s x)

-- the same at either port of the switch that has label x at port 0
abbrev pub crosses : ℕ → Plan → ℕ → ℕ → Bool
crosses k plan s x = (bit (k - 1 - s) x == 0) && (passes k plan s x || passes k plan s (port (k - 1 - s) 1 x))

-- whether nothing moves on a network
abbrev pub is_still : Plan → Bool
is_still plan = (plan.enter == 0) && ((plan.receive == 0) && (are_empty plan.forth.leave && are_empty plan.back.leave))

-- whether a switch combined in the cycle before
abbrev pub has_combined : Buffers → ℕ → Bool
has_combined b x = has b.once x || has b.twice x

-- where something moves in a cycle, or a mark of the cycle before falls: processors whose requests leave; modules that serve or served,
-- that a request enters or a reply leaves; switches that a message comes to or leaves, and combining ones that combined
pub record AreTouched (k : ℕ) (R : Arrays) (served : Served) (low comb : Plan) (set : Changed) : Type 0 where
  pub procs : IsSetOf (λ p. leaves_forth k low.forth.leave low.enter 0 p || leaves_forth k comb.forth.leave comb.enter 0 p) set.procs
  pub modules : IsSetOf (λ m. ((has R.served m || (has served.low m || has served.comb m)) || (has low.enter m || has comb.enter m))
      || (leaves_back low.receive low.back.leave k m || leaves_back comb.receive comb.back.leave k m)) set.modules
  pub low_switches : (s : ℕ) → s < k → IsSetOf (crosses k low s) (slice_index_or set.low s 0)
  pub comb_switches : (s : ℕ) → s < k → IsSetOf (λ x. crosses k comb s x || has_combined (buffers_at R s) x) (slice_index_or set.comb s 0)
