-- The references of a run, each with the cycles that show its issue and its reply.
use Rattle.std.specs.Prelude.{ℕ, zero, suc, ◌+◌, ◌-◌, ◌^◌, ◌&&◌, nat_lt, if◌then◌else◌, List, [], ◌∷◌, Option, None, Some, is_some, option_to_list}
use Rattle.std.specs.List.{flat_map}
use Rattle.omega_net.specs.Wires.{below}
use Rattle.omega_net.specs.declared.script.ScriptEntry.{ScriptEntry}
use Rattle.project_book.specs.Project.{Project, entry_at}
use Rattle.machine_cells.specs.declared.state.MachineState.{MachineState}
use Rattle.machine_cells.specs.declared.state.MachineState.TheVariants.{Proc}
use Rattle.run_queries.specs.Answers.{first_of, has_sent, word_got}
use Rattle.run_reports.specs.declared.reference.Reference.{Reference}

-- the entry of its script that processor p in this state has come to
abbrev pub entry_of : Project → ℕ → Option MachineState → Option ScriptEntry
entry_of P p (Some (Proc s)) = entry_at P p s.index
entry_of P p _ = None

-- where the state of cycle u shows that processor p just issued a reference: that reference, for the entry that the processor had
-- come to in the state before
abbrev pub issue_at : Project → (ℕ → ℕ → Option MachineState) → ℕ → ℕ → Option Reference
issue_at P at p u = if has_sent (at u p) then Some (record { proc = p; issued = u; entry = entry_of P p (at (u - 1) p); answered = None }) else None

-- its references of the cycles before t, upwards: at place n that of issue n
abbrev pub issues : Project → (ℕ → ℕ → Option MachineState) → ℕ → ℕ → List Reference
issues P at p t = flat_map (λ u. option_to_list (issue_at P at p u)) (below t)

-- the first cycle behind u and before t whose state, of these states of a processor, shows a reply to its issue n
abbrev pub first_got : (ℕ → Option MachineState) → ℕ → ℕ → ℕ → Option ℕ
first_got at n u zero = None
first_got at n u (suc t) = first_of (first_got at n u t) (if nat_lt u t && is_some (word_got n (at t)) then Some t else None)

-- references, numbered from n on, with the replies to them that the cycles before t show
abbrev pub with_replies : (ℕ → Option MachineState) → ℕ → ℕ → List Reference → List Reference
with_replies at t n [] = []
with_replies at t n (r ∷ rest) = record r { answered = first_got at n r.issued t } ∷ with_replies at t (n + 1) rest

-- the references that a processor issued in the cycles before t, with their replies in these cycles
abbrev pub references_of : Project → (ℕ → ℕ → Option MachineState) → ℕ → ℕ → List Reference
references_of P at t p = with_replies (λ u. at u p) t 0 (issues P at p t)

-- the references of all processors in the cycles up to the horizon
abbrev pub references : Project → (ℕ → ℕ → Option MachineState) → List Reference
references P at = flat_map (references_of P at (suc P.horizon)) (below (2 ^ P.k))
