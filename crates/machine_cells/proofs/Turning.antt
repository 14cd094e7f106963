-- A processor's index never falls along a run.
use Rattle.std.proofs.Common.{◌≡◌, ◌≢◌, ℕ, zero, suc, ◌+◌, ◌-◌, ◌*◌, ◌<◌, ◌≤◌, ◌/◌, ◌%◌, ◌^◌, Bool, true, false, cond, List, [], ◌∷◌, map, refl, ap, sym, ◌∙◌, subst, Option, None, Some, is_some, arith, rules, lit<}
use Rattle.grid_law.specs.Run.{run}
use Rattle.omega_net.specs.declared.component.Component.TheVariants.{Proc as ProcAt}
use Rattle.omega_net.specs.declared.script.ScriptEntry.{ScriptEntry}
use Rattle.omega_net.specs.declared.script.ScriptEntry.TheVariants.{Reference, Until, Fence, Idle}
use Rattle.omega_net.specs.Numbers.{component_of}
use Rattle.omega_net.specs.Ports.{message_at}
use Rattle.word_ops.specs.declared.op.Op.{Op}
use Rattle.ref_proc.specs.declared.state.ProcState.{ProcState}
use Rattle.ref_proc.specs.declared.step.ProcSettings.{ProcSettings}
use Rattle.ref_proc.specs.declared.step.ProcTraffic.{ProcTraffic}
use Rattle.ref_proc.specs.RefProc.{proc_start, proc_after, taking, next_entry, on_after, spending, referring, issuing, tries, trying, fencing, acting}
use Rattle.state_words.specs.Words.{one_if}
use Rattle.project_book.specs.Project.{Project}
use Rattle.project_book.specs.declared.slot.Slot.{Slot}
use Rattle.project_book.specs.declared.slot.Slot.TheVariants.{Entry}
use Rattle.machine_cells.specs.declared.state.MachineState.{MachineState}
use Rattle.machine_cells.specs.declared.state.MachineState.TheVariants.{Proc}
use Rattle.machine_cells.specs.Words.{words_of}
use Rattle.machine_cells.specs.Cells.{proc_pulls, pulled}
use Rattle.machine_cells.specs.Cycle.{proc_settings}
use Rattle.machine_cells.specs.Run.{start_of}
use Rattle.machine_cells.specs.Reads.{reads, is_listed, later_reads, or_shape}
use Rattle.machine_cells.specs.Turns.{index_of, ReadsNot, IsAhead, IsPassed}
use Rattle.machine_cells.specs.GridRules.{rp3_rules, near_cells}
use Rattle.machine_cells.proofs.Entries.{by_index}

-- a processor whose index isn't below this one, and fits its type
record IsFrom (low : ℕ) (s : ProcState) : Type 0 where
  above : low ≤ s.index
  fits : s.index < 2 ^ 16

module _ (low : ℕ) where
  either_from : (b : Bool) (s u : ProcState) → IsFrom low s → IsFrom low u → IsFrom low (cond b s u)
  either_from true s u hs hu = hs
  either_from false s u hs hu = hu

  next_from : (s : ProcState) → IsFrom low s → IsFrom low (next_entry s)
  next_from s h = record { above = omega (arith, h.above, h.fits); fits = omega arith }

  spending_from : (s : ProcState) → IsFrom low s → IsFrom low (spending s)
  spending_from s h = record { above = h.above; fits = h.fits }

  on_from : (turns : ℕ) (s : ProcState) → IsFrom low s → IsFrom low (on_after turns s)
  on_from turns s h = either_from _ (next_entry s) s (next_from s h) h

  referring_from : (settings : ProcSettings) (sync : Bool) (op : Op) (s : ProcState) → IsFrom low s → IsFrom low (referring settings sync op s)
  referring_from settings sync op s h = either_from _ (issuing settings sync op s) s (record { above = h.above; fits = h.fits }) h

  trying_from : (settings : ProcSettings) (sync : Bool) (op : Op) (value times : ℕ) (s : ProcState) → IsFrom low s → IsFrom low (trying settings sync op value times s)
  trying_from settings sync op value times s h = either_from (tries value times s) _ _ (referring_from settings sync op s h) (either_from _ (next_entry s) s (next_from s h) h)

  fencing_from : (s : ProcState) → IsFrom low s → IsFrom low (fencing s)
  fencing_from s h = either_from _ (next_entry s) s (next_from s h) h

  acting_from : (settings : ProcSettings) (entry : Option ScriptEntry) (s : ProcState) → IsFrom low s → IsFrom low (acting settings entry s)
  acting_from settings None s h = h
  acting_from settings (Some (Reference sync op address times)) s h = on_from times (referring settings sync op s) (referring_from settings sync op s h)
  acting_from settings (Some (Until sync op address value times)) s h = trying_from settings sync op value times s h
  acting_from settings (Some Fence) s h = fencing_from s h
  acting_from settings (Some (Idle turns)) s h = on_from turns (spending s) (spending_from s h)

  after_from : (settings : ProcSettings) (t : ProcTraffic) (s : ProcState) → IsFrom low s → IsFrom low (proc_after settings t s)
  after_from settings t s h = acting_from settings settings.entry (taking t s) (record { above = h.above; fits = h.fits })

  -- a state that is such a processor's
  record IsProcFrom (x : MachineState) : Type 0 where
    state : ProcState
    is : x ≡ Proc state
    from : IsFrom low state

  module _ (P : Project) (c p : ℕ) (at : component_of P.k c ≡ Some (ProcAt p)) where
    pulled_from : (N : List MachineState) (x : MachineState) → IsProcFrom x → IsProcFrom (pulled P N (component_of P.k c) x)
    pulled_from N x h = record {
      state = proc_after (proc_settings P p h.state.index) (proc_pulls P N p) h.state;
      is = ap (λ o. pulled P N o x) at ∙ ap (pulled P N (Some (ProcAt p))) h.is;
      from = after_from (proc_settings P p h.state.index) (proc_pulls P N p) h.state h.from;
    }

    later_from : (t d : ℕ) → IsProcFrom (run rp3_rules P t c) → IsProcFrom (run rp3_rules P (d + t) c)
    later_from t zero h = let same : t ≡ 0 + t = omega arith in subst (λ n. IsProcFrom (run rp3_rules P n c)) same h
    later_from t (suc d) h =
        let same : suc (d + t) ≡ suc d + t = omega arith in
        subst (λ n. IsProcFrom (run rp3_rules P n c)) same (pulled_from (map (run rp3_rules P (d + t)) (near_cells P.k c)) (run rp3_rules P (d + t) c) (later_from t d h))

    by_then : (t u : ℕ) → t ≤ u → IsProcFrom (run rp3_rules P t c) → IsProcFrom (run rp3_rules P u c)
    by_then t u h from =
        let same : (u - t) + t ≡ u = omega (arith, h) in
        subst (λ n. IsProcFrom (run rp3_rules P n c)) same (later_from t (u - t) from)

-- at each cycle of a run a processor is one
each_from : (P : Project) (c p : ℕ) → component_of P.k c ≡ Some (ProcAt p) → (t : ℕ) → IsProcFrom 0 (run rp3_rules P t c)
each_from P c p at t =
    by_then 0 P c p at 0 t (omega arith) (record { state = proc_start; is = ap (start_of P) at; from = record { above = omega arith; fits = omega arith } })

-- the index is among the words
one_small : (b : Bool) → one_if b < 2
one_small true = lit< tt
one_small false = lit< tt

index_back : (o f g t i p : ℕ) → o < 2 → f < 2 → g < 2 → t < 2 → i < 2 ^ 16 → (2 ^ 2 * o + 2 ^ 3 * f + 2 ^ 4 * g + 2 ^ 5 * t + 2 ^ 6 * i + 2 ^ 22 * p) / 2 ^ 6 % 2 ^ 16 ≡ i
index_back o f g t i p ho hf hg ht hi = omega (arith, ho, hf, hg, ht, hi)

index_told : (s : ProcState) → s.index < 2 ^ 16 → index_of (words_of (Proc s)) ≡ s.index
index_told s h =
    index_back (one_if (is_some s.out)) (one_if (is_some (message_at s.got 0))) (one_if (is_some (message_at s.got 1))) (one_if s.sent) s.index s.pending
    (one_small (is_some s.out)) (one_small (is_some (message_at s.got 0))) (one_small (is_some (message_at s.got 1))) (one_small s.sent) h

module _ (P : Project) (c p : ℕ) (at : component_of P.k c ≡ Some (ProcAt p)) (ws : List ℕ) (slot : Slot) where
  not_read : (x : MachineState) (s : ProcState) → x ≡ Proc s → ReadsNot p s slot → reads P (x ∷ []) c slot ≡ false
  not_read x s is none =
      ap (λ o. or_shape slot (is_listed (later_reads P o x) slot)) at ∙ ap (λ y. or_shape slot (is_listed (later_reads P (Some (ProcAt p)) y) slot)) is ∙ none P

  pub turn_ahead : IsAhead p ws slot → (t u : ℕ) → words_of (run rp3_rules P t c) ≡ ws → u ≤ t → rp3_rules.reads P (run rp3_rules P u c ∷ []) c slot ≡ false
  turn_ahead ahead t u words h =
      let first = each_from P c p at u in
      let last = by_then first.state.index P c p at u t h (record { state = first.state; is = first.is; from = record { above = omega arith; fits = first.from.fits } }) in
      let index : last.state.index ≡ index_of ws = sym (index_told last.state last.from.fits) ∙ ap (λ x. index_of (words_of x)) (sym last.is) ∙ ap index_of words in
      not_read (run rp3_rules P u c) first.state first.is (ahead first.state (subst (λ n. first.state.index ≤ n) index last.from.above))

  pub turn_passed : IsPassed p ws slot → (t u : ℕ) → words_of (run rp3_rules P t c) ≡ ws → t ≤ u → rp3_rules.reads P (run rp3_rules P u c ∷ []) c slot ≡ false
  turn_passed passed t u words h =
      let first = each_from P c p at t in
      let last = by_then first.state.index P c p at t u h (record { state = first.state; is = first.is; from = record { above = omega arith; fits = first.from.fits } }) in
      let index : first.state.index ≡ index_of ws = sym (index_told first.state first.from.fits) ∙ ap (λ x. index_of (words_of x)) (sym first.is) ∙ ap index_of words in
      not_read (run rp3_rules P u c) last.state last.is (passed last.state (subst (λ n. n ≤ last.state.index) index last.from.above))

-- an entry at another index isn't read
other_index : (b : Bool) (p i q j : ℕ) → i ≢ j → is_listed (cond b (Entry p i ∷ []) []) (Entry q j) ≡ false
other_index true p i q j h = search rules
other_index false p i q j h = refl

index_reads_not : (p j : ℕ) (s : ProcState) → s.index ≢ j → ReadsNot p s (Entry p j)
index_reads_not p j s h P = by_index p s.index P.k p j _ s.out ∙ other_index _ p s.index p j h

pub ahead_by_index : (p i j : ℕ) (ws : List ℕ) (slot : Slot) → slot ≡ Entry p j → i ≡ index_of ws → i < j → IsAhead p ws slot
ahead_by_index p i j ws slot is at h s below = subst (ReadsNot p s) (sym is) (index_reads_not p j s (λ e. omega (arith, h, e, at, below)))

pub passed_by_index : (p i j : ℕ) (ws : List ℕ) (slot : Slot) → slot ≡ Entry p j → i ≡ index_of ws → j < i → IsPassed p ws slot
passed_by_index p i j ws slot is at h s above = subst (ReadsNot p s) (sym is) (index_reads_not p j s (λ e. omega (arith, h, e, at, above)))
