-- States are told by their words, but for a module's memory.
use Rattle.std.proofs.Common.{◌≡◌, ℕ, suc, ◌+◌, ◌%◌, ◌^◌, ◌==◌, if◌then◌else◌, Bool, true, false, cond, nat_eq, List, length, drop, slice_index, ◌≢◌, refl, sym, ap, ◌∙◌, Some, arith, Result, Ok, Err, IfOk}
use Rattle.std.proofs.lemmas.Bool.{eqb-true}
use Rattle.omega_net.specs.declared.component.Component.TheVariants.{Proc as ProcAt}
use Rattle.mem_module.specs.declared.words.Stored.{Stored}
use Rattle.comb_switch.specs.declared.state.CombState.{CombState}
use Rattle.project_book.specs.Project.{Project}
use Rattle.project_book.specs.declared.slot.Slot.{Slot}
use Rattle.grid_law.specs.Codec.{IsTold}
use Rattle.state_words.specs.Words.{proc_head, proc_body, module_head, module_body, low_head, low_body, comb_head, comb_body, length_of}
use Rattle.state_words.specs.Reading.{proc_from, module_from, low_from, comb_from}
use Rattle.state_words.proofs.Saying.{procs_are_told, modules_are_told, lows_are_told, combs_are_told, procs_are_words, modules_are_words, lows_are_words, combs_are_words}
use Rattle.machine_cells.specs.declared.state.MachineState.{MachineState}
use Rattle.machine_cells.specs.declared.state.MachineState.TheVariants.{Proc, Module, Low, Comb}
use Rattle.machine_cells.specs.Words.{head_of, words_of, memory_of, with_memory, state_with, state_from, IsState}
use Rattle.machine_cells.specs.WordLaws.{WordsTell, WordsAreStates, WordsAreWords, HeadsTellLengths}
use Rattle.machine_cells.specs.Codec.{memory_in, or_none, rp3_codec}
use Rattle.machine_cells.specs.Reads.{is_listed, later_reads}

-- a state
pub chosen : (h k : ℕ) (ws : List ℕ) (memory : List Stored) → h % 2 ^ 2 ≡ k
    → state_with h ws memory ≡ (if k == 0 then Proc (proc_from h ws) else if k == 1 then Module (module_from h ws memory) else if k == 2 then Low (low_from h ws) else Comb (comb_from h ws))
chosen h k ws memory e = ap (λ n. if n == 0 then Proc (proc_from h ws) else if n == 1 then Module (module_from h ws memory) else if n == 2 then Low (low_from h ws) else Comb (comb_from h ws)) e

pub state_back : (s : MachineState) (memory : List Stored) → IsState s → state_from (words_of s) memory ≡ with_memory memory s
state_back (Proc s) memory is = chosen (proc_head s) 0 (proc_body s) memory (procs_are_words s is).kind ∙ ap Proc (procs_are_told s is)
state_back (Module s) memory is = chosen (module_head s) 1 (module_body s) memory (modules_are_words s is).kind ∙ ap Module (modules_are_told s memory is)
state_back (Low s) memory is = chosen (low_head s) 2 (low_body s) memory (lows_are_words s is).kind ∙ ap Low (lows_are_told s is)
state_back (Comb s) memory is = chosen (comb_head s) 3 (comb_body s) memory (combs_are_words s is).kind ∙ ap Comb (combs_are_told s is)

-- what a call answers where it answers state_from
pub read_back : {E : Type 0} (r : Result MachineState E) (ws : List ℕ) (memory : List Stored) → IfOk r (λ x. x ≡ state_from ws memory)
    → (s : MachineState) → IsState s → ws ≡ words_of s → IfOk r (λ x. x ≡ with_memory memory s)
read_back (Ok x) ws memory h s is e = h ∙ ap (λ v. state_from v memory) e ∙ state_back s memory is
read_back (Err x) ws memory h s is e = h

-- of the last kind is what is of no other
pub comb_read : (ws : List ℕ) (memory : List Stored) (h : ℕ) (rest : List ℕ) (s : CombState) → h ≡ slice_index ws 0 → rest ≡ drop 1 ws
    → h % 2 ^ 2 ≢ 0 → h % 2 ^ 2 ≢ 1 → h % 2 ^ 2 ≢ 2 → s ≡ comb_from h rest → Comb s ≡ state_from ws memory
comb_read ws memory h rest s a b no_proc no_module no_low is =
    ap Comb is ∙ sym (chosen h 3 rest memory (omega (arith, no_proc, no_module, no_low)))
    ∙ ap (λ n. state_with n rest memory) a ∙ ap (λ v. state_with (slice_index ws 0) v memory) b

-- a state with its own memory is itself, and memory is in no word
own_memory : (s : MachineState) → with_memory (memory_of s) s ≡ s
own_memory (Proc s) = refl
own_memory (Module s) = refl
own_memory (Low s) = refl
own_memory (Comb s) = refl

no_memory : (s : MachineState) (memory : List Stored) → words_of (with_memory memory s) ≡ words_of s
no_memory (Proc s) memory = refl
no_memory (Module s) memory = refl
no_memory (Low s) memory = refl
no_memory (Comb s) memory = refl

told : (s u : MachineState) → IsState s → IsState u → words_of s ≡ words_of u → with_memory (memory_of u) s ≡ u
told s u a b e = sym (state_back s (memory_of u) a) ∙ ap (λ ws. state_from ws (memory_of u)) e ∙ state_back u (memory_of u) b ∙ own_memory u

pub words_tell : WordsTell
words_tell s u a b = (told s u a b, λ e. sym (no_memory s (memory_of u)) ∙ ap words_of e)

pub words_are_states : WordsAreStates
words_are_states s u a b e = (λ w. sym (ap (λ m. with_memory m s) (sym e) ∙ own_memory s) ∙ told s u a b w, λ same. ap words_of same)

pub words_are_words : WordsAreWords
words_are_words (Proc s) h = (procs_are_words s h).fit
words_are_words (Module s) h = (modules_are_words s h).fit
words_are_words (Low s) h = (lows_are_words s h).fit
words_are_words (Comb s) h = (combs_are_words s h).fit

one_more : (n m : ℕ) → 1 + n ≡ m → suc n ≡ m
one_more n m h = omega (arith, h)

exact : (s : MachineState) → IsState s → length (words_of s) ≡ length_of (head_of s)
exact (Proc s) h = one_more (length (proc_body s)) (length_of (proc_head s)) (procs_are_words s h).exact
exact (Module s) h = one_more (length (module_body s)) (length_of (module_head s)) (modules_are_words s h).exact
exact (Low s) h = one_more (length (low_body s)) (length_of (low_head s)) (lows_are_words s h).exact
exact (Comb s) h = one_more (length (comb_body s)) (length_of (comb_head s)) (combs_are_words s h).exact

pub heads_tell_lengths : HeadsTellLengths
heads_tell_lengths s h = record { exact = exact s h; some = omega arith }

-- with its own memory a state is told
with_own : (s : MachineState) → with_memory (or_none (memory_in s)) s ≡ s
with_own (Proc s) = refl
with_own (Module s) = refl
with_own (Low s) = refl
with_own (Comb s) = refl

pub told_state : (s : MachineState) → IsState s → IsTold rp3_codec s
told_state s h = state_back s (or_none (memory_in s)) h ∙ with_own s

-- of words of another kind a processor reads nothing
other_kinds : (P : Project) (p h : ℕ) (rest : List ℕ) (memory : List Stored) (slot : Slot) (x y z : Bool) → nat_eq (h % 2 ^ 2) 0 ≡ x → h % 2 ^ 2 ≢ 0
    → false ≡ is_listed (later_reads P (Some (ProcAt p)) (cond x (Proc (proc_from h rest)) (cond y (Module (module_from h rest memory)) (cond z (Low (low_from h rest)) (Comb (comb_from h rest)))))) slot
other_kinds P p h rest memory slot true y z e other = absurd (other (eqb-true (h % 2 ^ 2) 0 e))
other_kinds P p h rest memory slot false true z e other = refl
other_kinds P p h rest memory slot false false true e other = refl
other_kinds P p h rest memory slot false false false e other = refl

pub other_words_read : (P : Project) (p : ℕ) (ws : List ℕ) (memory : List Stored) (slot : Slot) (h : ℕ) → h ≡ slice_index ws 0 → h % 2 ^ 2 ≢ 0
    → false ≡ is_listed (later_reads P (Some (ProcAt p)) (state_from ws memory)) slot
other_words_read P p ws memory slot h e other =
    other_kinds P p h (drop 1 ws) memory slot (nat_eq (h % 2 ^ 2) 0) (nat_eq (h % 2 ^ 2) 1) (nat_eq (h % 2 ^ 2) 2) refl other
    ∙ ap (λ n. is_listed (later_reads P (Some (ProcAt p)) (state_with n (drop 1 ws) memory)) slot) e
