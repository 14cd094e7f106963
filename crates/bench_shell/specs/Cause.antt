-- What stands behind a fault of a run.
use Rattle.std.specs.Prelude.{◌≡◌, ◌⊎◌, ℕ, Bool, true, List, Result, Ok, Err, codes}
use Rattle.bench_shell.specs.declared.fault.RunFault.{RunFault}
use Rattle.bench_shell.specs.declared.fault.RunFault.TheVariants.{Read, Write, OtherEditor, Memory, Clock}

-- each fault comes only for its cause
abbrev pub HasCause : {T : Type 0} → Result T RunFault → Type 0 → Type 0 → Type 0 → Type 0 → Type 0 → Type 0
HasCause (Ok x) read write other memory clock = Unit {0}
HasCause (Err Read) read write other memory clock = read
HasCause (Err Write) read write other memory clock = write
HasCause (Err OtherEditor) read write other memory clock = other
HasCause (Err Memory) read write other memory clock = memory
HasCause (Err Clock) read write other memory clock = clock

-- the reading failed, or no read is left
abbrev pub CantRead : Bool → ℕ → Type 0
CantRead has_failed left = (has_failed ≡ true) ⊎ (left ≡ 0)

-- the text of a fault
abbrev pub fault_text : RunFault → List ℕ
fault_text Read = codes "read failed"
fault_text Write = codes "write failed"
fault_text OtherEditor = codes "other editor"
fault_text Memory = codes "no memory"
fault_text Clock = codes "clock spent"
