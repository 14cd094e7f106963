-- Scripts, processor by processor.
use Rattle.std.proofs.Common.{◌≡◌, ℕ, zero, suc, ◌+◌, ◌-◌, ◌<◌, ◌≤◌, max, nat_le, if◌then◌else◌, true, false, refl, List, [], ◌∷◌, ◌++◌, Bool, length, map, set, sym, ap, ◌∙◌, add-one, arith, append_assoc, append-nil, subst}
use Rattle.std.specs.Prelude.{replicate}
use Rattle.std.proofs.lemmas.Bool.{leb-true}
use Rattle.project_book.specs.Limits.{script_entries, usual_entries}
use Rattle.project_book.specs.Scales.{most_entries}
use Rattle.project_book.specs.declared.scale.Scale.TheVariants.{Usual, Large}
use Rattle.experiments.specs.declared.load.Load.{Load}
use Rattle.experiments.specs.Loads.{entries_of, scale_of}
use Rattle.std.proofs.lemmas.List.{map-append, length-map}
use Rattle.std.proofs.Math.Seq.{set-append_seam}
use Rattle.omega_net.specs.declared.script.ScriptEntry.{ScriptEntry}
use Rattle.omega_net.specs.Wires.{below}
use Rattle.machine_cells.proofs.Runs.{length-below}

-- the scripts of the processors before one, and empty ones behind
abbrev pub set_before : (ℕ → List ScriptEntry) → ℕ → ℕ → List (List ScriptEntry)
set_before f n m = map f (below n) ++ replicate (m - n) []

before_next : (f : ℕ → List ScriptEntry) (n : ℕ) → map f (below (n + 1)) ≡ map f (below n) ++ f n ∷ []
before_next f n = rw add-one (map-append f (below n) (n ∷ []))

length_before : (f : ℕ → List ScriptEntry) (n : ℕ) → length (map f (below n)) ≡ n
length_before f n = length-map (below n) f ∙ length-below n

-- one script more
pub set_next : (f : ℕ → List ScriptEntry) (n m : ℕ) → n < m → set (set_before f n m) n (f n) ≡ set_before f (n + 1) m
set_next f n m lt =
    let left : m - n ≡ suc (m - (n + 1)) = omega arith in
    let at : set (map f (below n) ++ [] ∷ replicate (m - (n + 1)) []) n (f n) ≡ map f (below n) ++ f n ∷ replicate (m - (n + 1)) [] =
    subst (λ i. set (map f (below n) ++ [] ∷ replicate (m - (n + 1)) []) i (f n) ≡ map f (below n) ++ f n ∷ replicate (m - (n + 1)) [])
    (length_before f n) (set-append_seam (map f (below n)) [] (replicate (m - (n + 1)) []) (f n)) in
    rw (left, before_next f n) (at ∙ sym (append_assoc (map f (below n)) (f n ∷ []) (replicate (m - (n + 1)) [])))

pub all_set : (f : ℕ → List ScriptEntry) (m : ℕ) → set_before f m m ≡ map f (below m)
all_set f m = let none : m - m ≡ 0 = omega arith in rw none (append-nil (map f (below m)))

-- a project of a load's scale may have so many references
pub entries_fit : (load : Load) → load.cycles ≤ script_entries → entries_of load ≤ most_entries (scale_of load)
entries_fit load few = by (nat_le load.cycles usual_entries) refl
  where
    by : (b : Bool) → nat_le load.cycles usual_entries ≡ b → entries_of load ≤ most_entries (if b then Usual else Large)
    by true small = omega (arith, leb-true load.cycles usual_entries small)
    by false large = omega (arith, few)
