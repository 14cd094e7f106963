-- The words of the modules at cycle 0.
use Rattle.std.proofs.Common.{◌≡◌, ℕ, zero, suc, ◌+◌, ◌<◌, ◌≤◌, Bool, true, false, cond, List, [], ◌∷◌, ◌++◌, length, take, get_or, refl, ap, ◌∙◌, Some, arith}
use Rattle.std.specs.Prelude.{slice_get, option_map}
use Rattle.std.proofs.lemmas.Option.{slice_get-map}
use Rattle.std.proofs.lemmas.Bool.{lt-ltb, le-ltb, ne_eqb}
use Rattle.omega_net.specs.declared.component.Component.TheVariants.{Module as ModuleAt}
use Rattle.omega_net.specs.Numbers.{lines, components, component_of}
use Rattle.omega_net.specs.Wires.{below}
use Rattle.omega_net.proofs.Numbering.{number_within, number_leads_back}
use Rattle.mem_module.specs.declared.words.Stored.{Stored}
use Rattle.mem_module.specs.Memory.{with_word, AscendsFrom, IsAscending}
use Rattle.mem_module.specs.MemModule.{module_start}
use Rattle.mem_module.proofs.Rows.{with_ascends}
use Rattle.machine_cells.specs.declared.state.MachineState.TheVariants.{Module}
use Rattle.machine_cells.specs.Run.{words_in, stands_in, start_of, first_states}
use Rattle.machine_cells.proofs.Runs.{below-get}
use Rattle.project_book.specs.Project.{Project, place_in}
use Rattle.project_book.specs.declared.words.FirstWord.{FirstWord}

-- a module's state in the first states
pub module_first : (P : Project) (m : ℕ) → m < lines P.k → slice_get (first_states P) (lines P.k + m) ≡ Some (Module (module_start (words_in P m P.words)))
module_first P m h =
    slice_get-map (λ c. start_of P (component_of P.k c)) (below (components P.k)) (lines P.k + m)
    ∙ ap (option_map (λ c. start_of P (component_of P.k c))) (below-get (components P.k) (lines P.k + m) (number_within P.k (ModuleAt m) h))
    ∙ ap (λ o. Some (start_of P o)) (number_leads_back P.k (ModuleAt m) h)

-- its words rise
one_rises : (P : Project) (f : FirstWord) (ws : List Stored) → IsAscending ws → (t : Bool) → IsAscending (cond t (with_word ws (place_in P f.address).row f.word) ws)
one_rises P f ws rise true = with_ascends (place_in P f.address).row ws f.word rise
one_rises P f ws rise false = rise

pub words_rise : (P : Project) (m : ℕ) (fs : List FirstWord) → IsAscending (words_in P m fs)
words_rise P m [] = tt
words_rise P m (f ∷ fs) = one_rises P f (words_in P m fs) (words_rise P m fs) (stands_in P m f)

-- rows that rise rise from their first on
row_from : (low : ℕ) (ws : List Stored) (i : ℕ) (d : Stored) → AscendsFrom low ws → i < length ws → low ≤ (get_or ws i d).row
row_from low [] i d rise h = absurd (omega arith)
row_from low (w ∷ ws) zero d rise h = rise.0
row_from low (w ∷ ws) (suc i) d rise h = let later : w.row + 1 ≤ (get_or ws i d).row = row_from (w.row + 1) ws i d rise.2 (omega arith) in omega (arith, later, rise.0)

-- a word behind all others goes last
put_before : (w : Stored) (ws : List Stored) (row word : ℕ) → w.row < row → with_word (w ∷ ws) row word ≡ w ∷ with_word ws row word
put_before w ws row word h = rw (lt-ltb w.row row h, le-ltb row w.row (omega (arith, h))) refl

pub put_next : (low : ℕ) (ws : List Stored) (i : ℕ) (d : Stored) → AscendsFrom low ws → i < length ws
    → with_word (take i ws) (get_or ws i d).row (get_or ws i d).word ≡ take (i + 1) ws
put_next low [] i d rise h = absurd (omega arith)
put_next low (w ∷ ws) zero d rise h = ap (λ t. cond t [] (record { row = w.row; word = w.word } ∷ []) ++ []) (ne_eqb w.word 0 (λ e. omega (arith, rise.1, e)))
put_next low (w ∷ ws) (suc i) d rise h =
    let later : w.row + 1 ≤ (get_or ws i d).row = row_from (w.row + 1) ws i d rise.2 (omega arith) in
    put_before w (take i ws) (get_or ws i d).row (get_or ws i d).word (omega (arith, later))
    ∙ ap (λ vs. w ∷ vs) (put_next (w.row + 1) ws i d rise.2 (omega arith))
    ∙ ap (λ n. take n (w ∷ ws)) (more i)
  where
    more : (n : ℕ) → suc (n + 1) ≡ suc n + 1
    more n = omega arith

-- a word more is copied
pub copy_more : (S words new : List Stored) (i : ℕ) (d : Stored)
    → new ≡ with_word words (get_or S i d).row (get_or S i d).word → words ≡ take i S → IsAscending S → i < length S → new ≡ take (i + 1) S
copy_more S words new i d a b rise h = a ∙ ap (λ ws. with_word ws (get_or S i d).row (get_or S i d).word) b ∙ put_next 0 S i d rise h
