-- The rows of a table, one after another, on one bench.
use Rattle.std.proofs.Common.{◌≡◌, ℕ, ◌+◌, ◌-◌, ◌<◌, ◌≤◌, List, [], ◌∷◌, ◌++◌, length, map, take, get_or, refl, sym, ap, subst, ◌∙◌, arith}
use Rattle.std.specs.List.{flat_map, AllZip, AllByRecursion}
use Rattle.std.proofs.lemmas.List.{take_more, take_all, get_or-map, length-map}
use Rattle.std.proofs.lemmas.List.Elements.{All-from_recursion}
use Rattle.omega_net.specs.Wires.{below}
use Rattle.project_book.specs.declared.edit.Depths.{Depths}
use Rattle.project_book.specs.Project.{Project}
use Rattle.lab_tasks.specs.declared.answered.Form.{Form}
use Rattle.lab_tasks.specs.declared.asking.Asking.{Asking}
use Rattle.lab_tasks.specs.declared.swept.Swept.{Swept}
use Rattle.lab_tasks.specs.declared.swept.Setting.{Setting}
use Rattle.lab_tasks.specs.Sweeps.{rows_of, with_settings}
use Rattle.lab_tasks.specs.SweepTables.{depth_words, IsRow}
use Rattle.lab_tasks.specs.Tellings.{AreTold}
use Rattle.lab_tasks.proofs.WordByWord.{zip-push}
use Rattle.lab_tasks.proofs.Settings.{queues, with_settings-twice}

-- ---- each row sets the queues that are swept

abbrev Sets : List Depths → List (List Setting) → Type 0
Sets qs rows = AllByRecursion (λ row. queues row ≡ qs) rows

sets-both : (qs : List Depths) (rows others : List (List Setting)) → Sets qs rows → Sets qs others → Sets qs (rows ++ others)
sets-both qs [] others h k = k
sets-both qs (row ∷ rows) others h k = (h.0, sets-both qs rows others h.1 k)

sets-behind : (s : Setting) (qs : List Depths) (rows : List (List Setting)) → Sets qs rows → Sets (s.queue ∷ qs) (map (λ row. s ∷ row) rows)
sets-behind s qs [] h = tt
sets-behind s qs (row ∷ rows) h = (ap (λ (rs : List Depths). s.queue ∷ rs) h.0, sets-behind s qs rows h.1)

sets-depths : (q : Depths) (from : ℕ) (qs : List Depths) (rows : List (List Setting)) (ns : List ℕ) → Sets qs rows
    → Sets (q ∷ qs) (flat_map (λ s. map (λ row. s ∷ row) rows) (map (λ i. record { queue = q; depth = from + i }) ns))
sets-depths q from qs rows [] h = tt
sets-depths q from qs rows (n ∷ ns) h =
    sets-both (q ∷ qs) (map (λ row. record { queue = q; depth = from + n } ∷ row) rows) _
    (sets-behind (record { queue = q; depth = from + n }) qs rows h) (sets-depths q from qs rows ns h)

abbrev pub swept_queues : List Swept → List Depths
swept_queues all = map (λ s. s.queue) all

rows-set : (all : List Swept) → Sets (swept_queues all) (rows_of all)
rows-set [] = (refl, tt)
rows-set (swept ∷ all) = sets-depths swept.queue swept.from (swept_queues all) (rows_of all) (below (swept.to + 1 - swept.from)) (rows-set all)

-- a row by its place
row-sets : (all : List Swept) (i : ℕ) (d : List Setting) → i < length (rows_of all) → queues (get_or (rows_of all) i d) ≡ swept_queues all
row-sets all i d lt = All-from_recursion (λ row. queues row ≡ swept_queues all) (rows_of all) (rows-set all) i d lt

-- ---- what a bench is told that has gone through other rows

-- two projects are the same where these queues are set
abbrev pub SameWhereSet : List Depths → Project → Project → Type 0
SameWhereSet qs B P = (row : List Setting) → queues row ≡ qs → with_settings B row ≡ with_settings P row

same-next : (qs : List Depths) (B C P : Project) (row : List Setting) → SameWhereSet qs B P → queues row ≡ qs → C ≡ with_settings B row → SameWhereSet qs C P
same-next qs B C P row same sets is = λ later e. ap (λ (Q : Project). with_settings Q later) is ∙ with_settings-twice B row later (sets ∙ sym e) ∙ same later e

-- one row more
pub rows-more : {T C : Type 0} (Row : T → C → Type 0) (things : List T) (rows more : List C) (i : ℕ) (d : T) (row : C) → i < length things
    → AllZip Row (take i things) rows → Row (get_or things i d) row → more ≡ rows ++ row ∷ [] → AllZip Row (take (i + 1) things) more
rows-more {T} {C} Row things rows more i d row lt h is pushed =
    subst (λ (ts : List T). AllZip Row ts more) (sym (take_more things i d lt))
    (subst (λ (rs : List C). AllZip Row (take i things ++ get_or things i d ∷ []) rs) (sym pushed) (zip-push Row (take i things) rows (get_or things i d) row h is))

-- the row that is read at a place
pub row-read : {V : Type 0} (items : V → List Setting) (read : List V) (all : List Swept) (i : ℕ) (v : V) (row : List Setting) → map items read ≡ rows_of all → i < length read
    → v ≡ get_or read i v → row ≡ items v → (i < length (rows_of all)) × (row ≡ get_or (rows_of all) i [])
row-read items read all i v row e lt is at =
    let many : length read ≡ length (rows_of all) = sym (length-map read items) ∙ ap length e in
    (omega arith, at ∙ ap items is ∙ sym (get_or-map items read i v [] lt) ∙ ap (λ (rows : List (List Setting)). get_or rows i []) e)

-- a row that is told
pub row-done : (form : Form) (all : List Swept) (P B C : Project) (askings : List Asking) (i : ℕ) (row : List Setting) (cells : List (List ℕ)) (rows more : List (List (List ℕ)))
    → (i < length (rows_of all)) × (row ≡ get_or (rows_of all) i []) → SameWhereSet (swept_queues all) B P → AllZip (IsRow form P askings) (take i (rows_of all)) rows
    → IsRow form B askings row cells → C ≡ with_settings B row → more ≡ rows ++ cells ∷ []
    → SameWhereSet (swept_queues all) C P × AllZip (IsRow form P askings) (take (i + 1) (rows_of all)) more
row-done form all P B C askings i row cells rows more at same before told is pushed =
    let sets : queues row ≡ swept_queues all = ap queues at.1 ∙ row-sets all i [] at.0 in
    let here : IsRow form P askings row cells =
    subst (λ (Q : Project). AreTold form Q askings (depth_words row) cells) (same row sets) told in (
      same-next (swept_queues all) B C P row same sets is,
      rows-more (IsRow form P askings) (rows_of all) rows more i [] cells at.0 before (subst (λ (r : List Setting). IsRow form P askings r cells) at.1 here) pushed,
    )

-- no row is left
pub rows-end : {V : Type 0} (items : V → List Setting) (read : List V) (all : List Swept) (Row : List Setting → List (List ℕ) → Type 0) (i : ℕ) (rows : List (List (List ℕ)))
    → map items read ≡ rows_of all → length read ≤ i → AllZip Row (take i (rows_of all)) rows → AllZip Row (rows_of all) rows
rows-end items read all Row i rows e le h =
    let many : length read ≡ length (rows_of all) = sym (length-map read items) ∙ ap length e in
    subst (λ (things : List (List Setting)). AllZip Row things rows) (take_all i (rows_of all) (omega arith)) h
