-- Which cells read a slot: those of its readers, asked once a stretch.
use Rattle.std.proofs.Common.{◌≡◌, ℕ, zero, suc, ◌+◌, ◌-◌, ◌<◌, ◌≤◌, ◌∙◌, sym, ap, refl, arith, Bool, true, false, not, eqb, leb, ltb, eq-eqb, ◌&&◌, ◌||◌, ◌⊎◌, inl, inr, Option, None, Some, is_some, List, [], ◌∷◌, length, All}
use Rattle.std.specs.List.{list_any, Contains, AllByRecursion}
use Rattle.std.proofs.lemmas.Bool.{cases_eq, cases_lt, ne_eqb, lt-ltb, le-ltb, eqb-true, true≢false, false≢true, and_parts}
use Rattle.std.proofs.lemmas.Grind.{common_steps}
use Rattle.std.proofs.Math.Bool.{or-false}
use Rattle.std.proofs.lemmas.List.Elements.{All-contains, All-from_recursion, All-weaker, recursion_from_All}
use Rattle.grid_law.specs.declared.reader.Reader.{Reader}
use Rattle.grid_law.specs.Rules.{Rules, Laws, is_first, reader_at}
use Rattle.due_cells.specs.Seen.{Held, Seen, row_at, held_in, held_at}
use Rattle.cell_table.specs.Cells.{IsThere}
use Rattle.due_cells.specs.Inputs.{with_state, states_of, inputs_of}
use Rattle.cell_table.specs.Reads.{reads_one, reads_any, is_reader}
use Rattle.cell_states.specs.ReadsBy.{reads_by}
use Rattle.cell_table.specs.Touches.{cell_reads_one}
use Rattle.due_cells.proofs.States.{states_same, length_states_of, neither}
use Rattle.cell_table.proofs.Tables.{inputs_first, inputs_later, all_there}

or_assoc : (a b c : Bool) → ((a || b) || c) ≡ (a || (b || c))
or_assoc true b c = refl
or_assoc false b c = refl

and_or : (a b x : Bool) → ((a && x) || (b && x)) ≡ ((a || b) && x)
and_or true true true = refl
and_or true true false = refl
and_or true false true = refl
and_or true false false = refl
and_or false b x = refl

-- what is read of one list element and of the rest
pub read_more : (m one rest : Bool) → ((m || one) || rest) ≡ (m || (one || rest))
read_more m one rest = or_assoc m one rest

pub reader_more : (m r rest x y : Bool) → (r ≡ true → y ≡ x) → ((m || (r && y)) || (rest && x)) ≡ (m || ((r || rest) && x))
reader_more m true rest x y e = rw (e refl) (or_assoc m x (rest && x) ∙ ap (λ b. m || b) (and_or true rest x))
reader_more m false rest x y e = ap (λ b. b || (rest && x)) (or-false m)

implied : (a x : Bool) → (x ≡ true → a ≡ true) → (a && x) ≡ x
implied true x h = refl
implied false true h = absurd (false≢true (h refl))
implied false false h = refl

-- a stretch more of a component's later cells
pub later_more : (m k : Bool) (t cycle to : ℕ) (x b : Bool) → 1 ≤ cycle → cycle ≤ to → (cycle ≤ t → t < to → x ≡ b) → ((m || (k && ((leb 1 t && ltb t cycle) && x))) || ((k && (leb cycle t && ltb t to)) && b)) ≡ (m || (k && ((leb 1 t && ltb t to) && x)))
later_more true k t cycle to x b low up same = refl
later_more false false t cycle to x b low up same = refl
later_more false true t cycle to x b low up same = by_place (cases_lt t cycle) (cases_lt t to)
  where
    some : cycle ≤ t → leb 1 t ≡ true
    some h = grind (arith, common_steps)

    late : cycle ≤ t → leb cycle t ≡ true
    late h = grind (arith, common_steps)

    early : t < cycle → leb cycle t ≡ false
    early h = grind (arith, common_steps)

    by_place : (t < cycle) ⊎ (cycle ≤ t) → (t < to) ⊎ (to ≤ t) → (((leb 1 t && ltb t cycle) && x) || ((leb cycle t && ltb t to) && b)) ≡ ((leb 1 t && ltb t to) && x)
    by_place (inl h) i = rw (lt-ltb t cycle h, lt-ltb t to (omega arith), early h) (or-false ((leb 1 t && true) && x))
    by_place (inr h) (inl i) = rw (le-ltb t cycle h, lt-ltb t to i, some h, late h) (sym (same h i))
    by_place (inr h) (inr i) = rw (le-ltb t cycle h, le-ltb t to i, some h, late h) refl

-- all later cycles are those that aren't the first
pub later_all : (component c t last : ℕ) (x : Bool) → t ≤ last → ((eqb c component) && ((leb 1 t && ltb t (last + 1)) && x)) ≡ (is_reader (reader_at component false) t c && x)
later_all component c t last x h = by_cycle (cases_eq t 0) (cases_eq c component)
  where
    by_cycle : (t ≡ 0) ⊎ (t ≡ 0 → ⊥) → (c ≡ component) ⊎ (c ≡ component → ⊥) → ((eqb c component) && ((leb 1 t && ltb t (last + 1)) && x)) ≡ (((eqb component c) && not (eqb t 0)) && x)
    by_cycle e (inr n) = rw (ne_eqb c component n, ne_eqb component c (λ q. n (sym q))) refl
    by_cycle (inl e) (inl q) =
        let none : leb 1 t ≡ false = grind (arith, common_steps) in
        rw (eq-eqb c component q, eq-eqb component c (sym q), none, eq-eqb t 0 e) refl
    by_cycle (inr e) (inl q) =
        let some : leb 1 t ≡ true = grind (arith, common_steps) in
        rw (eq-eqb c component q, eq-eqb component c (sym q), some, lt-ltb t (last + 1) (omega arith), ne_eqb t 0 e) refl

-- before the first stretch there is none
pub later_none : (c component t : ℕ) (m x : Bool) → m ≡ (m || ((eqb c component) && ((leb 1 t && ltb t 1) && x)))
later_none c component zero m x = sym (ap (λ b. m || b) (none (eqb c component)) ∙ or-false m)
  where
    none : (k : Bool) → (k && ((leb 1 0 && ltb 0 1) && x)) ≡ false
    none true = refl
    none false = refl
later_none c component (suc t) m x =
    let late : ltb (suc t) 1 ≡ false = le-ltb (suc t) 1 (omega arith) in
    sym (ap (λ b. m || ((eqb c component) && ((leb 1 (suc t) && b) && x))) late ∙ ap (λ b. m || b) (none (eqb c component) (leb 1 (suc t))) ∙ or-false m)
  where
    none : (k l : Bool) → (k && ((l && false) && x)) ≡ false
    none true true = refl
    none true false = refl
    none false l = refl

-- a range of later cycles at each of which the slot is read
pub always_more : (m k : Bool) (t to : ℕ) (x : Bool) → (1 ≤ t → t < to → x ≡ true) → (m || ((k && (leb 1 t && ltb t to)) && true)) ≡ (m || (k && ((leb 1 t && ltb t to) && x)))
always_more m k t to x reads = ap (λ b. m || b) (by_place (cases_lt t 1) (cases_lt t to))
  where
    inner : (k : Bool) → leb 1 t ≡ true → t < to → 1 ≤ t → ((k && (leb 1 t && ltb t to)) && true) ≡ (k && ((leb 1 t && ltb t to) && x))
    inner true e h l = rw (e, lt-ltb t to h) (sym (reads l h))
    inner false e h l = refl

    outside : (k v : Bool) → (leb 1 t && ltb t to) ≡ false → ((k && (leb 1 t && ltb t to)) && true) ≡ (k && ((leb 1 t && ltb t to) && x))
    outside true v e = rw e refl
    outside false v e = refl

    by_place : (t < 1) ⊎ (1 ≤ t) → (t < to) ⊎ (to ≤ t) → ((k && (leb 1 t && ltb t to)) && true) ≡ (k && ((leb 1 t && ltb t to) && x))
    by_place (inl h) i = let none : leb 1 t ≡ false = grind (arith, common_steps) in outside k true (ap (λ b. b && ltb t to) none)
    by_place (inr h) (inl i) = let some : leb 1 t ≡ true = grind (arith, common_steps) in inner k some i h
    by_place (inr h) (inr i) = let some : leb 1 t ≡ true = grind (arith, common_steps) in outside k true (ap (λ b. b && ltb t to) some ∙ le-ltb t to i)

-- what was added once is there however often
pub once : (i m y : Bool) → i ≡ (m || y) → i ≡ (i || y)
once i true y e = rw e refl
once i false true e = rw e refl
once i false false e = rw e refl

-- the cycles up to one, and those up to a later one
pub up_to_more : (m k l a b x : Bool) → (a ≡ true → b ≡ true) → ((m || (k && ((l && a) && x))) || (k && ((l && b) && x))) ≡ (m || (k && ((l && b) && x)))
up_to_more true k l a b x h = refl
up_to_more false false l a b x h = refl
up_to_more false true false a b x h = refl
up_to_more false true true false b x h = refl
up_to_more false true true true b true h = rw (h refl) refl
up_to_more false true true true b false h = refl

-- cycle 0 is that of a first reader
pub first_range : (component c t : ℕ) (x y : Bool) → (t ≡ 0 → x ≡ y) → (((eqb c component) && (leb 0 t && ltb t 1)) && x) ≡ (is_reader (reader_at component true) t c && y)
first_range component c t x y h = by_cycle (cases_eq t 0) (cases_eq c component)
  where
    zero_first : leb 0 t ≡ true
    zero_first = grind (arith, common_steps)

    by_cycle : (t ≡ 0) ⊎ (t ≡ 0 → ⊥) → (c ≡ component) ⊎ (c ≡ component → ⊥) → (((eqb c component) && (leb 0 t && ltb t 1)) && x) ≡ (((eqb component c) && eqb t 0) && y)
    by_cycle e (inr n) = rw (ne_eqb c component n, ne_eqb component c (λ q. n (sym q))) refl
    by_cycle (inl e) (inl q) = rw (eq-eqb c component q, eq-eqb component c (sym q), zero_first, lt-ltb t 1 (omega arith), eq-eqb t 0 e) (h e)
    by_cycle (inr e) (inl q) = rw (eq-eqb c component q, eq-eqb component c (sym q), zero_first, le-ltb t 1 (omega arith), ne_eqb t 0 e) refl

not_any : {X : Type 0} (test : X → Bool) (xs : List X) → list_any test xs ≡ false → AllByRecursion (λ x. test x ≡ false) xs
not_any test [] h = tt
not_any test (x ∷ xs) h = let p = neither (test x) (list_any test xs) h in (p.0, not_any test xs p.1)

any_of : {X : Type 0} (test : X → Bool) (xs : List X) (x : X) → Contains xs x → test x ≡ true → list_any test xs ≡ true
any_of {X} test xs x i k = by_test (list_any test xs) refl
  where
    by_test : (b : Bool) → list_any test xs ≡ b → list_any test xs ≡ true
    by_test true e = e
    by_test false e = absurd (true≢false (sym k ∙ All-contains (λ y. test y ≡ false) xs x (All-from_recursion (λ y. test y ≡ false) xs (not_any test xs e)) i))

module _ {State Slots Slot : Type 0} (R : Rules State Slots Slot) where
  -- the slots of a list, one after another
  pub reads_more : (s : Slots) (c : ℕ) (slot : Slot) (rest : List Slot) (o : Option (List State)) → (reads_one R s c slot o || reads_any R s c rest o) ≡ reads_any R s c (slot ∷ rest) o
  reads_more s c slot rest None = refl
  reads_more s c slot rest (Some near) = refl

  pub reads_none : (s : Slots) (c : ℕ) (o : Option (List State)) → reads_any R s c [] o ≡ false
  reads_none s c None = refl
  reads_none s c (Some near) = refl

  flip : (row other : List (Held State)) (ms : List ℕ) → AllByRecursion (λ m. (held_in row m).state ≡ (held_in other m).state) ms → AllByRecursion (λ m. (held_in other m).state ≡ (held_in row m).state) ms
  flip row other [] h = tt
  flip row other (m ∷ ms) h = (sym h.0, flip row other ms h.1)

  -- where the near cells hold what they held a cycle before, a cell is computed from what the one before it was
  pub same_next : (s : Slots) (rows : List (List (Held State))) (c t : ℕ) → 1 < t → All (λ m. (held_at rows (t - 1 - 1) m).state ≡ (held_at rows (t - 1) m).state) (R.near s c) → inputs_of R s rows t c ≡ inputs_of R s rows (t - 1) c
  same_next s rows c t h stay =
      inputs_later R s rows t c (λ e. absurd (omega arith))
      ∙ states_same (row_at rows (t - 1)) (row_at rows (t - 1 - 1)) (R.near s c) (flip (row_at rows (t - 1 - 1)) (row_at rows (t - 1)) (R.near s c) (recursion_from_All _ (R.near s c) stay))
      ∙ sym (inputs_later R s rows (t - 1) c (λ e. absurd (omega arith)))

  -- after cycle 0 its own state alone tells what a component reads, where the other near states are there
  pub by_own : Laws R → (s : Slots) (rows : List (List (Held State))) (c t : ℕ) (slot : Slot) (o : Option State) → 0 < t → (held_at rows (t - 1) c).state ≡ o → reads_one R s c slot (inputs_of R s rows t c) ≡ (is_some (inputs_of R s rows t c) && reads_by R s c slot o)
  by_own laws s rows c t slot o later own =
      let near = laws.near_first s c in
      let row = row_at rows (t - 1) in
      let inputs : inputs_of R s rows t c ≡ with_state o (states_of row near.0) =
      inputs_later R s rows t c (λ e. absurd (omega (arith, e)))
      ∙ ap (states_of row) near.1
      ∙ ap (λ x. with_state x (states_of row near.0)) own in
      ap (reads_one R s c slot) inputs ∙ by_states o (states_of row near.0) ∙ sym (ap (λ x. is_some x && reads_by R s c slot o) inputs)
    where
      by_states : (o : Option State) (others : Option (List State)) → reads_one R s c slot (with_state o others) ≡ (is_some (with_state o others) && reads_by R s c slot o)
      by_states None others = refl
      by_states (Some x) None = refl
      by_states (Some x) (Some xs) = laws.reads_own s x xs c slot

  -- where all cells hold a state, each has its near states
  pub ready_where_held : Laws R → (v : Seen State Slots) (f : ℕ → ℕ → State) → ((t c : ℕ) → IsThere R v t c → (held_at v.rows t c).state ≡ Some (f t c)) → (t c : ℕ) → IsThere R v t c → is_some (inputs_of R v.slots v.rows t c) ≡ true
  ready_where_held laws v f held t c there = by_cycle (cases_eq t 0)
    where
      by_cycle : (t ≡ 0) ⊎ (t ≡ 0 → ⊥) → is_some (inputs_of R v.slots v.rows t c) ≡ true
      by_cycle (inl e) = ap is_some (inputs_first R v.slots v.rows t c e)
      by_cycle (inr n) =
          ap is_some (inputs_later R v.slots v.rows t c n) ∙ all_there (row_at v.rows (t - 1)) (R.near v.slots c) (recursion_from_All _ (R.near v.slots c) (All-weaker (λ m. m < R.components v.slots) (λ m. is_some (held_at v.rows (t - 1) m).state ≡ true) (λ m k. ap is_some (held (t - 1) m (record { cycle = omega (arith, there.cycle); component = k }))) (R.near v.slots c) (laws.near_within v.slots c there.component)))

  -- where all cells before a cycle hold a state, each cell up to it has its near states
  pub ready_before : Laws R → (v : Seen State Slots) (n : ℕ) → ((t c : ℕ) → t < n → c < R.components v.slots → is_some (held_at v.rows t c).state ≡ true) → (t c : ℕ) → t ≤ n → IsThere R v t c → is_some (inputs_of R v.slots v.rows t c) ≡ true
  ready_before laws v n held t c h there = by_cycle (cases_eq t 0)
    where
      by_cycle : (t ≡ 0) ⊎ (t ≡ 0 → ⊥) → is_some (inputs_of R v.slots v.rows t c) ≡ true
      by_cycle (inl e) = ap is_some (inputs_first R v.slots v.rows t c e)
      by_cycle (inr e) =
          ap is_some (inputs_later R v.slots v.rows t c e) ∙ all_there (row_at v.rows (t - 1)) (R.near v.slots c) (recursion_from_All _ (R.near v.slots c) (All-weaker (λ m. m < R.components v.slots) (λ m. is_some (held_at v.rows (t - 1) m).state ≡ true) (λ m k. held (t - 1) m (omega (arith, h, e)) k) (R.near v.slots c) (laws.near_within v.slots c there.component)))

  -- what a component is sure to read, it reads at each later cycle at which its near states are there
  pub sure_reads : Laws R → (s : Slots) (rows : List (List (Held State))) (c t : ℕ) (slot : Slot) → R.always_reads s c slot ≡ true → 0 < t → is_some (inputs_of R s rows t c) ≡ true → cell_reads_one R s rows slot t c ≡ true
  sure_reads laws s rows c t slot sure later there =
      let near = laws.near_first s c in
      let row = row_at rows (t - 1) in
      let inputs : inputs_of R s rows t c ≡ with_state (held_in row c).state (states_of row near.0) = inputs_later R s rows t c (λ e. absurd (omega (arith, e))) ∙ ap (states_of row) near.1 in
      ap (reads_one R s c slot) inputs ∙ by_states (held_in row c).state (states_of row near.0) (sym (ap is_some inputs) ∙ there)
    where
      by_states : (o : Option State) (others : Option (List State)) → is_some (with_state o others) ≡ true → reads_one R s c slot (with_state o others) ≡ true
      by_states None others h = absurd (false≢true h)
      by_states (Some x) None h = absurd (false≢true h)
      by_states (Some x) (Some xs) h = laws.always_reads s x xs c slot sure

  -- a reader stands for its component
  pub of_reader : (r : Reader) (t c : ℕ) → is_reader r t c ≡ true → r.component ≡ c
  of_reader r t c h = eqb-true r.component c (and_parts (eqb r.component c) _ h).0

  module _ (laws : Laws R) (s : Slots) (rows : List (List (Held State))) (slot : Slot) (t c : ℕ) (inside : c < R.components s) where
    not_empty : (near : List State) (ms : List ℕ) (m : ℕ) → length near ≡ length (m ∷ ms) → is_first near ≡ false
    not_empty [] ms m l = absurd (omega (arith, l))
    not_empty (x ∷ xs) ms m l = refl

    first_is : (near : List State) → inputs_of R s rows t c ≡ Some near → is_first near ≡ eqb t 0
    first_is near f = by_cycle (cases_eq t 0)
      where
        own : (rest : List ℕ) × (R.near s c ≡ c ∷ rest)
        own = laws.near_first s c

        by_cycle : (t ≡ 0) ⊎ (t ≡ 0 → ⊥) → is_first near ≡ eqb t 0
        by_cycle (inl e) =
            let g : Some [] ≡ Some near = sym (inputs_first R s rows t c e) ∙ f in
            let empty : near ≡ [] = cc in
            ap is_first empty ∙ sym (eq-eqb t 0 e)
        by_cycle (inr n) =
            let g : states_of (row_at rows (t - 1)) (c ∷ own.0) ≡ Some near = ap (states_of (row_at rows (t - 1))) (sym own.1) ∙ sym (inputs_later R s rows t c n) ∙ f in
            not_empty near own.0 c (length_states_of (row_at rows (t - 1)) (c ∷ own.0) near g) ∙ sym (ne_eqb t 0 n)

    stands_for : (b : Bool) → b ≡ eqb t 0 → is_reader (reader_at c b) t c ≡ true
    stands_for true e = rw (eq-eqb c c refl) (sym e)
    stands_for false e = rw (eq-eqb c c refl) (ap not (sym e))

    -- a cell that reads the slot has a reader that stands for it
    has_reader : cell_reads_one R s rows slot t c ≡ true → list_any (λ r. is_reader r t c) (R.readers s slot) ≡ true
    has_reader e = by_inputs (inputs_of R s rows t c) refl e
      where
        by_inputs : (o : Option (List State)) → inputs_of R s rows t c ≡ o → reads_one R s c slot o ≡ true → list_any (λ r. is_reader r t c) (R.readers s slot) ≡ true
        by_inputs None f k = absurd (false≢true k)
        by_inputs (Some near) f k =
            any_of (λ r. is_reader r t c) (R.readers s slot) (reader_at c (is_first near)) (laws.readers s near c slot inside k) (stands_for (is_first near) (first_is near f))

    pub readers_all : (list_any (λ r. is_reader r t c) (R.readers s slot) && cell_reads_one R s rows slot t c) ≡ cell_reads_one R s rows slot t c
    readers_all = implied _ _ has_reader
