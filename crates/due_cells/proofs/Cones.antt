-- A cone's components and due cells, a component or a cycle at a time.
use Rattle.std.proofs.Common.{◌≡◌, ℕ, zero, suc, ◌+◌, ◌-◌, ◌<◌, ◌∙◌, sym, ap, subst, refl, arith, Bool, true, false, cond, ◌&&◌, ◌||◌, List, get_or, count_by}
use Rattle.std.specs.List.{list_any, range_with_len}
use Rattle.std.proofs.lemmas.List.Sums.{sum_by-cons}
use Rattle.grid_law.specs.Rules.{Rules}
use Rattle.due_cells.specs.Seen.{Held, held_in, row_at, due_at, due_in_row}
use Rattle.cell_states.specs.Near.{has}
use Rattle.due_cells.proofs.Counts.{none_due_in}
use Rattle.due_cells.specs.Cones.{earlier, count_in}

or_false : (a : Bool) → (a || false) ≡ (false || a)
or_false true = refl
or_false false = refl

or_assoc : (a b c : Bool) → (a || (b || c)) ≡ ((a || b) || c)
or_assoc true b c = refl
or_assoc false b c = refl

any_from : (p : ℕ → Bool) (a n k : ℕ) → a + n ≡ k → list_any p (range_with_len a (suc n)) ≡ (list_any p (range_with_len a n) || p k)
any_from p a zero k e = or_false (p a) ∙ ap p (omega arith)
any_from p a (suc n) k e =
    ap (λ b. p a || b) (any_from p (a + 1) n k (omega arith)) ∙ or_assoc (p a) (list_any p (range_with_len (a + 1) n)) (p k)

-- one number more
pub any_more : (p : ℕ → Bool) (n : ℕ) → list_any p (range_with_len 0 (n + 1)) ≡ (list_any p (range_with_len 0 n) || p n)
any_more p n = let e : n + 1 ≡ suc n = omega arith in rw e (any_from p 0 n n (omega arith))

count_from : (p : ℕ → Bool) (a n k : ℕ) → a + n ≡ k → count_by p (range_with_len a (suc n)) ≡ count_by p (range_with_len a n) + cond (p k) 1 0
count_from p a zero k e = let same : k ≡ a = omega arith in rw same (omega arith)
count_from p a (suc n) k e =
    let more = count_from p (a + 1) n k (omega arith) in
    let left = sum_by-cons (λ c. cond (p c) 1 0) a (range_with_len (a + 1) (suc n)) in
    let right = sum_by-cons (λ c. cond (p c) 1 0) a (range_with_len (a + 1) n) in
    omega arith

pub count_more : (p : ℕ → Bool) (n : ℕ) → count_by p (range_with_len 0 (n + 1)) ≡ count_by p (range_with_len 0 n) + cond (p n) 1 0
count_more p n = let e : n + 1 ≡ suc n = omega arith in rw e (count_from p 0 n n (omega arith))

count_no_more : (p : ℕ → Bool) (n : ℕ) → p n ≡ false → count_by p (range_with_len 0 n) ≡ 0 → count_by p (range_with_len 0 (n + 1)) ≡ 0
count_no_more p n h k = count_more p n ∙ rw (h, k) refl

-- a set has none due in a row with none due
pub none_due_among : {State : Type 0} (row : List (Held State)) (members : ℕ → Bool) (n : ℕ) → due_in_row row ≡ 0 → count_by (λ c. members c && (held_in row c).is_due) (range_with_len 0 n) ≡ 0
none_due_among row members zero none = refl
none_due_among row members (suc n) none =
    let e : n + 1 ≡ suc n = omega arith in
    subst (λ k. count_by (λ c. members c && (held_in row c).is_due) (range_with_len 0 k) ≡ 0) e (count_no_more (λ c. members c && (held_in row c).is_due) n (never (members n) _ (none_due_in row n none)) (none_due_among row members n none))
  where
    never : (x y : Bool) → y ≡ false → (x && y) ≡ false
    never true y h = h
    never false y h = refl

-- tests that are the same for each number of a range
any_same : (p q : ℕ → Bool) (a n : ℕ) → ((k : ℕ) → k < a + n → p k ≡ q k) → list_any p (range_with_len a n) ≡ list_any q (range_with_len a n)
any_same p q a zero h = refl
any_same p q a (suc n) h =
    ap (λ b. b || list_any p (range_with_len (a + 1) n)) (h a (omega arith)) ∙ ap (λ b. q a || b) (any_same p q (a + 1) n (λ k l. h k (omega arith)))

one_same : (v w : Bool) (m n : ℕ) → v ≡ w → m ≡ n → cond v 1 0 + m ≡ cond w 1 0 + n
one_same v w m n e h = rw (e, h) refl

pub count_same : (p q : ℕ → Bool) (a n : ℕ) → ((k : ℕ) → k < a + n → p k ≡ q k) → count_by p (range_with_len a n) ≡ count_by q (range_with_len a n)
count_same p q a zero h = refl
count_same p q a (suc n) h =
    sum_by-cons (λ c. cond (p c) 1 0) a (range_with_len (a + 1) n)
    ∙ one_same (p a) (q a) _ _ (h a (omega arith)) (count_same p q (a + 1) n (λ k l. h k (omega arith)))
    ∙ sym (sum_by-cons (λ c. cond (q c) 1 0) a (range_with_len (a + 1) n))

module _ {State Slots Slot : Type 0} (R : Rules State Slots Slot) (s : Slots) where
  -- sets with the same components of the grid have the same cone
  pub earlier_same : (f g : ℕ → Bool) (m : ℕ) → ((k : ℕ) → k < R.components s → f k ≡ g k) → earlier R s f m ≡ earlier R s g m
  earlier_same f g m h =
      any_same (λ x. f x && has (R.near s x) m) (λ x. g x && has (R.near s x) m) 0 (R.components s) (λ k l. ap (λ b. b && has (R.near s k) m) (h k (omega arith)))

  members_same : (f g p : ℕ → Bool) → ((k : ℕ) → k < R.components s → f k ≡ g k) → count_by (λ c. f c && p c) (range_with_len 0 (R.components s)) ≡ count_by (λ c. g c && p c) (range_with_len 0 (R.components s))
  members_same f g p h = count_same (λ c. f c && p c) (λ c. g c && p c) 0 (R.components s) (λ k l. ap (λ b. b && p k) (h k (omega arith)))

  pub count_in_same : (test : ℕ → ℕ → Bool) (f g : ℕ → Bool) (t : ℕ) → ((k : ℕ) → k < R.components s → f k ≡ g k) → count_in R s test f t ≡ count_in R s test g t
  count_in_same test f g zero h = members_same f g (test 0) h
  count_in_same test f g (suc t) h =
      let here = members_same f g (test (suc t)) h in
      let below = count_in_same test (earlier R s f) (earlier R s g) t (λ k l. earlier_same f g k h) in
      omega arith

  -- a set that is its own neighbourhood stays so
  pub stays : (old new : List Bool) → new ≡ old → ((m : ℕ) → m < R.components s → get_or new m false ≡ earlier R s (λ x. get_or old x false) m) → (m : ℕ) → m < R.components s → earlier R s (λ x. get_or new x false) m ≡ get_or new m false
  stays old new e h m l =
      earlier_same (λ x. get_or new x false) (λ x. get_or old x false) m (λ k i. ap (λ xs. get_or xs k false) e) ∙ sym (h m l)

  -- one cycle down
  pub down : (rows : List (List (Held State))) (f g : ℕ → Bool) (row : List (Held State)) (t n d r : ℕ) → 0 < t → n ≡ R.components s → row ≡ row_at rows (t - 1 + 1) → r ≡ count_by (λ c. f c && (held_in row c).is_due) (range_with_len 0 n) → ((m : ℕ) → m < R.components s → g m ≡ earlier R s f m) → d + r + count_in R s (due_at rows) g (t - 1) ≡ d + count_in R s (due_at rows) f t
  down rows f g row zero n d r above len at here before = absurd (omega arith)
  down rows f g row (suc u) n d r above len at here before =
      let back : suc u - 1 ≡ u = omega arith in
      let same : suc u - 1 + 1 ≡ suc u = omega arith in
      let due : r ≡ count_by (λ c. f c && due_at rows (suc u) c) (range_with_len 0 (R.components s)) = here ∙ ap (λ k. count_by (λ c. f c && (held_in row c).is_due) (range_with_len 0 k)) len ∙ ap (λ x. count_by (λ c. f c && (held_in x c).is_due) (range_with_len 0 (R.components s))) (at ∙ ap (row_at rows) same) in
      let below : count_in R s (due_at rows) g (suc u - 1) ≡ count_in R s (due_at rows) (earlier R s f) u = ap (count_in R s (due_at rows) g) back ∙ count_in_same (due_at rows) g (earlier R s f) u before in
      ap (λ k. d + k + count_in R s (due_at rows) g (suc u - 1)) due ∙ ap (λ k. d + count_by (λ c. f c && due_at rows (suc u) c) (range_with_len 0 (R.components s)) + k) below ∙ omega arith
