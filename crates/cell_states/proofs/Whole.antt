-- The components of a set have what a row holds for them.
use Rattle.std.proofs.Common.{◌≡◌, ◌↔◌, ℕ, ◌+◌, ◌<◌, ◌≤◌, ◌∙◌, ◌⊎◌, inl, inr, sym, ap, subst, refl, arith, Bool, true, false, cond, ◌||◌, Option, None, Some, is_some, List, [], ◌∷◌, length, get_or}
use Rattle.std.proofs.Math.ListN.{set, length-set}
use Rattle.std.proofs.lemmas.Bool.{true≢false, cases_lt, cases_eq, cases_Bool}
use Rattle.std.proofs.lemmas.List.{get_or_past, get_or-set_same, get_or-set_other, same_lists}
use Rattle.std.proofs.lemmas.List.Sums.{count_by-le-length}
use Rattle.std.proofs.lemmas.List.FromFn.{length-map-range_with_len, get_or-map-range_with_len}
use Rattle.grid_law.specs.Codec.{Codec, CodecLaws, IsTold}
use Rattle.change_rows.specs.Marks.{is_in}
use Rattle.change_rows.specs.Rows.{Table as Words, words_at, replaced, filled, IsWhole}
use Rattle.cell_marks.specs.Bits.{bits_of}
use Rattle.cell_marks.specs.Marked.{union, is_set, count_in}
use Rattle.cell_marks.proofs.Bits.{at_bits, count_set}
use Rattle.cell_states.specs.Codes.{state_of, IsCode}
use Rattle.cell_states.specs.Filling.{is_awake}
use Rattle.cell_states.specs.PutCodes.{AreWordsPut}
use Rattle.cell_states.proofs.Codes.{holds_only, put_is}

-- there is a state
pub some_of : {X : Type 0} (o : Option X) → is_some o ≡ true → (x : X) × (o ≡ Some x)
some_of None e = absurd (true≢false (sym e))
some_of (Some x) e = (x, refl)

-- other words of one row
module _ (v v1 : Words) (whole : IsWhole v) (t : ℕ) (there : t < length v.rows) (members : List ℕ) (ws : ℕ → List ℕ) (marks : List Bool) (wide : length marks ≡ v.width) (bits : (c : ℕ) → c < length marks → is_in members c ≡ is_awake marks c)
    (e : v1 ≡ record { width = v.width; rows = set v.rows t (replaced (get_or v.rows t []) members ws) }) where
  abbrev row : List (List ℕ)
  row = replaced (get_or v.rows t []) members ws

  rows_are : v1.rows ≡ set v.rows t row
  rows_are = ap (λ (w : Words). w.rows) e

  long : length (get_or v.rows t []) ≡ v.width
  long = whole t there

  cycles_put : length v1.rows ≡ length v.rows
  cycles_put = ap length rows_are ∙ length-set v.rows t row

  here : get_or v1.rows t [] ≡ row
  here = ap (λ rows. get_or rows t []) rows_are ∙ get_or-set_same v.rows t row [] there

  there_other : (u : ℕ) → (u ≡ t → ⊥) → get_or v1.rows u [] ≡ get_or v.rows u []
  there_other u n = ap (λ rows. get_or rows u []) rows_are ∙ get_or-set_other v.rows t u row [] n

  lens_put : (u : ℕ) → length (get_or v1.rows u []) ≡ length (get_or v.rows u [])
  lens_put u = by_cycle (cases_eq u t)
    where
      by_cycle : (u ≡ t) ⊎ (u ≡ t → ⊥) → length (get_or v1.rows u []) ≡ length (get_or v.rows u [])
      by_cycle (inl p) = ap (λ n. length (get_or v1.rows n [])) p ∙ ap length here ∙ length-map-range_with_len _ 0 (length (get_or v.rows t [])) ∙ ap (λ n. length (get_or v.rows n [])) (sym p)
      by_cycle (inr n) = ap length (there_other u n)

  at_row : (c : ℕ) → c < length marks → words_at v1.rows t c ≡ cond (is_in members c) (ws c) (words_at v.rows t c)
  at_row c h = ap (λ r. get_or r c []) here ∙ get_or-map-range_with_len (λ c. cond (is_in members c) (ws c) (get_or (get_or v.rows t []) c [])) 0 (length (get_or v.rows t [])) c c [] (omega (arith, h, long, wide)) (omega arith)

  past_row : (c : ℕ) → length marks ≤ c → words_at v1.rows t c ≡ words_at v.rows t c
  past_row c h =
      get_or_past (get_or v1.rows t []) c [] (omega (arith, h, long, wide, lens_put t)) ∙ sym (get_or_past (get_or v.rows t []) c [] (omega (arith, h, long, wide)))

  not_past : (c : ℕ) → is_awake marks c ≡ true → c < length marks
  not_past c a = by_place (cases_lt c (length marks))
    where
      by_place : (c < length marks) ⊎ (length marks ≤ c) → c < length marks
      by_place (inl h) = h
      by_place (inr h) = absurd (true≢false (sym a ∙ get_or_past marks c false h))

  words_put : (c : ℕ) → is_awake marks c ≡ true → words_at v1.rows t c ≡ ws c
  words_put c a = let h = not_past c a in at_row c h ∙ ap (λ b. cond b (ws c) (words_at v.rows t c)) (bits c h ∙ a)

  words_others : (u c : ℕ) → is_awake marks c ≡ false → words_at v1.rows u c ≡ words_at v.rows u c
  words_others u c a = by_place (cases_eq u t) (cases_lt c (length marks))
    where
      by_place : (u ≡ t) ⊎ (u ≡ t → ⊥) → (c < length marks) ⊎ (length marks ≤ c) → words_at v1.rows u c ≡ words_at v.rows u c
      by_place (inl p) (inl h) = ap (λ n. words_at v1.rows n c) p ∙ at_row c h ∙ ap (λ b. cond b (ws c) (words_at v.rows t c)) (bits c h ∙ a) ∙ ap (λ n. words_at v.rows n c) (sym p)
      by_place (inl p) (inr h) = ap (λ n. words_at v1.rows n c) p ∙ past_row c h ∙ ap (λ n. words_at v.rows n c) (sym p)
      by_place (inr n) h = ap (λ r. get_or r c []) (there_other u n)

  words_other_cycles : (u c : ℕ) → (u ≡ t → ⊥) → words_at v1.rows u c ≡ words_at v.rows u c
  words_other_cycles u c n = ap (λ r. get_or r c []) (there_other u n)

  pub words_are_put : AreWordsPut v v1 t marks ws
  words_are_put = record {
    cells = record {
      width = ap (λ (w : Words). w.width) e;
      cycles = cycles_put;
      lens = lens_put;
    };
    put = words_put;
    others = words_others;
    other_cycles = words_other_cycles;
  }

-- all are marked where as many are as there are
pub all_awake : (marks : List Bool) → count_in marks ≡ length marks → (c : ℕ) → c < length marks → is_awake marks c ≡ true
all_awake marks full c h = is_marked (cases_Bool (is_awake marks c))
  where
    is_marked : (is_awake marks c ≡ true) ⊎ (is_awake marks c ≡ false) → is_awake marks c ≡ true
    is_marked (inl e) = e
    is_marked (inr e) =
        let most : count_in (set marks c true) ≤ length (set marks c true) = count_by-le-length (λ b. b) (set marks c true) in
        let more : count_in (set marks c true) + cond (is_set marks c) 1 0 ≡ count_in marks + 1 = count_set marks c true h in
        let one : count_in (set marks c true) + 0 ≡ count_in marks + 1 = subst (λ b. count_in (set marks c true) + cond b 1 0 ≡ count_in marks + 1) e more in
        absurd (omega (arith, most, one, full, length-set marks c true))

abbrev some_words : ℕ → List (List (List ℕ)) → Words
some_words width rows = record { width = width; rows = rows }

-- a row that is filled is one in which all components have other words
module _ (v v1 : Words) (whole : IsWhole v) (t : ℕ) (there : t < length v.rows) (members : List ℕ) (ws : ℕ → List ℕ) (marks : List Bool) (wide : length marks ≡ v.width) (bits : (c : ℕ) → c < length marks → is_in members c ≡ is_awake marks c) (full : count_in marks ≡ length marks)
    (e : v1 ≡ record { width = v.width; rows = set v.rows t (filled v.width ws) }) where
  abbrev put : ℕ → List ℕ
  put c = cond (is_in members c) (ws c) (get_or (get_or v.rows t []) c [])

  long_filled : length (filled v.width ws) ≡ v.width
  long_filled = length-map-range_with_len ws 0 v.width

  each : (k : ℕ) (d : List ℕ) → k < length (filled v.width ws) → get_or (filled v.width ws) k d ≡ get_or (replaced (get_or v.rows t []) members ws) k d
  each k d h =
      let low : k < v.width = omega (arith, h, long_filled) in
      let here : k < length marks = omega (arith, low, wide) in
      get_or-map-range_with_len ws 0 v.width k k d low (omega arith)
      ∙ sym (ap (λ b. cond b (ws k) (get_or (get_or v.rows t []) k [])) (bits k here ∙ all_awake marks full k here))
      ∙ sym (get_or-map-range_with_len put 0 (length (get_or v.rows t [])) k k d (omega (arith, low, whole t there)) (omega arith))

  is_put : v1 ≡ some_words v.width (set v.rows t (replaced (get_or v.rows t []) members ws))
  is_put =
      e
      ∙ ap (λ (r : List (List ℕ)). some_words v.width (set v.rows t r))
      (same_lists (filled v.width ws) (replaced (get_or v.rows t []) members ws) (long_filled ∙ sym (whole t there) ∙ sym (length-map-range_with_len put 0 (length (get_or v.rows t [])))) each)

  pub words_filled : AreWordsPut v v1 t marks ws
  words_filled = words_are_put v v1 whole t there members ws marks wide bits is_put

-- what a coded cell has where its state is known
module _ {State Memory : Type 0} (C : Codec State Memory) (laws : CodecLaws C) where
  pub words_of_state : (ws : List ℕ) (m : Option Memory) → IsCode C ws m → is_some (state_of C ws m) ≡ true → (y : State) → ((x : State) → state_of C ws m ≡ Some x → y ≡ x) → C.words y ≡ ws
  words_of_state ws m code some y same =
      let x = some_of (state_of C ws m) some in
      ap C.words (same x.0 x.1) ∙ (holds_only C laws ws m x.0 code x.1).words_are

  pub memory_of_state : (ws : List ℕ) (m : Option Memory) → IsCode C ws m → is_some (state_of C ws m) ≡ true → (y : State) → ((x : State) → state_of C ws m ≡ Some x → C.memory y ≡ C.memory x) → m ≡ C.memory y
  memory_of_state ws m code some y same =
      let x = some_of (state_of C ws m) some in
      sym ((holds_only C laws ws m x.0 code x.1).memory_is) ∙ sym (same x.0 x.1)

  -- a coded cell has a told state exactly where it has its words and its memory
  pub has_exactly : (ws : List ℕ) (m : Option Memory) → IsCode C ws m → (y : State) → IsTold C y → ((ws ≡ C.words y) × (m ≡ C.memory y)) ↔ (state_of C ws m ≡ Some y)
  has_exactly ws m code y told = (
    λ h. (put_is C laws ws m y told (record { words_are = sym h.0; memory_is = sym h.1 })).0,
    λ e. (let q = holds_only C laws ws m y code e in (sym q.words_are, sym q.memory_is)),
  )

  -- what it is told by is what it has
  pub is_told_by : (ws : List ℕ) (m : Option Memory) → IsCode C ws m → (x : State) → state_of C ws m ≡ Some x → IsTold C x × (C.words x ≡ ws)
  is_told_by [] m code x e = absurd (true≢false (ap is_some (sym e)))
  is_told_by (w ∷ ws) m code x e =
      let q = holds_only C laws (w ∷ ws) m x code e in
      let is : C.state (w ∷ ws) m ≡ x = some_value _ _ e in
      (ap (λ us. C.state us (C.memory x)) q.words_are ∙ ap (C.state (w ∷ ws)) q.memory_is ∙ is, q.words_are)
    where
      some_value : (a b : State) → Some a ≡ Some b → a ≡ b
      some_value a b p = cc

-- what is so whether there is a mark or not
pub by_mark : {X : Type 0} (b : Bool) (x y : X) → (b ≡ true → x ≡ y) → (b ≡ false → x ≡ y) → x ≡ y
by_mark true x y marked unmarked = marked refl
by_mark false x y marked unmarked = unmarked refl

-- a mark beside another
pub marks_joined : (a b : List Bool) (c : ℕ) → c < length a → is_awake (union a b) c ≡ (is_awake a c || is_awake b c)
marks_joined a b c h = get_or-map-range_with_len (λ c. is_set a c || is_set b c) 0 (length a) c c false h (omega arith)

pub marks_past : (a b : List Bool) (c : ℕ) → length a ≤ c → is_awake (union a b) c ≡ false
marks_past a b c h = get_or_past (union a b) c false (omega (arith, h, length-map-range_with_len (λ c. is_set a c || is_set b c) 0 (length a)))

pub either_false : (a b : Bool) → (a || b) ≡ false → (a ≡ false) × (b ≡ false)
either_false true b e = absurd (true≢false e)
either_false false b e = (refl, e)

pub both_false : (a b : Bool) → a ≡ false → b ≡ false → (a || b) ≡ false
both_false true b e f = absurd (true≢false e)
both_false false b e f = f

pub awake_within : (marks : List Bool) (c : ℕ) → is_awake marks c ≡ true → c < length marks
awake_within marks c a = by_place (cases_lt c (length marks))
  where
    by_place : (c < length marks) ⊎ (length marks ≤ c) → c < length marks
    by_place (inl h) = h
    by_place (inr h) = absurd (true≢false (sym a ∙ get_or_past marks c false h))

pub same_value : {X : Type 0} (x y : X) → Some x ≡ Some y → x ≡ y
same_value x y e = cc

-- marks to which those of words were joined
module _ (old new : List Bool) (words : List ℕ) (joined : new ≡ union old (bits_of words (length old))) (d : ℕ) where
  joined_is : d < length old → is_awake new d ≡ (is_awake old d || is_in words d)
  joined_is h = ap (λ m. is_awake m d) joined ∙ marks_joined old (bits_of words (length old)) d h ∙ ap (λ b. is_awake old d || b) (at_bits words (length old) d h)

  -- a mark tells what was marked before, or what its bit tells
  pub joined_tells : (P : Type 0) → d < length old → (is_in words d ≡ true → P → ⊥) → (is_in words d ≡ false → P) → (is_awake new d ≡ false) ↔ (P × (is_awake old d ≡ false))
  joined_tells P h differs same = (
    λ e. (let q = either_false (is_awake old d) (is_in words d) (sym (joined_is h) ∙ e) in (same q.1, q.0)),
    λ q. joined_is h ∙ by_bit q (cases_Bool (is_in words d)),
  )
    where
      by_bit : P × (is_awake old d ≡ false) → (is_in words d ≡ true) ⊎ (is_in words d ≡ false) → (is_awake old d || is_in words d) ≡ false
      by_bit q (inl e) = absurd (differs e q.0)
      by_bit q (inr e) = both_false (is_awake old d) (is_in words d) q.1 e

  -- where no bit is set, it is what it was
  pub joined_same : (d < length old → is_in words d ≡ true → ⊥) → is_awake new d ≡ is_awake old d
  joined_same none = by_place (cases_lt d (length old)) (cases_Bool (is_in words d))
    where
      not_more : (b c : Bool) → c ≡ false → (b || c) ≡ b
      not_more true c e = refl
      not_more false c e = e

      by_place : (d < length old) ⊎ (length old ≤ d) → (is_in words d ≡ true) ⊎ (is_in words d ≡ false) → is_awake new d ≡ is_awake old d
      by_place (inl h) (inl e) = absurd (none h e)
      by_place (inl h) (inr e) = joined_is h ∙ not_more (is_awake old d) (is_in words d) e
      by_place (inr h) b = ap (λ m. is_awake m d) joined ∙ marks_past old (bits_of words (length old)) d h ∙ sym (get_or_past old d false h)

pub long_joined : (old new : List Bool) (words : List ℕ) → new ≡ union old (bits_of words (length old)) → length new ≡ length old
long_joined old new words joined = ap length joined ∙ length-map-range_with_len (λ c. is_set old c || is_set (bits_of words (length old)) c) 0 (length old)
