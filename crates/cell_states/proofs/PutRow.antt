-- The components of a set have what a row holds for them, where a memory beside no words means nothing.
use Rattle.std.proofs.Common.{◌≡◌, ◌↔◌, ℕ, ◌+◌, ◌<◌, ◌||◌, ◌&&◌, not, ◌≤◌, ◌∙◌, ◌⊎◌, inl, inr, sym, ap, subst, arith, Bool, true, false, cond, Some, List, [], ◌∷◌, length, refl}
use Rattle.std.proofs.Math.ListN.{set}
use Rattle.std.proofs.lemmas.Bool.{true≢false, not-true, and_parts, and_from, and_left, and_right, not_from_true, not_from_false, cases_lt, cases_eq}
use Rattle.std.proofs.lemmas.List.{get_or_past}
use Rattle.cell_marks.specs.Marked.{is_set, count_in, union}
use Rattle.cell_marks.proofs.Bits.{count_set}
use Rattle.grid_law.specs.Codec.{Codec, CodecLaws, IsTold}
use Rattle.grid_law.specs.ByWords.{AreOfWords}
use Rattle.change_rows.specs.Rows.{Table as Words, words_at, IsWhole}
use Rattle.change_lists.specs.Changes.{Changes, held_at as memory_at}
use Rattle.cell_states.specs.Codes.{state_of, IsCode}
use Rattle.cell_states.specs.Coded.{states_in, IsCoded}
use Rattle.cell_states.specs.Put.{ArePut}
use Rattle.cell_states.specs.PutCodes.{AreCodesPut}
use Rattle.cell_states.specs.Stated.{Stated, state_at, IsAsMany}
use Rattle.cell_states.specs.Filling.{is_awake}
use Rattle.cell_states.proofs.Codes.{same_code, code_along, no_state, no_code, put_is}
use Rattle.cell_states.proofs.Coded.{none_past, state_is, seen_at, coded_along, many_along, whole_along}
use Rattle.cell_states.proofs.Whole.{awake_within, has_exactly, is_told_by, marks_joined, marks_past, both_false}

abbrev is_none : List ℕ → Bool
is_none [] = true
is_none (w ∷ ws) = false

some_not_none : (w : ℕ) (ws us : List ℕ) → us ≡ w ∷ ws → us ≡ [] → ⊥
some_not_none w ws us e p = true≢false (sym (ap is_none p) ∙ ap is_none e)

-- a told state is what its words and its memory say
told_code : {State Memory : Type 0} (C : Codec State Memory) → CodecLaws C → (x : State) → IsTold C x → (state_of C (C.words x) (C.memory x) ≡ Some x) × IsCode C (C.words x) (C.memory x)
told_code C laws x is_told = put_is C laws (C.words x) (C.memory x) x is_told (record { words_are = refl; memory_is = refl })

-- the components of a set have the words and memories of these states at a cycle
module _ {State Memory : Type 0} (C : Codec State Memory) (laws : CodecLaws C) (words words1 : Words) (memories memories1 : List (Changes Memory)) (coded : IsCoded C words memories) (many : length memories1 ≡ length memories) (at : ℕ) (set changes worded : List Bool) (new : ℕ → State)
    (put : AreCodesPut C words words1 memories memories1 at set changes worded new) where
  same_at : (t c : ℕ) → words_at words1.rows t c ≡ words_at words.rows t c → ((words_at words.rows t c ≡ [] → ⊥) → memory_at memories1 c t ≡ memory_at memories c t) → IsCode C (words_at words1.rows t c) (memory_at memories1 c t)
  same_at t c e m = by_words (words_at words.rows t c) refl
    where
      by_words : (ws : List ℕ) → words_at words.rows t c ≡ ws → IsCode C (words_at words1.rows t c) (memory_at memories1 c t)
      by_words [] none = no_code C _ _ (e ∙ none)
      by_words (w ∷ ws) some = code_along C _ _ _ _ e (m (some_not_none w ws _ some)) (coded.codes t c)

  pub coded_row : IsCoded C words1 memories1
  coded_row = coded_along C words words1 memories memories1 coded put.words.cells many (λ t c h k. by_place t c h (is_awake set c) refl (cases_eq t at))
    where
      by_place : (t c : ℕ) → t < length words.rows → (b : Bool) → is_awake set c ≡ b → (t ≡ at) ⊎ (t ≡ at → ⊥) → IsCode C (words_at words1.rows t c) (memory_at memories1 c t)
      by_place t c h false e p = code_along C _ _ _ _ (put.words.others t c e) (put.others t c e) (coded.codes t c)
      by_place t c h true e (inr n) = same_at t c (put.words.other_cycles t c n) (put.other_cycles t c h n)
      by_place t c h true e (inl p) = code_along C _ _ _ _ (ap (λ u. words_at words1.rows u c) p ∙ put.words.put c e) (ap (memory_at memories1 c) p ∙ put.memory c e) (told_code C laws (new c) (put.told c e)).1

  whole1 : IsWhole words1
  whole1 = whole_along C words words1 memories memories1 coded put.words.cells

  -- and so they have these states
  module _ (s : Stated State) (seen : states_in C words memories ≡ s) where
    seen_row : (t c : ℕ) → state_at s t c ≡ state_of C (words_at words.rows t c) (memory_at memories c t)
    seen_row t c = seen_at C words memories s seen coded.whole t c

    now_is : (t c : ℕ) → state_at (states_in C words1 memories1) t c ≡ state_of C (words_at words1.rows t c) (memory_at memories1 c t)
    now_is t c = state_is C words1 memories1 whole1 t c

    state_row : (c : ℕ) → state_at (states_in C words1 memories1) at c ≡ cond (is_awake set c) (Some (new c)) (state_at s at c)
    state_row c = now_is at c ∙ by_set (is_awake set c) refl
      where
        by_set : (b : Bool) → is_awake set c ≡ b → state_of C (words_at words1.rows at c) (memory_at memories1 c at) ≡ cond b (Some (new c)) (state_at s at c)
        by_set false e = same_code C _ _ _ _ (put.words.others at c e) (put.others at c e) ∙ sym (seen_row at c)
        by_set true e = same_code C _ _ _ _ (put.words.put c e) (put.memory c e) ∙ (told_code C laws (new c) (put.told c e)).0

    state_stays : (t c : ℕ) → (t ≡ at → ⊥) → state_at (states_in C words1 memories1) t c ≡ state_at s t c
    state_stays t c n = now_is t c ∙ by_words (words_at words.rows t c) refl (cases_lt t (length words.rows)) ∙ sym (seen_row t c)
      where
        by_words : (ws : List ℕ) → words_at words.rows t c ≡ ws → (t < length words.rows) ⊎ (length words.rows ≤ t) → state_of C (words_at words1.rows t c) (memory_at memories1 c t) ≡ state_of C (words_at words.rows t c) (memory_at memories c t)
        by_words [] none h = no_state C _ _ (put.words.other_cycles t c n ∙ none) ∙ sym (no_state C _ _ none)
        by_words (w ∷ ws) some (inl h) = same_code C _ _ _ _ (put.words.other_cycles t c n) (put.other_cycles t c h n (some_not_none w ws _ some))
        by_words (w ∷ ws) some (inr h) = absurd (some_not_none w ws _ some (none_past words t c h))

    -- what has the words that it had has a state of the same words, where it has and had one
    same_state_words : (c : ℕ) (x y : State) → is_awake worded c ≡ false → state_at s at c ≡ Some x → state_at (states_in C words1 memories1) at c ≡ Some y → AreOfWords C x y
    same_state_words c x y a e e1 =
        let old = is_told_by C laws _ _ (coded.codes at c) x (sym (seen_row at c) ∙ e) in
        let now = is_told_by C laws _ _ (coded_row.codes at c) y (sym (now_is at c) ∙ e1) in
        record { told = old.0; other_told = now.0; words = old.1 ∙ sym (put.same_words c a) ∙ sym now.1 }

    pub states_put : ArePut C s (states_in C words1 memories1) at set changes worded new
    states_put = record {
      many = subst (λ v. IsAsMany v (states_in C words1 memories1)) seen (many_along C words words1 memories memories1 coded put.words.cells);
      put = state_row;
      others = state_stays;
      tells = λ c a.
          let q = put.tells c a in
          let x = has_exactly C laws _ _ (coded.codes at c) (new c) (put.told c a) in
          (λ p. seen_row at c ∙ x.0 (q.0 p), λ e. q.1 (x.1 (sym (seen_row at c) ∙ e)));
      unmarked = put.unmarked;
      words = same_state_words;
      among = put.among;
    }

-- a mark tells just what is so, whether the component was asked or known without
pub marked_exactly : (asked mark : Bool) (P : Type 0) → (asked ≡ true → (mark ≡ false) ↔ P) → (asked ≡ false → P × (mark ≡ false)) → (mark ≡ false) ↔ P
marked_exactly true mark P tells known = tells refl
marked_exactly false mark P tells known = let q = known refl in (λ e. q.0, λ p. q.1)

-- a cell that isn't due isn't in a set of due ones
pub not_due : (set due : Bool) → (set ≡ true → due ≡ true) → due ≡ false → set ≡ false
not_due true due is e = absurd (true≢false (sym (is refl) ∙ e))
not_due false due is e = refl

-- what a cell of a set gets is what a due one gets, where each due one beside the set has that
pub due_value : {X : Type 0} (set due : Bool) (new held run state : X) → new ≡ run → held ≡ state → (set ≡ true → due ≡ true) → (due ≡ true → set ≡ false → state ≡ run) → cond set new held ≡ cond due run state
due_value true due new held run state e f is rest = rw (is refl) e
due_value false true new held run state e f is rest = f ∙ rest refl refl
due_value false false new held run state e f is rest = f

-- none is marked where none is counted
pub none_awake : (marks : List Bool) → count_in marks ≡ 0 → (c : ℕ) → is_awake marks c ≡ false
none_awake marks none c = by_place (cases_lt c (length marks)) (is_awake marks c) refl
  where
    by_place : (c < length marks) ⊎ (length marks ≤ c) → (b : Bool) → is_awake marks c ≡ b → is_awake marks c ≡ false
    by_place h false e = e
    by_place (inr h) true e = get_or_past marks c false h
    by_place (inl h) true e =
        let more : count_in (set marks c false) + cond (is_set marks c) 1 0 ≡ count_in marks + 0 = count_set marks c false h in
        let one : count_in (set marks c false) + 1 ≡ count_in marks + 0 = subst (λ b. count_in (set marks c false) + cond b 1 0 ≡ count_in marks + 0) e more in
        absurd (omega (arith, one, none))

-- what is so of those of a set that are marked and of those that aren't
pub by_part : {X : Type 0} (b : Bool) (x y : X) → (b ≡ true → x ≡ y) → (b ≡ false → x ≡ y) → x ≡ y
by_part true x y marked other = marked refl
by_part false x y marked other = other refl

-- what is false where one thing is said of it being true
pub not_so : (b : Bool) → (b ≡ true → ⊥) → b ≡ false
not_so true n = absurd (n refl)
not_so false n = refl

-- a set in two parts, those in which something was written and the others
module _ (set written unwritten : List Bool) (has : ℕ → Bool) (long : length written ≡ length set) (long_other : length unwritten ≡ length set)
    (is_written : (c : ℕ) → c < length set → is_awake written c ≡ (has c && is_awake set c)) (is_unwritten : (c : ℕ) → c < length set → is_awake unwritten c ≡ (is_awake set c && not (has c))) where
  pub is_left : (c : ℕ) → is_awake unwritten c ≡ true → (is_awake set c ≡ true) × (has c ≡ false) × (is_awake written c ≡ false)
  is_left c a =
      let h : c < length set = omega (arith, awake_within unwritten c a, long_other) in
      let q = and_parts _ _ (sym (is_unwritten c h) ∙ a) in
      let n = not-true _ q.1 in
      (q.0, n, is_written c h ∙ and_left _ _ n)

  pub is_out : (c : ℕ) → is_awake set c ≡ false → (is_awake written c ≡ false) × (is_awake unwritten c ≡ false)
  is_out c n = (
    not_so _ (λ a. true≢false (sym (and_parts _ _ (sym (is_written c (omega (arith, awake_within written c a, long))) ∙ a)).1 ∙ n)),
    not_so _ (λ a. true≢false (sym (is_left c a).0 ∙ n)),
  )

  pub by_writing : {P : Type 0} (c : ℕ) → is_awake set c ≡ true → (is_awake written c ≡ true → is_awake unwritten c ≡ false → P) → (is_awake unwritten c ≡ true → has c ≡ false → is_awake written c ≡ false → P) → P
  by_writing {P} c a wrote others = by_bool (has c) refl
    where
      by_bool : (b : Bool) → has c ≡ b → P
      by_bool true e =
          let h = awake_within set c a in
          wrote (is_written c h ∙ and_from _ _ e a) (is_unwritten c h ∙ and_right _ _ (not_from_true _ e))
      by_bool false e =
          let h = awake_within set c a in
          others (is_unwritten c h ∙ and_from _ _ a (not_from_false _ e)) e (is_written c h ∙ and_left _ _ e)

-- a mark that is joined of two tells both
pub both_told : (x y r : Bool) (P Q : Type 0) → r ≡ (x || y) → ((x ≡ false) ↔ Q) → (y ≡ true → P → ⊥) → (y ≡ false → P) → (r ≡ false) ↔ (P × Q)
both_told true y r P Q e tells differs same = (λ n. absurd (true≢false (sym e ∙ n)), λ q. absurd (true≢false (tells.1 q.1)))
both_told false true r P Q e tells differs same = (λ n. absurd (true≢false (sym e ∙ n)), λ q. absurd (differs refl q.0))
both_told false false r P Q e tells differs same = (λ n. (same refl, tells.0 refl), λ q. e)

-- what isn't marked in either
pub neither_marked : (a b new : List Bool) → new ≡ union a b → (d : ℕ) → is_awake a d ≡ false → (d < length a → is_awake b d ≡ false) → is_awake new d ≡ false
neither_marked a b new e d x y = by_place (cases_lt d (length a))
  where
    by_place : (d < length a) ⊎ (length a ≤ d) → is_awake new d ≡ false
    by_place (inl h) = ap (λ m. is_awake m d) e ∙ marks_joined a b d h ∙ both_false _ _ x (y h)
    by_place (inr h) = ap (λ m. is_awake m d) e ∙ marks_past a b d h
