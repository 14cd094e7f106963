-- Marks that are written a word at a time.
use Rattle.std.proofs.Common.{◌≡◌, ℕ, ◌+◌, ◌*◌, ◌/◌, ◌%◌, ◌<◌, ◌≤◌, ◌∙◌, ◌⊎◌, inl, inr, sym, ap, arith, Bool, true, cond, eqb, ◌||◌, is_some, List, [], length, take, get_or}
use Rattle.std.specs.Option.{option_or}
use Rattle.std.specs.Int.{bit_at}
use Rattle.std.specs.Int.Bits.{bit_or}
use Rattle.std.proofs.Math.Bool.{or-true, or-false}
use Rattle.std.proofs.Math.ListN.{set, length-set}
use Rattle.std.proofs.lemmas.Bool.{cases_eq, cases_lt, eq-eqb, ne_eqb, eqb-true, false≢true}
use Rattle.std.proofs.lemmas.Nat.Bits.{bit_at_or, bit_at-lt}
use Rattle.std.proofs.lemmas.List.{get_or_default, get_or_past, get_or-set_same, get_or-set_other, take_all}
use Rattle.change_rows.specs.Cells.{Held, found, end_of, component_at, IsAscending, IsSplit}
use Rattle.change_rows.specs.Marks.{is_one, is_set, is_marked, IsCovered}
use Rattle.change_rows.proofs.Finding.{found_past}
use Rattle.change_rows.proofs.Merging.{taken_end, or_none}
use Rattle.change_rows.proofs.Marking.{found_more}
use Rattle.change_rows.proofs.Members.{no_one}
use Rattle.change_rows.proofs.Laying.{slice_high, slice_found}

-- a word that has the bits of two others
or_left : (a b k : ℕ) → is_one a k ≡ true → is_one (bit_or a b) k ≡ true
or_left a b k h = eq-eqb _ 1 (omega (arith, bit_at_or a b k, eqb-true (bit_at a k) 1 h, bit_at-lt b k))

or_right : (a b k : ℕ) → is_one b k ≡ true → is_one (bit_or a b) k ≡ true
or_right a b k h = eq-eqb _ 1 (omega (arith, bit_at_or a b k, eqb-true (bit_at b k) 1 h, bit_at-lt a k))

-- a word of a line is another one, and its block has the marks of that too
module _ (line blocks : List ℕ) (t word old : ℕ) (c : IsCovered line blocks) (there : t < length line) (is : old ≡ get_or blocks (t / 64) old) where
  abbrev put_line : List ℕ
  put_line = set line t word

  abbrev put_blocks : List ℕ
  put_blocks = set blocks (t / 64) (bit_or old word)

  within : t / 64 < length blocks
  within = omega (arith, c.room, there)

  block_is : (u k : ℕ) → u / 64 ≡ t / 64 → is_set put_blocks (u / 64) k ≡ is_one (bit_or old word) k
  block_is u k e = ap (λ (b : ℕ). is_set put_blocks b k) e ∙ ap (λ (w : ℕ). is_one w k) (get_or-set_same blocks (t / 64) (bit_or old word) 0 within)

  covered_old : (u k : ℕ) → (u ≡ t → ⊥) → is_set put_line u k ≡ true → is_set blocks (u / 64) k ≡ true
  covered_old u k ne h = c.covers u k (sym (ap (λ (w : ℕ). is_one w k) (get_or-set_other line t u word 0 ne)) ∙ h)

  covered_at : (u k : ℕ) → is_set put_line u k ≡ true → (u / 64 ≡ t / 64) ⊎ (u / 64 ≡ t / 64 → ⊥) → (u ≡ t) ⊎ (u ≡ t → ⊥) → is_set put_blocks (u / 64) k ≡ true
  covered_at u k h (inl e) (inl f) =
      let new : is_one word k ≡ true = sym (ap (λ (x : ℕ). is_set put_line x k) f ∙ ap (λ (w : ℕ). is_one w k) (get_or-set_same line t word 0 there)) ∙ h in
      block_is u k e ∙ or_right old word k new
  covered_at u k h (inl e) (inr ne) =
      let was : is_one old k ≡ true = ap (λ (w : ℕ). is_one w k) (is ∙ get_or_default blocks (t / 64) old 0 within) ∙ ap (λ (b : ℕ). is_set blocks b k) (sym e) ∙ covered_old u k ne h in
      block_is u k e ∙ or_left old word k was
  covered_at u k h (inr n) _ =
      let ne : u ≡ t → ⊥ = λ e. n (ap (λ (x : ℕ). x / 64) e) in
      ap (λ (w : ℕ). is_one w k) (get_or-set_other blocks (t / 64) (u / 64) (bit_or old word) 0 n) ∙ covered_old u k ne h

  pub covered_put : IsCovered put_line put_blocks
  covered_put = record {
    room = omega (arith, c.room, length-set line t word, length-set blocks (t / 64) (bit_or old word));
    covers = λ u k h. covered_at u k h (cases_eq (u / 64) (t / 64)) (cases_eq u t);
  }

-- a block has just the marks of its cycles
module _ (line blocks : List ℕ) (t block : ℕ) (c : IsCovered line blocks) (there : t < length line)
    (has : (u k : ℕ) → t / 64 * 64 ≤ u → u < t / 64 * 64 + 64 → u < length line → is_set line u k ≡ true → is_one block k ≡ true) where
  marked_within : (u k : ℕ) → is_set line u k ≡ true → u < length line
  marked_within u k h = by_place (cases_lt u (length line))
    where
      by_place : (u < length line) ⊎ (length line ≤ u) → u < length line
      by_place (inl l) = l
      by_place (inr g) = absurd (false≢true (sym (no_one k) ∙ sym (ap (λ (w : ℕ). is_one w k) (get_or_past line u 0 g)) ∙ h))

  tight_at : (u k : ℕ) → is_set line u k ≡ true → (u / 64 ≡ t / 64) ⊎ (u / 64 ≡ t / 64 → ⊥) → is_set (set blocks (t / 64) block) (u / 64) k ≡ true
  tight_at u k h (inl e) =
      ap (λ (b : ℕ). is_set (set blocks (t / 64) block) b k) e
      ∙ ap (λ (w : ℕ). is_one w k) (get_or-set_same blocks (t / 64) block 0 (omega (arith, c.room, there)))
      ∙ has u k (omega (arith, e)) (omega (arith, e)) (marked_within u k h) h
  tight_at u k h (inr n) = ap (λ (w : ℕ). is_one w k) (get_or-set_other blocks (t / 64) (u / 64) block 0 n) ∙ c.covers u k h

  pub covered_tight : IsCovered line (set blocks (t / 64) block)
  covered_tight = record {
    room = omega (arith, c.room, length-set blocks (t / 64) block);
    covers = λ u k h. tight_at u k h (cases_eq (u / 64) (t / 64));
  }

-- a word has the marks of one cycle more
pub marks_more : (line : List ℕ) (from u0 word : ℕ) → ((v k : ℕ) → from ≤ v → v < u0 → is_set line v k ≡ true → is_one word k ≡ true) → (w : ℕ) → w ≡ get_or line u0 0 → (v k : ℕ) → from ≤ v → v < u0 + 1 → is_set line v k ≡ true → is_one (bit_or word w) k ≡ true
marks_more line from u0 word before w is v k low high h = by_place (cases_eq v u0)
  where
    by_place : (v ≡ u0) ⊎ (v ≡ u0 → ⊥) → is_one (bit_or word w) k ≡ true
    by_place (inl e) = or_right word w k (ap (λ (x : ℕ). is_one x k) (is ∙ ap (λ (x : ℕ). get_or line x 0) (sym e)) ∙ h)
    by_place (inr n) = or_left word w k (before v k low (omega (arith, high, n)) h)

-- the cells below a component are those in front
low_found : (cells : List Held) (i e d : ℕ) → IsAscending cells → i ≤ length cells → (i < length cells → e ≤ component_at cells i) → d < e → found (take i cells) d ≡ found cells d
low_found cells i e d asc there high low =
    sym (or_none (found (take i cells) d))
    ∙ ap (option_or (found (take i cells) d)) (sym (slice_high cells i (length cells) there asc (omega arith) e high d low))
    ∙ slice_found cells i (length cells) there d
    ∙ ap (λ (v : List Held). found v d) (take_all (length cells) cells (omega arith))

-- a word with no bit, before all cells of its components
pub word_none : (cells : List Held) (from w k : ℕ) → IsSplit cells (64 * w) from → is_one 0 k ≡ is_some (found (take from cells) (64 * w + k))
word_none cells from w k split = no_one k ∙ ap is_some (sym (found_past (take from cells) (64 * w + k) (omega (arith, split.below))))

-- a bit more, for a cell more
module _ (cells : List Held) (i c w : ℕ) (h : i < length cells) (is : c ≡ component_at cells i) (here : c / 64 ≡ w) where
  pub word_end : end_of (take i cells) ≤ 64 * (w + 1) → end_of (take (i + 1) cells) ≤ 64 * (w + 1)
  word_end end = omega (arith, end, taken_end cells i h, is, here)

  pub word_high : IsAscending cells → i + 1 < length cells → 64 * w ≤ component_at cells (i + 1)
  word_high asc l = omega (arith, asc (i + 1) l, taken_end cells i h, is, here)

  pub word_bits : (word word1 : ℕ) → is_one word1 (c % 64) ≡ true → ((k : ℕ) → (k ≡ c % 64 → ⊥) → is_one word1 k ≡ is_one word k) → ((k : ℕ) → k < 64 → is_one word k ≡ is_some (found (take i cells) (64 * w + k))) → (k : ℕ) → k < 64 → is_one word1 k ≡ is_some (found (take (i + 1) cells) (64 * w + k))
  word_bits word word1 set_is others before k l = by_bit (cases_eq k (c % 64)) ∙ sym (found_more cells i c (64 * w + k) h is)
    where
      by_bit : (k ≡ c % 64) ⊎ (k ≡ c % 64 → ⊥) → is_one word1 k ≡ (is_some (found (take i cells) (64 * w + k)) || eqb c (64 * w + k))
      by_bit (inl e) =
          let same : c ≡ 64 * w + k = omega (arith, e, here) in
          ap (is_one word1) e ∙ set_is
          ∙ sym (ap (λ (b : Bool). is_some (found (take i cells) (64 * w + k)) || b) (eq-eqb c (64 * w + k) same) ∙ or-true (is_some (found (take i cells) (64 * w + k))))
      by_bit (inr ne) =
          let other : c ≡ 64 * w + k → ⊥ = λ q. ne (omega (arith, q, l)) in
          others k ne ∙ before k l
          ∙ sym (ap (λ (b : Bool). is_some (found (take i cells) (64 * w + k)) || b) (ne_eqb c (64 * w + k) other) ∙ or-false (is_some (found (take i cells) (64 * w + k))))

-- all cells of the word were passed
module _ (cells : List Held) (i w : ℕ) (asc : IsAscending cells) (there : i ≤ length cells) (high : i < length cells → 64 * (w + 1) ≤ component_at cells i) where
  pub word_split : end_of (take i cells) ≤ 64 * (w + 1) → IsSplit cells (64 * (w + 1)) i
  word_split end = record { within = there; below = end; above = high }

  pub word_whole : (word : ℕ) → ((k : ℕ) → k < 64 → is_one word k ≡ is_some (found (take i cells) (64 * w + k))) → (k : ℕ) → k < 64 → is_one word k ≡ is_some (found cells (64 * w + k))
  word_whole word before k l = before k l ∙ ap is_some (low_found cells i (64 * (w + 1)) (64 * w + k) asc there high (omega (arith, l)))

-- a word of one line more is another one
module _ (lines0 lines : List (List ℕ)) (line : List ℕ) (cells : List Held) (t w word : ℕ) (there : w < length lines) (tall : t < length (get_or lines w []))
    (put : line ≡ set (get_or lines w []) t word)
    (bits : (k : ℕ) → k < 64 → is_one word k ≡ is_some (found cells (64 * w + k)))
    (rest : (v : ℕ) → w ≤ v → get_or lines v [] ≡ get_or lines0 v []) where
  pub lined_rest : (v : ℕ) → w + 1 ≤ v → get_or (set lines w line) v [] ≡ get_or lines0 v []
  lined_rest v h = get_or-set_other lines w v line [] (λ e. absurd (omega (arith, e, h))) ∙ rest v (omega (arith, h))

  in_line : (u c : ℕ) → c / 64 ≡ w → is_marked (set lines w line) u c ≡ is_set (set (get_or lines w []) t word) u (c % 64)
  in_line u c e =
      ap (λ (v : ℕ). is_set (get_or (set lines w line) v []) u (c % 64)) e
      ∙ ap (λ (l : List ℕ). is_set l u (c % 64)) (get_or-set_same lines w line [] there ∙ put)

  by_row : (u c : ℕ) → c / 64 ≡ w → (u ≡ t) ⊎ (u ≡ t → ⊥) → is_marked (set lines w line) u c ≡ cond (eqb u t) (is_some (found cells c)) (is_marked lines0 u c)
  by_row u c e (inl f) =
      let same : 64 * w + c % 64 ≡ c = omega (arith, e) in
      in_line u c e
      ∙ ap (λ (x : ℕ). is_set (set (get_or lines w []) t word) x (c % 64)) f
      ∙ ap (λ (x : ℕ). is_one x (c % 64)) (get_or-set_same (get_or lines w []) t word 0 tall)
      ∙ bits (c % 64) (omega arith)
      ∙ ap (λ (x : ℕ). is_some (found cells x)) same
      ∙ sym (ap (λ (b : Bool). cond b (is_some (found cells c)) (is_marked lines0 u c)) (eq-eqb u t f))
  by_row u c e (inr n) =
      in_line u c e
      ∙ ap (λ (x : ℕ). is_one x (c % 64)) (get_or-set_other (get_or lines w []) t u word 0 n)
      ∙ ap (λ (l : List ℕ). is_set l u (c % 64)) (rest w (omega arith))
      ∙ ap (λ (v : ℕ). is_set (get_or lines0 v []) u (c % 64)) (sym e)
      ∙ sym (ap (λ (b : Bool). cond b (is_some (found cells c)) (is_marked lines0 u c)) (ne_eqb u t n))

  pub lined_more : ((u c : ℕ) → c < 64 * w → is_marked lines u c ≡ cond (eqb u t) (is_some (found cells c)) (is_marked lines0 u c)) → (u c : ℕ) → c < 64 * (w + 1) → is_marked (set lines w line) u c ≡ cond (eqb u t) (is_some (found cells c)) (is_marked lines0 u c)
  lined_more done u c h = by_place (cases_lt c (64 * w))
    where
      by_place : (c < 64 * w) ⊎ (64 * w ≤ c) → is_marked (set lines w line) u c ≡ cond (eqb u t) (is_some (found cells c)) (is_marked lines0 u c)
      by_place (inl l) = ap (λ (x : List ℕ). is_set x u (c % 64)) (get_or-set_other lines w (c / 64) line [] (λ e. absurd (omega (arith, e, l)))) ∙ done u c l
      by_place (inr l) = by_row u c (omega (arith, l, h)) (cases_eq u t)
