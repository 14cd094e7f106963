-- Rows whose words stand by blocks.
use Rattle.std.proofs.Common.{◌≡◌, ℕ, zero, suc, ◌+◌, ◌*◌, ◌/◌, ◌%◌, ◌<◌, ◌≤◌, ◌∙◌, sym, ap, refl, arith, Bool, false, eqb, ◌&&◌, ◌||◌, ◌⊎◌, inl, inr, List, [], ◌∷◌, length, get_or, map}
use Rattle.std.specs.List.{range_with_len}
use Rattle.std.proofs.lemmas.List.{length-map, get_or-map, get_or-replicate, get_or_past}
use Rattle.std.proofs.lemmas.Bool.{cases_lt}
use Rattle.std.proofs.lemmas.Nat.Bits.{bit_at-zero}
use Rattle.std.specs.Int.{bit_at}
use Rattle.std.proofs.lemmas.List.FromFn.{length-map-range_with_len, get_or-map-range_with_len, fill_by_all}
use Rattle.cell_marks.specs.Bits.{bit_in, bits_of, block_rows, rows_by_blocks}
use Rattle.cell_marks.specs.Marked.{is_set, row_at, any_marks}
use Rattle.cell_marks.proofs.Bits.{at_bits}

-- four words of which no bit is set
pub blank_four : (k : ℕ) → k < 256 → bit_in (0 ∷ 0 ∷ 0 ∷ 0 ∷ []) k ≡ false
blank_four k h = ap (λ w. eqb (bit_at w (k % 64)) 1) (get_or-replicate 4 (k / 64) 0 0 (omega arith)) ∙ ap (λ b. eqb b 1) (bit_at-zero (k % 64))

-- the rows of one block
pub length_block : (block : List (List ℕ)) → length (block_rows block) ≡ length block
length_block block = length-map block (λ words. bits_of words 256)

pub at_block : (block : List (List ℕ)) (c k : ℕ) → c < length block → k < 256 → is_set (row_at (block_rows block) c) k ≡ bit_in (get_or block c []) k
at_block block c k there h = ap (λ r. is_set r k) (get_or-map (λ words. bits_of words 256) block c [] [] there) ∙ at_bits (get_or block c []) 256 k h

pub past_block : (block : List (List ℕ)) (c k : ℕ) → length block ≤ c → is_set (row_at (block_rows block) c) k ≡ false
past_block block c k past = ap (λ r. is_set r k) (get_or_past (block_rows block) c [] (omega (arith, past, length_block block)))

-- the rows of all blocks
module _ (blocks : List (List (List ℕ))) (count width : ℕ) where
  -- the mark of a component in a row
  abbrev pub mark_in : ℕ → ℕ → Bool
  mark_in c k = bit_in (get_or (get_or blocks (k / 256) []) c []) (k % 256)

  pub length_rows : length (rows_by_blocks blocks count width) ≡ count
  length_rows = length-map-range_with_len (λ c. map (mark_in c) (range_with_len 0 width)) 0 count

  row_in : (c : ℕ) → c < count → row_at (rows_by_blocks blocks count width) c ≡ map (mark_in c) (range_with_len 0 width)
  row_in c h = get_or-map-range_with_len (λ c. map (mark_in c) (range_with_len 0 width)) 0 count c c [] h (omega arith)

  pub length_row : (c : ℕ) → c < count → length (row_at (rows_by_blocks blocks count width) c) ≡ width
  length_row c h = ap length (row_in c h) ∙ length-map-range_with_len (mark_in c) 0 width

  pub at_row : (c k : ℕ) → c < count → k < width → is_set (row_at (rows_by_blocks blocks count width) c) k ≡ mark_in c k
  at_row c k h l = ap (λ r. is_set r k) (row_in c h) ∙ get_or-map-range_with_len (mark_in c) 0 width k k false l (omega arith)

  pub rows_are : (rows : List (List Bool)) → length rows ≡ count → ((c : ℕ) → c < count → length (row_at rows c) ≡ width) → ((c k : ℕ) → c < count → k < width → is_set (row_at rows c) k ≡ mark_in c k) → rows ≡ rows_by_blocks blocks count width
  rows_are rows len wide same = fill_by_all (λ c. map (mark_in c) (range_with_len 0 width)) rows count [] len (λ c h. fill_by_all (mark_in c) (row_at rows c) width false (wide c h) (λ k l. same c k h l))

  -- one of the blocks has the marks of its components
  module _ (rows : List (List Bool)) (view : rows_by_blocks blocks count width ≡ rows) where
    pub count_is : count ≡ length rows
    count_is = sym length_rows ∙ ap length view

    pub width_is : (c : ℕ) → c < length rows → length (row_at rows c) ≡ width
    width_is c h = ap (λ rs. length (row_at rs c)) (sym view) ∙ length_row c (omega (arith, h, count_is))

    pub of_block : (block : List (List ℕ)) (b : ℕ) → block ≡ get_or blocks b [] → length block ≡ length rows → (c k : ℕ) → c < length rows → k < 256 → 256 * b + k < length (row_at rows c) → is_set (row_at (block_rows block) c) k ≡ is_set (row_at rows c) (256 * b + k)
    of_block block b is len c k h small there =
        let d = 256 * b + k in
        let at : d / 256 ≡ b = omega (arith, small) in
        let rest : d % 256 ≡ k = omega (arith, small) in
        at_block block c k (omega (arith, h, len)) small
        ∙ ap (λ ws. bit_in (get_or ws c []) k) is
        ∙ ap (λ a. bit_in (get_or (get_or blocks a []) c []) k) (sym at)
        ∙ ap (bit_in (get_or (get_or blocks (d / 256) []) c [])) (sym rest)
        ∙ sym (at_row c d (omega (arith, h, count_is)) (omega (arith, there, width_is c h)))
        ∙ ap (λ rs. is_set (row_at rs c) d) view

    -- no block is there only where no row is
    pub none_there : (b : ℕ) → width ≤ 256 * b → ((c : ℕ) → c < length rows → 256 * b < length (row_at rows c)) → 0 ≡ length rows
    none_there b past each = by_place (cases_lt 0 (length rows))
      where
        by_place : (0 < length rows) ⊎ (length rows ≤ 0) → 0 ≡ length rows
        by_place (inl h) = absurd (omega (arith, past, each 0 h, width_is 0 h))
        by_place (inr h) = omega (arith, h)

-- a block has the words of these rows
pub record IsBlock (rows : List (List Bool)) (width b : ℕ) (block : List (List ℕ)) : Type 0 where
  pub len : length block ≡ length rows
  pub bits : (c k : ℕ) → c < length rows → k < 256 → 256 * b + k < width → is_set (row_at (block_rows block) c) k ≡ is_set (row_at rows c) (256 * b + k)

-- blocks that have the words of rows show these
pub blocks_are : (blocks : List (List (List ℕ))) (rows : List (List Bool)) (width : ℕ) → width ≤ 256 * length blocks → ((c : ℕ) → c < length rows → length (row_at rows c) ≡ width) → ((b : ℕ) → b < length blocks → IsBlock rows width b (get_or blocks b [])) → rows_by_blocks blocks (length rows) width ≡ rows
blocks_are blocks rows width room wide each = sym (rows_are blocks (length rows) width rows refl wide same)
  where
    same : (c k : ℕ) → c < length rows → k < width → is_set (row_at rows c) k ≡ mark_in blocks (length rows) width c k
    same c k h l =
        let b = k / 256 in
        let there : b < length blocks = omega (arith, l, room) in
        let place : 256 * b + k % 256 ≡ k = omega arith in
        let is = each b there in
        ap (is_set (row_at rows c)) (sym place)
        ∙ sym (is.bits c (k % 256) h (omega arith) (omega (arith, l)))
        ∙ at_block (get_or blocks b []) c (k % 256) (omega (arith, h, is.len)) (omega arith)

-- the same rows by another list, or by other components
pub any_alike : (marks : List Bool) (rows others : List (List Bool)) (c d n : ℕ) → ((k : ℕ) → k < n → is_set (row_at rows k) c ≡ is_set (row_at others k) d) → any_marks marks rows c n ≡ any_marks marks others d n
any_alike marks rows others c d zero same = refl
any_alike marks rows others c d (suc n) same =
    ap (λ b. (is_set marks n && b) || any_marks marks rows c n) (same n (omega arith))
    ∙ ap (λ b. (is_set marks n && is_set (row_at others n) d) || b) (any_alike marks rows others c d n (λ k h. same k (omega (arith, h))))
