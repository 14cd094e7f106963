-- First words put into a module row by row are the words that stand in it.
use Rattle.std.proofs.Common.{◌≡◌, ℕ, ◌+◌, ◌-◌, ◌*◌, ◌/◌, ◌%◌, ◌^◌, ◌<◌, ◌≤◌, Bool, true, false, cond, List, [], Option, None, Some, refl, ap, sym, subst, ◌∙◌, ◌⊎◌, inl, inr, arith}
use Rattle.std.specs.Prelude.{nat_le, nat_lt, ◌&&◌, unwrap_or, option_map}
use Rattle.std.proofs.lemmas.Bool.{cases_eq, cases_lt, and_parts, and_from, leb-true, ltb-true, le-leb, lt-ltb, false≢true}
use Rattle.std.proofs.lemmas.Nat.{div-mul-add, mod-mul-add, shr_split, pow_pos, mul-le, one_shl}
use Rattle.std.proofs.Math.Nat.{mod-lt, div-le_self, pow-le-pow_right}
use Rattle.page_map.specs.Places.{Page}
use Rattle.page_map.specs.Pages.{Pages, IsPageMap, page_in, page_of as page_among}
use Rattle.page_map.specs.Limits.{page_count, page_words}
use Rattle.mem_module.specs.declared.words.Stored.{Stored}
use Rattle.mem_module.specs.Memory.{word_at, with_word}
use Rattle.project_book.specs.FirstWords.{word_at as first_at}
use Rattle.project_book.specs.Project.{Project, page_of}
use Rattle.machine_cells.specs.Run.{words_in}
use Rattle.machine_cells.specs.Putting.{IsPut, lane}
use Rattle.machine_cells.specs.laws.Starts.{Stands, from_with, same_words, words_from, word_written, word_kept, first_word, held_or_none}

-- what stands in a row of a module
abbrev shown : Project → ℕ → ℕ → ℕ
shown P m r = word_at (words_in P m P.words) r

module _ (P : Project) (m : ℕ) where
  pub put_none : IsPut P m 0 []
  put_none = record { ordered = tt; done = λ r h. absurd (omega (arith, h)); blank = λ r h. refl }

  pub put_row : (row word : ℕ) (ws : List Stored) → IsPut P m row ws → word ≡ shown P m row → IsPut P m (row + 1) (with_word ws row word)
  put_row row word ws h same = record {
    ordered = from_with 0 row word ws (omega arith) h.ordered;
    done = λ r lt. by_row r lt (cases_eq r row);
    blank = λ r le. word_kept ws row word r (λ e. omega (arith, le, e)) ∙ h.blank r (omega (arith, le));
  }
    where
      by_row : (r : ℕ) → r < row + 1 → (r ≡ row) ⊎ (r ≡ row → ⊥) → word_at (with_word ws row word) r ≡ shown P m r
      by_row r lt (inl e) = ap (word_at (with_word ws row word)) e ∙ word_written ws row word ∙ same ∙ ap (shown P m) (sym e)
      by_row r lt (inr ne) = word_kept ws row word r ne ∙ h.done r (omega (arith, lt, ne))

  -- rows in which nothing stands are passed
  pub put_past : (row more : ℕ) (ws : List Stored) → IsPut P m row ws → row ≤ more → ((r : ℕ) → row ≤ r → r < more → shown P m r ≡ 0) → IsPut P m more ws
  put_past row more ws h le none = record {
    ordered = h.ordered;
    done = λ r lt. by_row r lt (cases_lt r row);
    blank = λ r from. h.blank r (omega (arith, le, from));
  }
    where
      by_row : (r : ℕ) → r < more → (r < row) ⊎ (row ≤ r) → word_at ws r ≡ shown P m r
      by_row r lt (inl below) = h.done r below
      by_row r lt (inr from) = h.blank r from ∙ sym (none r from lt)

  row_within : (a q : ℕ) → a % page_words / q < page_words
  row_within a q = let small : a % page_words < page_words = omega arith in omega (arith, div-le_self (a % page_words) q, small)

  -- the page of an address that stands in a row
  page_stood : (g r a : ℕ) → page_words * g ≤ r → r < page_words * (g + 1) → Stands P m r a → a / page_words ≡ g
  page_stood g r a low high stands =
      let row = stands.in_row in
      let within = row_within a (2 ^ (page_of P (a / page_words)).amount) in
      omega (arith, row, within, low, high)

  none_stands : (r : ℕ) → ((a : ℕ) → Stands P m r a → shown P m r ≡ 0) → shown P m r ≡ 0
  none_stands r each = by_held (held_or_none P m r P.words)
    where
      by_held : ((a : ℕ) × Stands P m r a) ⊎ (shown P m r ≡ 0) → shown P m r ≡ 0
      by_held (inl h) = each h.0 h.1
      by_held (inr e) = e

  pub put_all : (ws : List Stored) → IsPut P m (page_words * page_count) ws → ws ≡ words_in P m P.words
  put_all ws h = same_words 0 ws (words_in P m P.words) h.ordered (words_from P m P.words) (λ r. by_row r (cases_lt r (page_words * page_count)))
    where
      past : (r : ℕ) → page_words * page_count ≤ r → (a : ℕ) → Stands P m r a → shown P m r ≡ 0
      past r from a stands =
          let there = stands.there in
          let row = stands.in_row in
          let within = row_within a (2 ^ (page_of P (a / page_words)).amount) in
          absurd (omega (arith, there, row, within, from))

      by_row : (r : ℕ) → (r < page_words * page_count) ⊎ (page_words * page_count ≤ r) → word_at ws r ≡ shown P m r
      by_row r (inl below) = h.done r below
      by_row r (inr from) = h.blank r from ∙ sym (none_stands r (past r from))

  -- a page without words
  pub put_without : (g : ℕ) (ws : List Stored) → ((o : ℕ) → o < page_words → 0 ≡ first_at P.words (page_words * g + o)) → IsPut P m (page_words * g) ws → IsPut P m (page_words * (g + 1)) ws
  put_without g ws none h = put_past (page_words * g) (page_words * (g + 1)) ws h (omega arith) (λ r low high. none_stands r (λ a stands. each r a stands (page_stood g r a low high stands)))
    where
      each : (r a : ℕ) → Stands P m r a → a / page_words ≡ g → shown P m r ≡ 0
      each r a stands page =
          let at : a ≡ page_words * g + a % page_words = omega (arith, page) in
          first_word P m r a P.words stands ∙ ap (first_at P.words) at ∙ sym (none (a % page_words) (omega arith))

module _ (P : Project) (m g : ℕ) where
  abbrev step : ℕ
  step = 2 ^ (page_of P g).amount

  -- where an address of this page stands
  pub record On (i a : ℕ) : Type 0 where
    pub on_module : (page_of P g).base + a % page_words % step ≡ m
    pub on_row : a % page_words / step ≡ i

  stood_on : (i a : ℕ) → a / page_words ≡ g → Stands P m (page_words * g + i) a → On i a
  stood_on i a page stands = record {
    on_module = ap (λ n. (page_of P n).base + a % page_words % 2 ^ (page_of P n).amount) (sym page) ∙ stands.in_module;
    on_row =
        let row : page_words * (a / page_words) + a % page_words / 2 ^ (page_of P (a / page_words)).amount ≡ page_words * g + i = stands.in_row in
        let same : a % page_words / 2 ^ (page_of P (a / page_words)).amount ≡ i = omega (arith, row, page) in
        ap (λ n. a % page_words / 2 ^ (page_of P n).amount) (sym page) ∙ same;
  }

  -- a page of which nothing stands in the module
  pub put_beside : (ws : List Stored) → lane (page_of P g) m ≡ None → IsPut P m (page_words * g) ws → IsPut P m (page_words * (g + 1)) ws
  put_beside ws none h =
      put_past P m (page_words * g) (page_words * (g + 1)) ws h (omega arith)
      (λ r low high. none_stands P m r (λ a stands. each r a low high stands (page_stood P m g r a low high stands)))
    where
      within : Bool
      within = nat_le (page_of P g).base m && nat_lt m ((page_of P g).base + step)

      outside : (t : Bool) → within ≡ t → cond {A = Option (ℕ × ℕ)} t (Some (m - (page_of P g).base, step)) None ≡ None → within ≡ true → ⊥
      outside true e n is = absurd (cc)
      outside false e n is = false≢true (sym e ∙ is)

      each : (r a : ℕ) → page_words * g ≤ r → r < page_words * (g + 1) → Stands P m r a → a / page_words ≡ g → shown P m r ≡ 0
      each r a low high stands page =
          let row : r ≡ page_words * g + (r - page_words * g) = omega (arith, low) in
          let on = stood_on (r - page_words * g) a page (subst (λ n. Stands P m n a) row stands) in
          let left : a % page_words % step < step = mod-lt (a % page_words) (pow_pos (page_of P g).amount) in
          let is = on.on_module in
          absurd (outside within refl none (and_from _ _ (le-leb (page_of P g).base m (omega (arith, is))) (lt-ltb m ((page_of P g).base + step) (omega (arith, is, left)))))

  -- the lane of a module
  pub record InLane (first : ℕ) : Type 0 where
    pub at : (page_of P g).base + first ≡ m
    pub below : first < step

  pub in_lane : (first far : ℕ) → lane (page_of P g) m ≡ Some (first, far) → InLane first × (far ≡ step)
  in_lane first far e = by_test (nat_le (page_of P g).base m && nat_lt m ((page_of P g).base + step)) refl e
    where
      by_test : (t : Bool) → (nat_le (page_of P g).base m && nat_lt m ((page_of P g).base + step)) ≡ t → cond {A = Option (ℕ × ℕ)} t (Some (m - (page_of P g).base, step)) None ≡ Some (first, far) → InLane first × (far ≡ step)
      by_test false is s = absurd (cc)
      by_test true is s =
          let parts = and_parts (nat_le (page_of P g).base m) (nat_lt m ((page_of P g).base + step)) is in
          let low : (page_of P g).base ≤ m = leb-true _ _ parts.0 in
          let high : m < (page_of P g).base + step = ltb-true _ _ parts.1 in
          let e0 : m - (page_of P g).base ≡ first = ap (λ (o : Option (ℕ × ℕ)). (unwrap_or o (0, 0)).0) s in
          let e1 : step ≡ far = ap (λ (o : Option (ℕ × ℕ)). (unwrap_or o (0, 0)).1) s in
          (record { at = omega (arith, low, e0); below = omega (arith, low, high, e0) }, sym e1)

  -- what stands at an offset of the lane
  pub shown_at : (i first offset : ℕ) → g < page_count → offset < page_words → InLane first → offset ≡ i * step + first → shown P m (page_words * g + i) ≡ first_at P.words (page_words * g + offset)
  shown_at i first offset there within lane e = first_word P m (page_words * g + i) (page_words * g + offset) P.words stands
    where
      page : (page_words * g + offset) / page_words ≡ g
      page = omega (arith, within)

      left : (page_words * g + offset) % page_words ≡ offset
      left = omega (arith, within)

      stands : Stands P m (page_words * g + i) (page_words * g + offset)
      stands = record {
        there = omega (arith, there, within);
        in_module =
            ap (λ n. (page_of P n).base + (page_words * g + offset) % page_words % 2 ^ (page_of P n).amount) page
            ∙ ap (λ n. (page_of P g).base + n % step) (left ∙ e)
            ∙ ap (λ n. (page_of P g).base + n) (mod-mul-add i step first lane.below)
            ∙ lane.at;
        in_row =
            ap (λ n. page_words * n + (page_words * g + offset) % page_words / 2 ^ (page_of P n).amount) page
            ∙ ap (λ n. page_words * g + n / step) (left ∙ e)
            ∙ ap (λ n. page_words * g + n) (div-mul-add i step first lane.below);
      }

  -- behind the lane's last word nothing of the page stands there
  pub put_behind : (i first offset : ℕ) (ws : List Stored) → InLane first → offset ≡ i * step + first → page_words ≤ offset → i ≤ page_words → IsPut P m (page_words * g + i) ws → IsPut P m (page_words * (g + 1)) ws
  put_behind i first offset ws lane e end few h =
      put_past P m (page_words * g + i) (page_words * (g + 1)) ws h (omega (arith, few))
      (λ r low high. none_stands P m r (λ a stands. each r a low high stands (page_stood P m g r a (omega (arith, low)) high stands)))
    where
      each : (r a : ℕ) → page_words * g + i ≤ r → r < page_words * (g + 1) → Stands P m r a → a / page_words ≡ g → shown P m r ≡ 0
      each r a low high stands page =
          let row : r ≡ page_words * g + (r - page_words * g) = omega (arith, low) in
          let on = stood_on (r - page_words * g) a page (subst (λ n. Stands P m n a) row stands) in
          let whole : a % page_words / step * step + a % page_words % step ≡ a % page_words = shr_split (a % page_words) (page_of P g).amount in
          let turns : i * step ≤ a % page_words / step * step = mul-le i step (a % page_words / step) step (let is = on.on_row in omega (arith, is, low)) (omega arith) in
          let is = on.on_module in
          let at = lane.at in
          let small : a % page_words < page_words = omega arith in
          absurd (omega (arith, whole, turns, is, at, e, end, small))

  -- one more word of the lane, and the lane's end
  pub put_next : (row first far offset word : ℕ) (ws : List Stored) → g < page_count → offset < page_words → lane (page_of P g) m ≡ Some (first, far) → page_words * g ≤ row
      → offset ≡ (row - page_words * g) * far + first → word ≡ first_at P.words (page_words * g + offset) → IsPut P m row ws → IsPut P m (row + 1) (with_word ws row word)
  put_next row first far offset word ws there within is from at same h =
      let lane = in_lane first far is in
      let i = row - page_words * g in
      let here : page_words * g + i ≡ row = omega (arith, from) in
      put_row P m row word ws h
      (same ∙ sym (shown_at i first offset there within lane.0 (at ∙ ap (λ n. i * n + first) lane.1)) ∙ ap (shown P m) here)

  pub put_end : (row first far offset : ℕ) (ws : List Stored) → lane (page_of P g) m ≡ Some (first, far) → page_words * g ≤ row → row ≤ page_words * (g + 1)
      → offset ≡ (row - page_words * g) * far + first → page_words ≤ offset → IsPut P m row ws → IsPut P m (page_words * (g + 1)) ws
  put_end row first far offset ws is from to at end h =
      let lane = in_lane first far is in
      let i = row - page_words * g in
      let here : row ≡ page_words * g + i = omega (arith, from) in
      put_behind i first offset ws lane.0 (at ∙ ap (λ n. i * n + first) lane.1) end (omega (arith, to)) (subst (λ n. IsPut P m n ws) here h)

pub lane_step : (g row first far offset : ℕ) → 0 < far → page_words * g ≤ row → offset < page_words → offset ≡ (row - page_words * g) * far + first
    → (row + 1 ≤ page_words * (g + 1)) × (offset + far ≡ (row + 1 - page_words * g) * far + first)
lane_step g row first far offset some from within at =
    let i = row - page_words * g in
    let few : i * 1 ≤ i * far = mul-le i 1 i far (omega arith) (omega (arith, some)) in
    let next : row + 1 - page_words * g ≡ i + 1 = omega (arith, from) in
    let more : (i + 1) * far ≡ i * far + far = omega arith in
    (omega (arith, from, few, at, within), omega (arith, at, more) ∙ ap (λ n. n * far + first) (sym next))

-- how many modules a page is spread over
abbrev pub pair_at : Page → ℕ × ℕ
pair_at p = (p.amount, p.base)

pair_of : (o : Option Page) → unwrap_or (option_map pair_at o) (0, 0) ≡ pair_at (unwrap_or o (record { amount = 0; base = 0 }))
pair_of None = refl
pair_of (Some p) = refl

pub few_modules : (M : Pages) (g : ℕ) (pair : ℕ × ℕ) → IsPageMap M → g < page_count → pair ≡ unwrap_or (option_map pair_at (page_in M g)) (0, 0)
    → (0 < 1 * 2 ^ pair.0 % 4294967296) × (1 * 2 ^ pair.0 % 4294967296 ≤ 64)
few_modules M g pair map there e =
    let parts = and_parts _ _ (map.spread g there) in
    let amount : pair.0 ≡ (page_among M g).amount = ap (λ (p : ℕ × ℕ). p.0) (e ∙ pair_of (page_in M g)) in
    let low : (page_among M g).amount ≤ M.k = leb-true _ _ parts.0 in
    let small : pair.0 ≤ 6 = omega (arith, amount, low, map.small) in
    let whole : 1 * 2 ^ pair.0 % 4294967296 ≡ 2 ^ pair.0 = one_shl pair.0 32 (omega (arith, small)) in
    let two : 0 < 2 = omega arith in
    let most : 2 ^ pair.0 ≤ 2 ^ 6 = pow-le-pow_right two small in
    (omega (arith, whole, pow_pos pair.0), omega (arith, whole, most))
