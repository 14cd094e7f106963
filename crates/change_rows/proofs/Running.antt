-- Cells that hold over several rows what they hold before them.
use Rattle.std.proofs.Common.{◌≡◌, ℕ, zero, suc, ◌+◌, ◌*◌, ◌<◌, ◌≤◌, ◌&&◌, ltb, leb, ◌∙◌, ◌⊎◌, inl, inr, sym, ap, refl, arith, Bool, true, false, cond, is_some, unwrap_or, Option, Some, None, List, [], ◌∷◌, ◌++◌, length, take, get_or}
use Rattle.std.specs.Option.{option_or}
use Rattle.std.proofs.Math.ListN.{set}
use Rattle.std.proofs.lemmas.Bool.{cases_eq, cases_lt, eq-eqb, ne_eqb, lt-ltb, le-ltb, le-leb, lt-leb, false≢true}
use Rattle.std.proofs.lemmas.List.{get_or-set_same, get_or-set_other, length_push, get_or-take, take_at, take-take, get_or_push}
use Rattle.change_rows.proofs.Editing.{no_seam, or_none, pushed_same, pushed_other}
use Rattle.change_rows.specs.Cells.{Held, no_cell, found, end_of, component_at, IsAscending}
use Rattle.change_rows.specs.Standing.{standing}
use Rattle.change_rows.specs.Changes.{row_at, begins_at, IsChanges}
use Rattle.change_rows.proofs.Standing.{carried}
use Rattle.change_rows.specs.Marks.{is_marked, is_in}
use Rattle.change_rows.proofs.Finding.{found_past}
use Rattle.change_rows.proofs.Laying.{some_low, last_found, rest_found}
use Rattle.change_rows.proofs.Putting.{alike}

-- the last of the rest is taken
pub popped : {X : Type 0} (all rest rest1 : List X) (x d : X) → length rest ≤ length all → rest ≡ take (length rest) all → rest ≡ rest1 ++ x ∷ [] → (length rest ≡ length rest1 + 1) × (rest1 ≡ take (length rest1) all) × (x ≡ get_or all (length rest1) d)
popped {X} all rest rest1 x d few e f = (count, front, last)
  where
    count : length rest ≡ length rest1 + 1
    count = ap length f ∙ length_push rest1 x

    front : rest1 ≡ take (length rest1) all
    front =
        sym (take_at rest1 (x ∷ []) (length rest1) refl) ∙ ap (take (length rest1)) (sym f ∙ e)
        ∙ take-take (length rest1) (length rest) all (omega (arith, ap length f, length_push rest1 x))

    last : x ≡ get_or all (length rest1) d
    last =
        sym (get_or_push rest1 x d (length rest1) refl) ∙ ap (λ (v : List X). get_or v (length rest1) d) (sym f ∙ e)
        ∙ get_or-take (length rest) all (length rest1) d (omega (arith, ap length f, length_push rest1 x))

module _ (rows rows1 : List (List Held)) (row : List Held) (before n t : ℕ) (at : t ≡ before + 1 + n) (e : rows1 ≡ set rows t row) where
  other : (u : ℕ) → (u ≡ t → ⊥) → row_at rows1 u ≡ row_at rows u
  other u ne = ap (λ (r : List (List Held)). row_at r u) e ∙ get_or-set_other rows t u row [] ne

  same : t < length rows → row_at rows1 t ≡ row
  same here = ap (λ (r : List (List Held)). row_at r t) e ∙ get_or-set_same rows t row [] here

pub step_inside : (new : ℕ → List Held) (rows rows1 : List (List Held)) (row : List Held) (before m n t k : ℕ) → t ≡ before + 1 + n → k ≡ n + 1 → t < length rows → rows1 ≡ set rows t row → row ≡ new t → ((u : ℕ) → before + k < u → u ≤ before + m → row_at rows u ≡ new u) → (u : ℕ) → before + n < u → u ≤ before + m → row_at rows1 u ≡ new u
step_inside new rows rows1 row before m n t k at count here e f inside u low high = by_place (cases_eq u t)
  where
    by_place : (u ≡ t) ⊎ (u ≡ t → ⊥) → row_at rows1 u ≡ new u
    by_place (inl q) = ap (row_at rows1) q ∙ same rows rows1 row before n t at e here ∙ f ∙ ap new (sym q)
    by_place (inr ne) = other rows rows1 row before n t at e u ne ∙ inside u (omega (arith, low, ne, at, count)) high

pub step_low : (rows0 rows rows1 : List (List Held)) (row : List Held) (before n t k : ℕ) → t ≡ before + 1 + n → k ≡ n + 1 → rows1 ≡ set rows t row → ((u : ℕ) → u ≤ before + k → row_at rows u ≡ row_at rows0 u) → (u : ℕ) → u ≤ before + n → row_at rows1 u ≡ row_at rows0 u
step_low rows0 rows rows1 row before n t k at count e low u h = other rows rows1 row before n t at e u (λ q. absurd (omega (arith, q, at, h))) ∙ low u (omega (arith, h, count))

pub step_behind : (rows0 rows rows1 : List (List Held)) (row : List Held) (before m n t : ℕ) → t ≡ before + 1 + n → n + 1 ≤ m → rows1 ≡ set rows t row → ((u : ℕ) → before + m < u → row_at rows u ≡ row_at rows0 u) → (u : ℕ) → before + m < u → row_at rows1 u ≡ row_at rows0 u
step_behind rows0 rows rows1 row before m n t at few e behind u h = other rows rows1 row before n t at e u (λ q. absurd (omega (arith, q, at, h, few))) ∙ behind u h

-- one component over a run of rows: what stood at `before` stands up to `last`, and behind it what stood
module _ (begins begins1 : ℕ → Option (List ℕ)) (before last n : ℕ)
    (order : before ≤ last)
    (early : (u : ℕ) → u ≤ before → begins1 u ≡ begins u)
    (none : (u : ℕ) → before < u → u ≤ last → begins1 u ≡ None)
    (next : last + 1 < n → unwrap_or (begins1 (last + 1)) (standing begins before) ≡ unwrap_or (begins (last + 1)) (standing begins last))
    (after : (u : ℕ) → last + 1 < u → u < n → begins1 u ≡ begins u) where
  run_early : (u : ℕ) → u ≤ before → standing begins1 u ≡ standing begins u
  run_early u h = alike begins begins1 u (λ k l. early k (omega arith))

  pub run_inside : (u : ℕ) → before < u → u ≤ last → standing begins1 u ≡ standing begins before
  run_inside u low high = carried begins1 before u (omega arith) (λ k l m. none k l (omega arith)) ∙ run_early before (omega arith)

  run_last : standing begins1 last ≡ standing begins before
  run_last = by_place (cases_eq before last)
    where
      by_place : (before ≡ last) ⊎ (before ≡ last → ⊥) → standing begins1 last ≡ standing begins before
      by_place (inl e) = ap (standing begins1) (sym e) ∙ run_early before (omega arith)
      by_place (inr ne) = run_inside last (omega (arith, ne, order)) (omega arith)

  pub run_after : (u : ℕ) → last < u → u < n → standing begins1 u ≡ standing begins u
  run_after zero low high = absurd (omega arith)
  run_after (suc u) low high = by_place (cases_eq u last) (λ l. run_after u l (omega arith))
    where
      by_place : (u ≡ last) ⊎ (u ≡ last → ⊥) → (last < u → standing begins1 u ≡ standing begins u) → standing begins1 (suc u) ≡ standing begins (suc u)
      by_place (inl e) more =
          let s : suc u ≡ last + 1 = omega (arith, e) in
          ap (unwrap_or (begins1 (suc u))) (ap (standing begins1) e ∙ run_last)
          ∙ ap (λ (k : ℕ). unwrap_or (begins1 k) (standing begins before)) s ∙ next (omega (arith, s, high))
          ∙ sym (ap (λ (k : ℕ). unwrap_or (begins k) (standing begins last)) s)
          ∙ ap (λ (k : ℕ). unwrap_or (begins (suc u)) (standing begins k)) (sym e)
      by_place (inr ne) more =
          let l : last < u = omega (arith, ne, low) in
          ap (λ (o : Option (List ℕ)). unwrap_or o (standing begins1 u)) (after (suc u) (omega arith) high) ∙ ap (unwrap_or (begins (suc u))) (more l)

pub reseam : (width : ℕ) (rows : List (List Held)) (marks : List (List ℕ)) (seam seam1 : List Held) (at at1 : ℕ) → IsChanges width rows marks seam at → end_of seam1 ≤ width → ((at1 < length rows → ⊥) → seam1 ≡ []) → IsChanges width rows marks seam1 at1
reseam width rows marks seam seam1 at at1 s wide there = record { wide = s.wide; seam_wide = wide; seam_there = there; room = s.room; tall = s.tall; marked = s.marked; short = s.short }

-- a component over the run
module _ (rows rows1 : List (List Held)) (seam seam1 chosen : List Held) (at before last m c : ℕ)
    (order : before ≤ last)
    (there : last < length rows)
    (none : seam ≡ [])
    (count : before + m ≡ last)
    (inside : (u : ℕ) → before < u → u ≤ last → found (row_at rows1 u) c ≡ cond (is_some (found chosen c)) None (found (row_at rows u) c))
    (low : (u : ℕ) → u ≤ before → row_at rows1 u ≡ row_at rows u)
    (behind : (u : ℕ) → before + m < u → row_at rows1 u ≡ row_at rows u)
    (kept : last + 1 < length rows → (w : List ℕ) → found chosen c ≡ Some w → found (row_at rows (last + 1)) c ≡ None → unwrap_or (found seam1 c) (standing (begins_at rows seam at c) before) ≡ standing (begins_at rows seam at c) last)
    (only : found chosen c ≡ None → found seam1 c ≡ None) where
  abbrev olds : ℕ → Option (List ℕ)
  olds u = begins_at rows seam at c u

  abbrev news : ℕ → Option (List ℕ)
  news u = begins_at rows1 seam1 (last + 1) c u

  old_is : (u : ℕ) → olds u ≡ found (row_at rows u) c
  old_is u = ap (λ (v : List Held). begins_at rows v at c u) none ∙ no_seam rows at c u

  new_is : (u : ℕ) → (u ≡ last + 1 → ⊥) → news u ≡ found (row_at rows1 u) c
  new_is u ne = ap (λ (b : Bool). option_or (found (row_at rows1 u) c) (cond b (found seam1 c) None)) (ne_eqb u (last + 1) ne) ∙ or_none (found (row_at rows1 u) c)

  new_seam : news (last + 1) ≡ option_or (found (row_at rows (last + 1)) c) (found seam1 c)
  new_seam =
      ap (λ (b : Bool). option_or (found (row_at rows1 (last + 1)) c) (cond b (found seam1 c) None)) (eq-eqb (last + 1) (last + 1) refl)
      ∙ ap (λ (r : List Held). option_or (found r c) (found seam1 c)) (behind (last + 1) (omega (arith, count)))

  same_low : (u : ℕ) → u ≤ before → news u ≡ olds u
  same_low u h = new_is u (λ q. absurd (omega (arith, q, h, order))) ∙ ap (λ (r : List Held). found r c) (low u h) ∙ sym (old_is u)

  same_high : (u : ℕ) → last + 1 < u → news u ≡ olds u
  same_high u h = new_is u (λ q. absurd (omega (arith, q, h))) ∙ ap (λ (r : List Held). found r c) (behind u (omega (arith, h, count))) ∙ sym (old_is u)

  in_run : (u : ℕ) → before < u → u ≤ last → news u ≡ cond (is_some (found chosen c)) None (found (row_at rows u) c)
  in_run u l h = new_is u (λ q. absurd (omega (arith, q, h))) ∙ inside u l h

  next_is : (w : List ℕ) → found chosen c ≡ Some w → last + 1 < length rows → (p : Option (List ℕ)) → found (row_at rows (last + 1)) c ≡ p → unwrap_or (news (last + 1)) (standing olds before) ≡ unwrap_or (olds (last + 1)) (standing olds last)
  next_is w e h (Some x) f =
      ap (λ (o : Option (List ℕ)). unwrap_or o (standing olds before)) (new_seam ∙ ap (λ (o : Option (List ℕ)). option_or o (found seam1 c)) f)
      ∙ sym (ap (λ (o : Option (List ℕ)). unwrap_or o (standing olds last)) (old_is (last + 1) ∙ f))
  next_is w e h None f =
      ap (λ (o : Option (List ℕ)). unwrap_or o (standing olds before)) (new_seam ∙ ap (λ (o : Option (List ℕ)). option_or o (found seam1 c)) f)
      ∙ kept h w e f
      ∙ sym (ap (λ (o : Option (List ℕ)). unwrap_or o (standing olds last)) (old_is (last + 1) ∙ f))

  abbrev IsRun : ℕ → Bool → Type 0
  IsRun u b = standing news u ≡ cond (b && (ltb before u && leb u last)) (standing olds before) (standing olds u)

  out_of_run : (u : ℕ) (b : Bool) → (ltb before u && leb u last) ≡ false → standing news u ≡ standing olds u → IsRun u b
  out_of_run u true e s = s ∙ sym (ap (λ (d : Bool). cond d (standing olds before) (standing olds u)) e)
  out_of_run u false e s = s

  all_same : found chosen c ≡ None → (u : ℕ) → news u ≡ olds u
  all_same e u = by_place (cases_lt before u) (cases_lt last u) (cases_eq u (last + 1))
    where
      by_place : (before < u) ⊎ (u ≤ before) → (last < u) ⊎ (u ≤ last) → (u ≡ last + 1) ⊎ (u ≡ last + 1 → ⊥) → news u ≡ olds u
      by_place (inr l) _ _ = same_low u l
      by_place (inl l) (inr h) _ = in_run u l h ∙ ap (λ (o : Option (List ℕ)). cond (is_some o) None (found (row_at rows u) c)) e ∙ sym (old_is u)
      by_place (inl l) (inl h) (inl q) =
          ap news q ∙ new_seam ∙ ap (option_or (found (row_at rows (last + 1)) c)) (only e) ∙ or_none (found (row_at rows (last + 1)) c)
          ∙ sym (ap olds q ∙ old_is (last + 1))
      by_place (inl l) (inl h) (inr ne) = same_high u (omega (arith, h, ne))

  is_run : (o : Option (List ℕ)) → found chosen c ≡ o → (u : ℕ) → u < length rows → IsRun u (is_some o)
  is_run None e u h = alike olds news u (λ k _. all_same e k)
  is_run (Some w) e u h = by_place (cases_lt before u) (cases_lt last u)
    where
      gone : (k : ℕ) → before < k → k ≤ last → news k ≡ None
      gone k l m = in_run k l m ∙ ap (λ (o : Option (List ℕ)). cond (is_some o) None (found (row_at rows k) c)) e

      by_place : (before < u) ⊎ (u ≤ before) → (last < u) ⊎ (u ≤ last) → IsRun u true
      by_place (inr l) _ = out_of_run u true (ap (λ (b : Bool). b && leb u last) (le-ltb before u l)) (alike olds news u (λ k m. same_low k (omega (arith, m, l))))
      by_place (inl l) (inl m) =
          out_of_run u true (ap (λ (b : Bool). b && leb u last) (lt-ltb before u l) ∙ lt-leb u last m)
          (run_after olds news before last (length rows) order same_low gone (λ k. next_is w e k (found (row_at rows (last + 1)) c) refl) (λ k low1 _. same_high k low1) u m h)
      by_place (inl l) (inr m) =
          run_inside olds news before last (length rows) order same_low gone (λ k. next_is w e k (found (row_at rows (last + 1)) c) refl) (λ k low1 _. same_high k low1) u l m
          ∙ sym (ap (λ (d : Bool). cond d (standing olds before) (standing olds u)) (ap (λ (b : Bool). b && leb u last) (lt-ltb before u l) ∙ le-leb u last m))

  pub runs : (u : ℕ) → u < length rows → standing news u ≡ cond (is_some (found chosen c) && (ltb before u && leb u last)) (standing olds before) (standing olds u)
  runs u h = is_run (found chosen c) refl u h

-- the same, once the seam was settled
pub ran_all : (rows0 rows rows1 : List (List Held)) (seam0 seam seam1 seam2 chosen : List Held) (at0 at before last m c : ℕ) (member : Bool) → before ≤ last → last < length rows → seam ≡ [] → before + m ≡ last → ((u : ℕ) → before < u → u ≤ last → found (row_at rows1 u) c ≡ cond (is_some (found chosen c)) None (found (row_at rows u) c)) → ((u : ℕ) → u ≤ before → row_at rows1 u ≡ row_at rows u) → ((u : ℕ) → before + m < u → row_at rows1 u ≡ row_at rows u) → (last + 1 < length rows → (w : List ℕ) → found chosen c ≡ Some w → found (row_at rows (last + 1)) c ≡ None → unwrap_or (found seam1 c) (standing (begins_at rows seam at c) before) ≡ standing (begins_at rows seam at c) last) → (found chosen c ≡ None → found seam1 c ≡ None) → ((d u : ℕ) → begins_at rows seam at d u ≡ begins_at rows0 seam0 at0 d u) → length rows ≡ length rows0 → seam2 ≡ seam1 → is_some (found chosen c) ≡ member → (u : ℕ) → u < length rows0 → standing (begins_at rows1 seam2 (last + 1) c) u ≡ cond (member && (ltb before u && leb u last)) (standing (begins_at rows0 seam0 at0 c) before) (standing (begins_at rows0 seam0 at0 c) u)
ran_all rows0 rows rows1 seam0 seam seam1 seam2 chosen at0 at before last m c member order there none count inside low behind kept only same len g chose u h =
    ap (λ (v : List Held). standing (begins_at rows1 v (last + 1) c) u) g
    ∙ runs rows rows1 seam seam1 chosen at before last m c order there none count inside low behind kept only u (omega (arith, h, len))
    ∙ ap (λ (b : Bool). cond (b && (ltb before u && leb u last)) (standing (begins_at rows seam at c) before) (standing (begins_at rows seam at c) u)) chose
    ∙ ap (λ (w : List ℕ). cond (member && (ltb before u && leb u last)) w (standing (begins_at rows seam at c) u)) (stood before)
    ∙ ap (λ (w : List ℕ). cond (member && (ltb before u && leb u last)) (standing (begins_at rows0 seam0 at0 c) before) w) (stood u)
  where
    stood : (k : ℕ) → standing (begins_at rows seam at c) k ≡ standing (begins_at rows0 seam0 at0 c) k
    stood k = alike (begins_at rows0 seam0 at0 c) (begins_at rows seam at c) k (λ j _. same c j)

is_none : (o : Option (List ℕ)) → is_some o ≡ false → o ≡ None
is_none None e = refl
is_none (Some w) e = absurd (false≢true (sym e))

-- a row in which no component of a set is marked has none of the chosen ones
pub none_chosen : (width : ℕ) (rows : List (List Held)) (marks : List (List ℕ)) (seam chosen : List Held) (at t : ℕ) (set : List ℕ) → IsChanges width rows marks seam at → end_of chosen ≤ width → ((c : ℕ) → c < width → is_some (found chosen c) ≡ is_in set c) → ((c : ℕ) → c < 64 * length marks → is_in set c ≡ true → is_marked marks t c ≡ false) → (c : ℕ) → found (row_at rows t) c ≡ cond (is_some (found chosen c)) None (found (row_at rows t) c)
none_chosen width rows marks seam chosen at t set s wide chose none c = by_case (found chosen c) refl
  where
    by_case : (o : Option (List ℕ)) → found chosen c ≡ o → found (row_at rows t) c ≡ cond (is_some o) None (found (row_at rows t) c)
    by_case None e = refl
    by_case (Some w) e =
        let small : c < width = omega (arith, wide, some_low chosen c w e) in
        is_none (found (row_at rows t) c) (sym (s.marked t c small) ∙ none c (omega (arith, small, s.room)) (sym (chose c small) ∙ ap is_some e))

-- a cell of a component that a set has is left out, and another one is kept
pub left_out : (cells out : List Held) (set : List ℕ) (i c : ℕ) → i < length cells → c ≡ component_at cells i → is_in set c ≡ true → ((d : ℕ) → found out d ≡ cond (is_in set d) None (found (take i cells) d)) → (d : ℕ) → found out d ≡ cond (is_in set d) None (found (take (i + 1) cells) d)
left_out cells out set i c h e member before d = by_place (cases_eq d (component_at cells i))
  where
    by_place : (d ≡ component_at cells i) ⊎ (d ≡ component_at cells i → ⊥) → found out d ≡ cond (is_in set d) None (found (take (i + 1) cells) d)
    by_place (inl q) =
        let in_set : is_in set d ≡ true = ap (is_in set) (q ∙ sym e) ∙ member in
        before d ∙ ap (λ (b : Bool). cond b None (found (take i cells) d)) in_set ∙ sym (ap (λ (b : Bool). cond b None (found (take (i + 1) cells) d)) in_set)
    by_place (inr n) = before d ∙ ap (cond (is_in set d) None) (sym (rest_found cells i d h n))

pub left_more : (cells out out1 : List Held) (set : List ℕ) (i c : ℕ) (words : List ℕ) → IsAscending cells → i < length cells → c ≡ component_at cells i → words ≡ (get_or cells i no_cell).words → is_in set c ≡ false → end_of out ≤ c → out1 ≡ out ++ record { component = c; words = words } ∷ [] → ((d : ℕ) → found out d ≡ cond (is_in set d) None (found (take i cells) d)) → (d : ℕ) → found out1 d ≡ cond (is_in set d) None (found (take (i + 1) cells) d)
left_more cells out out1 set i c words asc h e f other low g before d = by_place (cases_eq d c)
  where
    by_place : (d ≡ c) ⊎ (d ≡ c → ⊥) → found out1 d ≡ cond (is_in set d) None (found (take (i + 1) cells) d)
    by_place (inl q) =
        ap (found out1) q ∙ pushed_same out out1 c words g low ∙ ap Some f ∙ sym (last_found cells i asc h)
        ∙ ap (found (take (i + 1) cells)) (sym e ∙ sym q)
        ∙ sym (ap (λ (b : Bool). cond b None (found (take (i + 1) cells) d)) (ap (is_in set) q ∙ other))
    by_place (inr n) =
        pushed_other out out1 c words g d n ∙ before d ∙ ap (cond (is_in set d) None) (sym (rest_found cells i d h (λ q. n (q ∙ sym e))))

-- what is left without the components of a set is so without the chosen ones
pub left_chosen : (width : ℕ) (row chosen out : List Held) (set : List ℕ) → end_of row ≤ width → end_of chosen ≤ width → ((c : ℕ) → c < width → is_some (found chosen c) ≡ is_in set c) → ((c : ℕ) → found out c ≡ cond (is_in set c) None (found row c)) → (c : ℕ) → found out c ≡ cond (is_some (found chosen c)) None (found row c)
left_chosen width row chosen out set wide chosen_wide chose left c = by_place (cases_lt c width)
  where
    same_none : (b : Bool) (o : Option (List ℕ)) → o ≡ None → cond b None o ≡ o
    same_none true o e = sym e
    same_none false o e = refl

    by_place : (c < width) ⊎ (width ≤ c) → found out c ≡ cond (is_some (found chosen c)) None (found row c)
    by_place (inl l) = left c ∙ ap (λ (b : Bool). cond b None (found row c)) (sym (chose c l))
    by_place (inr l) =
        let none : found row c ≡ None = found_past row c (omega (arith, l, wide)) in
        left c ∙ same_none (is_in set c) (found row c) none ∙ sym (same_none (is_some (found chosen c)) (found row c) none)
