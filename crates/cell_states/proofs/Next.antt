-- A row that holds words near a cell, and the next state of the run out of them.
use Rattle.std.proofs.Common.{◌≡◌, ℕ, suc, ◌+◌, ◌-◌, ◌<◌, ◌∙◌, ◌⊎◌, inl, inr, sym, ap, subst, refl, arith, All, Option, Some, List, [], ◌∷◌, length, map, get_or}
use Rattle.std.specs.List.{AllByRecursion}
use Rattle.std.specs.Option.{option_or}
use Rattle.std.proofs.lemmas.Bool.{cases_eq}
use Rattle.std.proofs.Math.ListN.{set, length-set}
use Rattle.std.proofs.lemmas.List.{get_or-set_same, get_or-set_other}
use Rattle.std.proofs.lemmas.List.Elements.{recursion_from_All, All-weaker}
use Rattle.grid_law.specs.Rules.{Rules, Laws}
use Rattle.grid_law.specs.Codec.{Codec, CodecLaws, IsTold}
use Rattle.grid_law.specs.Run.{run}
use Rattle.change_rows.specs.Cells.{Held, found}
use Rattle.change_rows.specs.Rows.{words_at}
use Rattle.change_lists.specs.Changes.{Changes, list_at, held_at as memory_at}
use Rattle.cell_states.specs.declared.near.Near.{Near}
use Rattle.cell_states.specs.Codes.{state_of, IsCode}
use Rattle.cell_states.specs.NextWords.{HoldsRunAt, HoldsRunBefore, HoldsWords, IsDrafted, IsOfWords}
use Rattle.cell_states.proofs.Changed.{memory_same}
use Rattle.cell_states.proofs.Codes.{holds_only}
use Rattle.cell_states.proofs.Whole.{is_told_by}
use Rattle.cell_states.proofs.Stepped.{same_told, run_steps}

map_all : {X Y : Type 0} (f g : X → Y) (xs : List X) → AllByRecursion (λ x. f x ≡ g x) xs → map f xs ≡ map g xs
map_all f g [] all = refl
map_all f g (x ∷ xs) all = ap (λ y. y ∷ map f xs) all.0 ∙ ap (λ ys. g x ∷ ys) (map_all f g xs all.1)

-- a draft says the same where the words are the same
pub drafted_as : (rows : List (List (List ℕ))) (draft : List Held) (t c : ℕ) (ws us : List ℕ) → ws ≡ us → IsDrafted rows draft t c ws → IsDrafted rows draft t c us
drafted_as rows draft t c ws us e drafted = subst (IsDrafted rows draft t c) e drafted

-- and where what it has for the component is the same
pub drafted_along : (rows : List (List (List ℕ))) (draft draft1 : List Held) (t c : ℕ) (ws : List ℕ) → found draft1 c ≡ found draft c → IsDrafted rows draft t c ws → IsDrafted rows draft1 t c ws
drafted_along rows draft draft1 t c ws e drafted = record {
  same = λ none. drafted.same (sym e ∙ none);
  other = λ us some. drafted.other us (sym e ∙ some);
}

module _ {State Slots Slot Memory : Type 0} (R : Rules State Slots Slot) (C : Codec State Memory) (s : Slots) (rows : List (List (List ℕ))) where
  -- the lists are the same
  run_along : (memories memories1 : List (Changes Memory)) (t : ℕ) → ((c : ℕ) → list_at memories1 c ≡ list_at memories c) → HoldsRunAt R C s rows memories t → HoldsRunAt R C s rows memories1 t
  run_along memories memories1 t same held = record {
    told = held.told;
    words = held.words;
    memory = λ c h. memory_same memories memories1 c t (same c) ∙ held.memory c h;
  }

  pub before_along : (memories memories1 : List (Changes Memory)) (t : ℕ) → ((c : ℕ) → list_at memories1 c ≡ list_at memories c) → HoldsRunBefore R C s rows memories t → HoldsRunBefore R C s rows memories1 t
  before_along memories memories1 t same held = record {
    later = held.later;
    before = run_along memories memories1 (t - 1) same held.before;
    earlier = λ later. run_along memories memories1 (t - 1 - 1) same (held.earlier later);
  }

  module _ (memories : List (Changes Memory)) where
    -- a component that has the words and the memory that it had has the state that it had
    run_same : (t u c : ℕ) → HoldsRunAt R C s rows memories t → HoldsRunAt R C s rows memories u → c < R.components s → words_at rows u c ≡ words_at rows t c → memory_at memories c u ≡ memory_at memories c t → run R s t c ≡ run R s u c
    run_same t u c here was h words memory =
        same_told C (run R s u c) (run R s t c) (was.told c h) (here.told c h)
        (sym (here.words c h) ∙ sym words ∙ was.words c h)
        (sym (here.memory c h) ∙ sym memory ∙ was.memory c h)

    -- one stays where those near it stayed one cycle earlier
    pub run_goes_on : Laws R → (t c : ℕ) → 1 < t → c < R.components s → HoldsRunAt R C s rows memories (t - 1) → HoldsRunAt R C s rows memories (t - 1 - 1)
        → All (λ d. (words_at rows (t - 1 - 1) d ≡ words_at rows (t - 1) d) × (memory_at memories d (t - 1 - 1) ≡ memory_at memories d (t - 1))) (R.near s c)
        → run R s t c ≡ run R s (t - 1) c
    run_goes_on laws t c h inside here was stay =
        let within = laws.near_within s c inside in
        let same : All (λ d. run R s (t - 1) d ≡ run R s (t - 1 - 1) d) (R.near s c) = λ k d l. run_same (t - 1) (t - 1 - 1) (get_or (R.near s c) k d) here was (within k d l) (stay k d l).0 (stay k d l).1 in
        sym (run_steps R s t c (omega (arith, h)))
        ∙ ap (λ xs. R.step s xs c) (map_all (run R s (t - 1)) (run R s (t - 1 - 1)) (R.near s c) (recursion_from_All _ (R.near s c) same))
        ∙ run_steps R s (t - 1) c (omega (arith, h))

-- coded cells that hold the states of the run have its words and memories
module _ {State Slots Slot Memory : Type 0} (R : Rules State Slots Slot) (C : Codec State Memory) (laws : CodecLaws C) (s : Slots) (rows : List (List (List ℕ))) (memories : List (Changes Memory)) (t : ℕ) (coded : (c : ℕ) → IsCode C (words_at rows t c) (memory_at memories c t))
    (held : (c : ℕ) → c < R.components s → state_of C (words_at rows t c) (memory_at memories c t) ≡ Some (run R s t c)) where
  pub holds_run : HoldsRunAt R C s rows memories t
  holds_run = record {
    told = λ c h. (is_told_by C laws _ _ (coded c) (run R s t c) (held c h)).0;
    words = λ c h. sym (is_told_by C laws _ _ (coded c) (run R s t c) (held c h)).1;
    memory = λ c h. sym (holds_only C laws _ _ (run R s t c) (coded c) (held c h)).memory_is;
  }

-- what is known of those that were passed
pub passed_more : (at at1 : List ℕ) (c n : ℕ) (ms : List ℕ) → get_or at1 c 0 ≡ n → ((d : ℕ) → (d ≡ c → ⊥) → get_or at1 d 0 ≡ get_or at d 0) → All (λ d. get_or at d 0 ≡ n) ms → All (λ d. get_or at1 d 0 ≡ n) ms
passed_more at at1 c n ms here others all = All-weaker (λ d. get_or at d 0 ≡ n) (λ d. get_or at1 d 0 ≡ n) (λ d e. by_place d e (cases_eq d c)) ms all
  where
    by_place : (d : ℕ) → get_or at d 0 ≡ n → (d ≡ c) ⊎ (d ≡ c → ⊥) → get_or at1 d 0 ≡ n
    by_place d e (inl q) = ap (λ k. get_or at1 k 0) q ∙ here
    by_place d e (inr m) = others d m ∙ e

module _ {State Slots Slot Memory : Type 0} (R : Rules State Slots Slot) (C : Codec State Memory) {Whole : Type 0} (stands : Whole → Slots → Type 0) (state : Whole → ℕ → State) (s : Slots) where
  -- a component has the words of another cycle, which are the same
  pub words_of : (near : Near Whole) (rows : List (List (List ℕ))) (t u d : ℕ) → HoldsWords R C stands state s near → d < R.components s → get_or near.at.items d 0 ≡ suc u
      → IsTold C (run R s t d) → words_at rows t d ≡ C.words (run R s t d) → words_at rows u d ≡ C.words (run R s u d) → words_at rows t d ≡ words_at rows u d → IsOfWords C (state near.row) (run R s t) d
  words_of near rows t u d held h at told here was same =
      let of = held.words d u h at in
      record { told = told; row_told = of.row_told; words = of.words ∙ sym was ∙ sym same ∙ here }

  -- the words that are known are those of this cycle, or of the one before, which has the same
  pub still_held : (near : Near Whole) (rows : List (List (List ℕ))) (t d n : ℕ) → HoldsWords R C stands state s near → d < R.components s → n ≡ get_or near.at.items d 0
      → IsTold C (run R s t d) → words_at rows t d ≡ C.words (run R s t d) → (0 < t → words_at rows (t - 1) d ≡ C.words (run R s (t - 1) d))
      → (n ≡ t + 1) ⊎ ((0 < t) × (n ≡ t) × (words_at rows t d ≡ words_at rows (t - 1) d)) → IsOfWords C (state near.row) (run R s t) d
  still_held near rows t d n held h at told here was (inl e) = let one : t + 1 ≡ suc t = omega arith in held.words d t h (sym at ∙ e ∙ one)
  still_held near rows t d n held h at told here was (inr q) = let later = q.0 in let one : t ≡ suc (t - 1) = omega (arith, later) in words_of near rows t (t - 1) d held h (sym at ∙ q.1 ∙ one) told here (was later) q.2

  -- a component has the same state there, so the same words
  along : (state1 state0 : ℕ → State) (xs : ℕ → State) (d : ℕ) → state1 d ≡ state0 d → IsOfWords C state0 xs d → IsOfWords C state1 xs d
  along state1 state0 xs d e of = record {
    told = of.told;
    row_told = subst (IsTold C) (sym e) of.row_told;
    words = ap C.words e ∙ of.words;
  }

  -- nothing is known any more of a component that has any state
  pub known_less : (near near1 : Near Whole) (c : ℕ) → HoldsWords R C stands state s near → stands near1.row s → near1.at.items ≡ set near.at.items c 0
      → ((d : ℕ) → d < R.components s → (d ≡ c → ⊥) → state near1.row d ≡ state near.row d) → HoldsWords R C stands state s near1
  known_less near near1 c held so at others = record {
    stands_so = so;
    each = ap length at ∙ length-set near.at.items c 0 ∙ held.each;
    words = λ d t h e. by_place d t h e (cases_eq d c);
  }
    where
      by_place : (d t : ℕ) → d < R.components s → get_or near1.at.items d 0 ≡ suc t → (d ≡ c) ⊎ (d ≡ c → ⊥) → IsOfWords C (state near1.row) (run R s t) d
      by_place d t h e (inl q) =
          let zero_is : 0 ≡ suc t = sym (get_or-set_same near.at.items c 0 0 (omega (arith, h, q, held.each))) ∙ ap (λ k. get_or (set near.at.items c 0) k 0) (sym q) ∙ ap (λ xs. get_or xs d 0) (sym at) ∙ e in
          absurd (omega (arith, zero_is))
      by_place d t h e (inr n) = along (state near1.row) (state near.row) (run R s t) d (others d h n) (held.words d t h (sym (ap (λ xs. get_or xs d 0) at ∙ get_or-set_other near.at.items c d 0 0 n) ∙ e))

  -- a component's words are those of a cycle
  pub known_more : (near near1 : Near Whole) (c t : ℕ) → HoldsWords R C stands state s near → near1.row ≡ near.row → near1.at.items ≡ set near.at.items c (t + 1)
      → IsOfWords C (state near.row) (run R s t) c → HoldsWords R C stands state s near1
  known_more near near1 c t held row at of = record {
    stands_so = subst (λ r. stands r s) (sym row) held.stands_so;
    each = ap length at ∙ length-set near.at.items c (t + 1) ∙ held.each;
    words = λ d u h e. subst (λ r. IsOfWords C (state r) (run R s u) d) (sym row) (by_place d u h e (cases_eq d c));
  }
    where
      by_place : (d u : ℕ) → d < R.components s → get_or near1.at.items d 0 ≡ suc u → (d ≡ c) ⊎ (d ≡ c → ⊥) → IsOfWords C (state near.row) (run R s u) d
      by_place d u h e (inl q) =
          let next : t + 1 ≡ suc u = sym (get_or-set_same near.at.items c (t + 1) 0 (omega (arith, h, q, held.each))) ∙ ap (λ k. get_or (set near.at.items c (t + 1)) k 0) (sym q) ∙ ap (λ xs. get_or xs d 0) (sym at) ∙ e in
          let same : t ≡ u = omega (arith, next) in
          subst (λ k. IsOfWords C (state near.row) (run R s k) d) same (subst (IsOfWords C (state near.row) (run R s t)) (sym q) of)
      by_place d u h e (inr n) = held.words d u h (sym (ap (λ xs. get_or xs d 0) at ∙ get_or-set_other near.at.items c d (t + 1) 0 n) ∙ e)

  -- another row with the same states, of which the same is known
  pub known_same : (near near1 : Near Whole) → HoldsWords R C stands state s near → stands near1.row s → near1.at.items ≡ near.at.items → ((d : ℕ) → state near1.row d ≡ state near.row d) → HoldsWords R C stands state s near1
  known_same near near1 held so at same = record {
    stands_so = so;
    each = ap length at ∙ held.each;
    words = λ d t h e. along (state near1.row) (state near.row) (run R s t) d (same d) (held.words d t h (sym (ap (λ xs. get_or xs d 0) at) ∙ e));
  }

module _ {State Slots Slot Memory : Type 0} (R : Rules State Slots Slot) (C : Codec State Memory) (s : Slots) where
  -- the memory of the run's next state
  pub memory_next : (t d : ℕ) → 0 < t → (left m : Option Memory) → m ≡ C.memory (run R s (t - 1) d) → C.memory (run R s (suc (t - 1)) d) ≡ option_or left (C.memory (run R s (t - 1) d)) → option_or left m ≡ C.memory (run R s t d)
  memory_next t d later left m here next = let one : suc (t - 1) ≡ t = omega (arith, later) in ap (option_or left) here ∙ sym next ∙ ap (λ k. C.memory (run R s k d)) one
