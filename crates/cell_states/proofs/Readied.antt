-- What is ready and what is found for components, one after another.
use Rattle.std.proofs.Common.{◌≡◌, ◌↔◌, ℕ, ◌+◌, ◌≤◌, ◌∙◌, sym, subst, refl, arith, Bool, true, false, Option, List, length}
use Rattle.std.proofs.lemmas.Bool.{true≢false}
use Rattle.grid_law.specs.Codec.{Codec}
use Rattle.change_rows.specs.Cells.{Held, found, end_of}
use Rattle.change_lists.specs.Changes.{Changes, list_at, held_at as memory_at}
use Rattle.cell_states.specs.declared.states.memory.Change.{Change}
use Rattle.cell_states.specs.Found.{IsFoundTo, IsFound}
use Rattle.cell_states.specs.Readied.{AreEach, IsReadied, KeepsOthers}
use Rattle.cell_states.proofs.Changed.{value_along, ready_along, memory_same}
use Rattle.cell_states.proofs.Next.{drafted_along}

-- what is marked is in a set where none beside it is marked
pub of_set : (set mark : Bool) → (set ≡ false → mark ≡ false) → mark ≡ true → set ≡ true
of_set true mark none e = refl
of_set false mark none e = absurd (true≢false (sym e ∙ none refl))

module _ {Memory : Type 0} where
  -- as many as the memories
  pub each_own : (count : ℕ) (memories : List (Changes Memory)) (ready : List (Option (Change Memory))) (marks : List Bool) → AreEach count memories ready marks → AreEach (length memories) memories ready marks
  each_own count memories ready marks each = record {
    lists = refl;
    places = each.places ∙ sym each.lists;
    marked = each.marked ∙ sym each.lists;
  }

  pub each_along : (count : ℕ) (memories memories1 : List (Changes Memory)) (ready1 : List (Option (Change Memory))) (marks1 : List Bool) → length memories ≡ count → AreEach (length memories) memories1 ready1 marks1 → AreEach count memories1 ready1 marks1
  each_along count memories memories1 ready1 marks1 e each = subst (λ n. AreEach n memories1 ready1 marks1) e each

  -- a mark tells the same of memories of which none is another
  pub marked_before : (memories memories1 : List (Changes Memory)) (c t : ℕ) (mark : Bool) (value : Option Memory) → list_at memories1 c ≡ list_at memories c → (mark ≡ false) ↔ (memory_at memories1 c t ≡ value) → (mark ≡ false) ↔ (memory_at memories c t ≡ value)
  marked_before memories memories1 c t mark value same tells =
      let e = memory_same memories memories1 c t same in
      (λ p. sym e ∙ tells.0 p, λ p. tells.1 (e ∙ p))

  module _ (c : ℕ) (memories memories1 : List (Changes Memory)) (ready ready1 : List (Option (Change Memory))) (marks marks1 : List Bool) (kept : KeepsOthers c memories memories1 ready ready1 marks marks1) where
    -- what is ready for another component stays so
    pub readied_along : (t d : ℕ) (value : Option Memory) → (d ≡ c → ⊥) → IsReadied memories ready marks t d value → IsReadied memories1 ready1 marks1 t d value
    readied_along t d value n is =
        let mark = kept.marked d n in
        let same = memory_same memories memories1 d t (kept.same d) in
        record {
          marked = (λ p. same ∙ is.marked.0 (sym mark ∙ p), λ p. mark ∙ is.marked.1 (sym same ∙ p));
          is_ready = λ a. ready_along memories memories1 d t _ _ (kept.lists d n) (kept.places d n) (is.is_ready (sym mark ∙ a));
          is_value = λ a. value_along memories memories1 d t _ _ (kept.lists d n) (kept.places d n) ∙ is.is_value (sym mark ∙ a);
        }

    -- and what is found
    pub found_along : {State : Type 0} (C : Codec State Memory) (rows : List (List (List ℕ))) (draft draft1 : List Held) (t d : ℕ) (x : State) → (d ≡ c → ⊥) → found draft1 d ≡ found draft d → IsFound C rows draft memories ready marks t d x → IsFound C rows draft1 memories1 ready1 marks1 t d x
    found_along C rows draft draft1 t d x n e is = record {
      told = is.told;
      words = drafted_along rows draft draft1 t d (C.words x) e is.words;
      memory = readied_along t d (C.memory x) n is.memory;
    }

    -- one component more
    pub found_next : (count : ℕ) (draft draft1 : List Held) → IsFoundTo count draft memories ready marks c → end_of draft1 ≤ c + 1 → AreEach count memories1 ready1 marks1 → IsFoundTo count draft1 memories1 ready1 marks1 (c + 1)
    found_next count draft draft1 so_far drafted each = record {
      each = each;
      drafted = drafted;
      unmarked = λ d h. kept.marked d (λ e. absurd (omega (arith, h, e))) ∙ so_far.unmarked d (omega (arith, h));
    }

  -- nothing is found of a component, or nothing but its words
  pub found_to : (count : ℕ) (draft draft1 : List Held) (memories : List (Changes Memory)) (ready : List (Option (Change Memory))) (marks : List Bool) (n m : ℕ) → IsFoundTo count draft memories ready marks n → n ≤ m → end_of draft1 ≤ m → IsFoundTo count draft1 memories ready marks m
  found_to count draft draft1 memories ready marks n m so_far more drafted = record {
    each = so_far.each;
    drafted = drafted;
    unmarked = λ d h. so_far.unmarked d (omega (arith, h, more));
  }
