-- The readers of a slot, listed over a range of components.
use Rattle.std.proofs.Common.{◌≡◌, ℕ, zero, suc, ◌<◌, ◌≤◌, ◌+◌, ◌-◌, Bool, true, false, List, [], ◌∷◌, ◌++◌, refl, ap, sym, ◌∙◌, arith, Option, Some}
use Rattle.std.proofs.lemmas.List.{append-nil, append_assoc}
use Rattle.std.proofs.lemmas.Bool.{ne_eqb}
use Rattle.std.specs.Prelude.{◌==◌, if◌then◌else◌}
use Rattle.std.specs.List.{flat_map, range_with_len}
use Rattle.grid_law.specs.declared.reader.Reader.{Reader}
use Rattle.machine_cells.specs.Reads.{reader_of, reader_if, readers, start_reads, later_may_read, is_listed}
use Rattle.omega_net.specs.Numbers.{components, component_of, number_of}
use Rattle.omega_net.proofs.Numbering.{Has, component_has}
use Rattle.omega_net.specs.declared.component.Net.TheVariants.{Low as LowNet, Comb as CombNet}
use Rattle.omega_net.specs.declared.component.Component.{Component}
use Rattle.omega_net.specs.declared.component.Component.TheVariants.{Proc as ProcAt, Module as ModuleAt, Switch}
use Rattle.project_book.specs.Project.{Project}
use Rattle.project_book.specs.declared.slot.Slot.TheVariants.{Entry, Depth, Wait, Combine}
use Rattle.project_book.specs.declared.edit.Depths.TheVariants.{LowForward, LowReverse, CombForward, CombReverse, ModuleQueue}

module _ {X : Type 0} (f : ℕ → List X) where
  -- a range in two parts
  pub listed_apart : (a n m : ℕ) → flat_map f (range_with_len a (n + m)) ≡ flat_map f (range_with_len a n) ++ flat_map f (range_with_len (a + n) m)
  listed_apart a zero m =
      let none : 0 + m ≡ m = omega arith in
      let at : a ≡ a + 0 = omega arith in
      ap (λ n. flat_map f (range_with_len a n)) none ∙ ap (λ c. flat_map f (range_with_len c m)) at
  listed_apart a (suc n) m =
      let size : suc n + m ≡ suc (n + m) = omega arith in
      let at : a + 1 + n ≡ a + suc n = omega arith in
      ap (λ k. flat_map f (range_with_len a k)) size
      ∙ ap (λ xs. f a ++ xs) (listed_apart (a + 1) n m ∙ ap (λ c. flat_map f (range_with_len (a + 1) n) ++ flat_map f (range_with_len c m)) at)
      ∙ sym (append_assoc (f a) (flat_map f (range_with_len (a + 1) n)) (flat_map f (range_with_len (a + suc n) m)))

  -- and with one more
  pub listed_more : (a c : ℕ) → a ≤ c → flat_map f (range_with_len a (c + 1 - a)) ≡ flat_map f (range_with_len a (c - a)) ++ f c
  listed_more a c h =
      let size : c + 1 - a ≡ (c - a) + 1 = omega (arith, h) in
      let at : a + (c - a) ≡ c = omega (arith, h) in
      ap (λ n. flat_map f (range_with_len a n)) size ∙ listed_apart a (c - a) 1 ∙ ap (λ xs. flat_map f (range_with_len a (c - a)) ++ xs) (append-nil (f (a + (c - a))) ∙ ap f at)

  -- a part in which nothing is listed
  pub none_listed : (a n : ℕ) → ((c : ℕ) → a ≤ c → c < a + n → f c ≡ []) → flat_map f (range_with_len a n) ≡ []
  none_listed a zero h = refl
  none_listed a (suc n) h = ap (λ xs. xs ++ flat_map f (range_with_len (a + 1) n)) (h a (omega arith) (omega arith)) ∙ none_listed (a + 1) n (λ c l r. h c (omega (arith, l)) (omega (arith, r)))

  pub listed_once : (c n : ℕ) → c < n → ((d : ℕ) → d < n → (d ≡ c → ⊥) → f d ≡ []) → flat_map f (range_with_len 0 n) ≡ flat_map f (range_with_len c 1)
  listed_once c n h none =
      let size : n ≡ c + (1 + (n - c - 1)) = omega (arith, h) in
      let zero_more : 0 + c ≡ c = omega arith in
      ap (λ m. flat_map f (range_with_len 0 m)) size
      ∙ listed_apart 0 c (1 + (n - c - 1))
      ∙ ap (λ a. flat_map f (range_with_len 0 c) ++ flat_map f (range_with_len a (1 + (n - c - 1)))) zero_more
      ∙ ap (λ xs. xs ++ flat_map f (range_with_len c (1 + (n - c - 1)))) (none_listed 0 c (λ d l r. none d (omega (arith, r, h)) (λ e. omega (arith, e, r))))
      ∙ listed_apart c 1 (n - c - 1)
      ∙ ap (λ xs. flat_map f (range_with_len c 1) ++ xs) (none_listed (c + 1) (n - c - 1) (λ d l r. none d (omega (arith, r, h)) (λ e. omega (arith, e, l))))
      ∙ append-nil (flat_map f (range_with_len c 1))

-- an entry may be read by its processor alone
abbrev of_entry : ℕ → ℕ → ℕ → ℕ → Option Component → List Reader
of_entry k p i c o = reader_if (start_reads o (Entry p i)) c true ++ reader_if (later_may_read k o (Entry p i)) c false

by_none : (k p i c : ℕ) (x : Component) → number_of k x ≡ c → (c ≡ p → ⊥) → of_entry k p i c (Some x) ≡ []
by_none k p i c (ProcAt q) e n = ap (λ b. reader_if b c false) (ne_eqb p q (λ s. n (sym e ∙ sym s)))
by_none zero p i c (ModuleAt m) e n = refl
by_none (suc k) p i c (ModuleAt m) e n = refl
by_none k p i c (Switch LowNet stage j) e n = by_test (suc stage == k)
  where
    by_test : (b : Bool) → reader_if (is_listed (Depth LowForward ∷ Depth LowReverse ∷ (if b then Depth ModuleQueue ∷ [] else [])) (Entry p i)) c false ≡ []
    by_test true = refl
    by_test false = refl
by_none k p i c (Switch CombNet stage j) e n = by_test (suc stage == k)
  where
    by_test : (b : Bool) → reader_if (is_listed (Depth CombForward ∷ Depth CombReverse ∷ Wait ∷ Combine stage ∷ (if b then Depth ModuleQueue ∷ [] else [])) (Entry p i)) c false ≡ []
    by_test true = refl
    by_test false = refl

pub entry_alone : (P : Project) (p i : ℕ) → p < components P.k → readers P (Entry p i) ≡ flat_map (reader_of P (Entry p i)) (range_with_len p (p + 1 - p))
entry_alone P p i h =
    let one : 1 ≡ p + 1 - p = omega arith in
    listed_once (reader_of P (Entry p i)) p (components P.k) h none ∙ ap (λ n. flat_map (reader_of P (Entry p i)) (range_with_len p n)) one
  where
    none : (c : ℕ) → c < components P.k → (c ≡ p → ⊥) → reader_of P (Entry p i) c ≡ []
    none c l n = by_component (component_has P.k c l).0 (component_has P.k c l).1
      where
        by_component : (x : Component) → Has P.k c (component_of P.k c) x → reader_of P (Entry p i) c ≡ []
        by_component x has = ap (of_entry P.k p i c) has.is ∙ by_none P.k p i c x has.number n
