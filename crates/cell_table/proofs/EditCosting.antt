-- What an edit of a settled table costs.
use Rattle.std.proofs.Common.{◌≡◌, ◌↔◌, ℕ, ◌-◌, ◌<◌, ◌≤◌, ◌∙◌, sym, ap, refl, arith, Bool, true, false, cond, not, ltb, ◌||◌, ◌&&◌, eqb, ◌⊎◌, inl, inr, Option, None, Some, Result, Ok, Err, OnOk, List, [], ◌∷◌, map}
use Rattle.std.specs.List.{AllByRecursion}
use Rattle.std.proofs.lemmas.Bool.{true≢false, cases_lt, or_cases, ltb-true, lt-ltb, le-ltb, eqb-false}
use Rattle.std.proofs.lemmas.List.Elements.{recursion_from_All}
use Rattle.grid_law.specs.Rules.{Rules, Laws, Differ}
use Rattle.due_cells.specs.Seen.{Seen}
use Rattle.cell_table.specs.Cells.{IsThere}
use Rattle.cell_states.specs.Near.{has}
use Rattle.cell_table.specs.Reads.{reads_any}
use Rattle.cell_table.specs.Touches.{IsAfterTouch}
use Rattle.cell_table.specs.Events.{Event, Edits, Start, slots_of, horizon_of}
use Rattle.cell_table.specs.Values.{val, vals, near_vals}
use Rattle.cell_table.specs.Due.{due}
use Rattle.cell_table.specs.Stands.{Stands}
use Rattle.grid_law.specs.Run.{run, run_inputs}
use Rattle.cell_table.specs.Settling.{IsSettled}
use Rattle.cell_table.specs.Cost.{Costs, CostsAnEdit}
use Rattle.cell_states.proofs.Cases.{has_item, or_left, or_right}

vals_known : {State : Type 0} (f : ℕ → Option State) (g : ℕ → State) (ms : List ℕ) → AllByRecursion (λ m. f m ≡ Some (g m)) ms → vals f ms ≡ Some (map g ms)
vals_known f g [] p = refl
vals_known f g (m ∷ ms) p = rw (p.0, vals_known f g ms p.1) refl

each_near : {P Q : ℕ → Type 0} (ms : List ℕ) → ((m : ℕ) → P m → Q m) → AllByRecursion P ms → AllByRecursion Q ms
each_near [] f p = tt
each_near (m ∷ ms) f p = (f m p.0, each_near ms f p.1)

some_list : {X : Type 0} (t : ℕ) (a : Option (List X)) (b : List X) → ((t ≡ 0 → ⊥) → a ≡ Some b) → cond (eqb t 0) (Some []) a ≡ Some (cond (eqb t 0) [] b)
some_list {X} t a b f = by_test (eqb t 0) refl
  where
    by_test : (v : Bool) → eqb t 0 ≡ v → cond v (Some []) a ≡ Some (cond v [] b)
    by_test true e = refl
    by_test false e = f (eqb-false t 0 e)

some_apart : {X : Type 0} (x y : X) → Some x ≡ Some y → x ≡ y
some_apart x y e = cc

module _ {State Slots Slot : Type 0} (R : Rules State Slots Slot) (laws : Laws R) (o : Start Slots) (v : Seen State Slots) (h : List (Event State Slots Slot)) (stands : Stands R o v h) (settled : IsSettled R v) (next : Slots) (listed : List Slot) (to : ℕ) (differ : Differ R v.slots next listed) (t c : ℕ) (inside : c < R.components v.slots) where
  -- the values are those of the run
  val_run : (t1 m : ℕ) → t1 ≤ v.horizon → m < R.components v.slots → val R o h t1 m ≡ Some (run R v.slots t1 m)
  val_run t1 m k l =
      let there : IsThere R v t1 m = record { cycle = k; component = l } in
      sym (stands.cells t1 m there).state ∙ settled.runs t1 m there

  near_run : t ≤ v.horizon → near_vals R o h t c ≡ Some (run_inputs R v.slots t c)
  near_run k =
      some_list t (vals (val R o h (t - 1)) (R.near (slots_of o h) c)) (map (run R v.slots (t - 1)) (R.near v.slots c)) (λ n. ap (λ s. vals (val R o h (t - 1)) (R.near s c)) (sym stands.slots) ∙ vals_known (val R o h (t - 1)) (run R v.slots (t - 1)) (R.near v.slots c) (each_near (R.near v.slots c) (λ m l. val_run (t - 1) m (omega arith) l) (recursion_from_All _ (R.near v.slots c) (laws.near_within v.slots c inside))))

  reads_run : t ≤ v.horizon → reads_any R (slots_of o h) c listed (near_vals R o h t c) ≡ reads_any R v.slots c listed (Some (run_inputs R v.slots t c))
  reads_run k = ap (λ s. reads_any R s c listed (near_vals R o h t c)) (sym stands.slots) ∙ ap (reads_any R v.slots c listed) (near_run k)

  not_due : t ≤ v.horizon → due R o h t c ≡ false
  not_due k =
      let there : IsThere R v t c = record { cycle = k; component = inside } in
      sym (stands.cells t c there).is_due ∙ settled.none_due t c there

  -- the values after the edit, of cells that were there
  val_edited : (t1 m : ℕ) → t1 ≤ v.horizon → m < R.components v.slots → val R o (Edits next listed to ∷ h) t1 m ≡ Some (run R v.slots t1 m)
  val_edited t1 m k l = ap (λ b. cond b None (val R o h t1 m)) (le-ltb (horizon_of o h) t1 (omega (arith, stands.horizon))) ∙ val_run t1 m k l

  near_inside : (m : ℕ) → has (R.near v.slots c) m ≡ true → m < R.components v.slots
  near_inside m e = has_item (λ k. k < R.components v.slots) (R.near v.slots c) m (recursion_from_All _ (R.near v.slots c) (laws.near_within v.slots c inside)) e

  same_near : R.near v.slots c ≡ R.near next c
  same_near = laws.shape_near v.slots next c differ.shape

  pub costs_edit : Costs R o (Edits next listed to ∷ h) t c → CostsAnEdit R v.slots next listed v.horizon t c
  costs_edit costs = by_cycle (cases_lt v.horizon t) costs
    where
      by_change : t ≤ v.horizon → ((ltb (horizon_of o h) t || reads_any R (slots_of o h) c listed (near_vals R o h t c)) ≡ true) ⊎ ((not false && due R o h t c) ≡ true) → CostsAnEdit R v.slots next listed v.horizon t c
      by_change k (inr e) = absurd (true≢false (sym e ∙ not_due k))
      by_change k (inl e) = by_read (or_cases (ltb (horizon_of o h) t) (reads_any R (slots_of o h) c listed (near_vals R o h t c)) e)
        where
          by_read : (ltb (horizon_of o h) t ≡ true) ⊎ (reads_any R (slots_of o h) c listed (near_vals R o h t c) ≡ true) → CostsAnEdit R v.slots next listed v.horizon t c
          by_read (inl f) = absurd (omega (arith, ltb-true (horizon_of o h) t f, stands.horizon))
          by_read (inr f) = inr (inl (sym (reads_run k) ∙ f))

      by_cycle : (v.horizon < t) ⊎ (t ≤ v.horizon) → Costs R o (Edits next listed to ∷ h) t c → CostsAnEdit R v.slots next listed v.horizon t c
      by_cycle (inl k) e = inl k
      by_cycle (inr k) (inl e) = by_change k (or_cases _ _ e)
      by_cycle (inr k) (inr s) =
          let near : has (R.near v.slots c) s.component ≡ true = ap (λ ms. has ms s.component) same_near ∙ s.is_near in
          inr (inr (record {
            earlier = s.earlier;
            one_before = s.one_before;
            component = s.component;
            is_near = near;
            differs = λ e. s.stale (val_edited s.earlier s.component (omega (arith, s.one_before)) (near_inside s.component near) ∙ ap Some e);
          }))

  pub edit_costs : CostsAnEdit R v.slots next listed v.horizon t c → Costs R o (Edits next listed to ∷ h) t c
  edit_costs costs = by_cycle (cases_lt v.horizon t) costs
    where
      made_due : (ltb (horizon_of o h) t || reads_any R (slots_of o h) c listed (near_vals R o h t c)) ≡ true → due R o (Edits next listed to ∷ h) t c ≡ true
      made_due e = or_left (ltb (horizon_of o h) t || reads_any R (slots_of o h) c listed (near_vals R o h t c)) (not false && due R o h t c) e

      by_cycle : (v.horizon < t) ⊎ (t ≤ v.horizon) → CostsAnEdit R v.slots next listed v.horizon t c → Costs R o (Edits next listed to ∷ h) t c
      by_cycle (inl k) e = inl (made_due (or_left (ltb (horizon_of o h) t) _ (lt-ltb (horizon_of o h) t (omega (arith, stands.horizon)))))
      by_cycle (inr k) (inl e) = absurd (omega arith)
      by_cycle (inr k) (inr (inl e)) = inl (made_due (or_right (ltb (horizon_of o h) t) _ (reads_run k ∙ e)))
      by_cycle (inr k) (inr (inr s)) = inr (record {
        earlier = s.earlier;
        one_before = s.one_before;
        component = s.component;
        is_near = ap (λ ms. has ms s.component) (sym same_near) ∙ s.is_near;
        stale = λ e. s.differs (some_apart _ _ (sym (val_edited s.earlier s.component (omega (arith, s.one_before)) (near_inside s.component s.is_near)) ∙ e));
      })

module _ {State Slots Slot : Type 0} (R : Rules State Slots Slot) (laws : Laws R) (old new : Seen State Slots) where
  pub touch_costs : {E : Type 0} (r : Result (Unit {0}) E) (next : Slots) (listed : List Slot) (to : ℕ) → Differ R old.slots next listed → OnOk r (IsAfterTouch R old new next listed to) → OnOk r ((o : Start Slots) (h : List (Event State Slots Slot)) → Stands R o old h → IsSettled R old → (t c : ℕ) → IsThere R new t c → Costs R o (Edits next listed to ∷ h) t c ↔ CostsAnEdit R old.slots next listed old.horizon t c)
  touch_costs (Err e) next listed to differ after = tt
  touch_costs (Ok u) next listed to differ after = λ o h stands settled t c there.
      let inside : c < R.components old.slots = omega (arith, there.component, laws.shape_components old.slots next differ.shape, ap R.components after.slots) in
      (costs_edit R laws o old h stands settled next listed to differ t c inside, edit_costs R laws o old h stands settled next listed to differ t c inside)
