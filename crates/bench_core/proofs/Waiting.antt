-- The due cells that a query waits for, by the events; where no cell is due, there are none.
use Rattle.std.proofs.Common.{◌≡◌, ℕ, zero, suc, ◌<◌, ◌≤◌, ◌∙◌, inl, inr, sym, ap, subst, refl, arith, Bool, true, false, ◌&&◌, ◌⊎◌, nat_le, List, Result, Ok, Err}
use Rattle.std.specs.Prelude.{OnOk, min}
use Rattle.std.proofs.Math.Nat.{min-eq_left}
use Rattle.std.proofs.lemmas.Bool.{cases_lt}
use Rattle.std.proofs.lemmas.Bool.Decides.{nat_tests}
use Rattle.omega_net.specs.Numbers.{components}
use Rattle.due_cells.specs.Cones.{count_below, count_to, count_cone}
use Rattle.due_cells.specs.Seen.{due_at}
use Rattle.cell_table.specs.Due.{due}
use Rattle.cell_table.specs.Settling.{IsSettled, IsSettledTo}
use Rattle.cell_table.proofs.ConeRuns.{none_counted}
use Rattle.cell_table.proofs.Counted.{count_to_same, count_cone_same, count_to_none, count_cone_none, count_to_last, count_cone_last, marks_stand}
use Rattle.machine_cells.specs.GridRules.{rp3_rules}
use Rattle.project_book.specs.Project.{Project}
use Rattle.run_queries.specs.declared.query.Query.{Query}
use Rattle.run_queries.specs.declared.query.Reach.{Reach}
use Rattle.run_queries.specs.declared.query.Reach.TheVariants.{Nothing, State, Word, To}
use Rattle.run_queries.specs.Queries.{last_of, reach}
use Rattle.bench_core.specs.declared.asked.Asked.{Asked}
use Rattle.bench_core.specs.Shown.{Shown, IsBench, project_of}
use Rattle.bench_core.specs.Asks.{module_of, waits_for, waits, last_cycle, IsUpTo, pending, asked, asked_at, IsOrWants, AsksAs}
use Rattle.bench_core.specs.Events.{Event, Opening, version_after, project_after, on_table, table_start}
use Rattle.bench_core.specs.Stands.{Stands}
use Rattle.bench_core.specs.Answers.{pending_after, AsksRun}
use Rattle.bench_core.proofs.Standing.{project_is, horizon_now, version_is}

-- tests that are the same for each cell that is there
module _ (P : Project) (f g : ℕ → ℕ → Bool) (same : (t c : ℕ) → t ≤ P.horizon → c < components P.k → f t c ≡ g t c) where
  same_for : (r : Reach) → waits_for P f r ≡ waits_for P g r
  same_for Nothing = refl
  same_for (State c t) = count_cone_same rp3_rules P P.horizon f g same t c
  same_for (Word a t) = count_cone_same rp3_rules P P.horizon f g same t (module_of P a)
  same_for (To t) = count_to_same rp3_rules P P.horizon f g same t

  waits_same : (q : Query) → waits P f q ≡ waits P g q
  waits_same q = same_for (reach P q)

module _ (P : Project) (f : ℕ → ℕ → Bool) (none : (t c : ℕ) → t ≤ P.horizon → c < components P.k → f t c ≡ false) where
  none_for : (r : Reach) → waits_for P f r ≡ 0
  none_for Nothing = refl
  none_for (State c t) = count_cone_none rp3_rules P P.horizon f none t c
  none_for (Word a t) = count_cone_none rp3_rules P P.horizon f none t (module_of P a)
  none_for (To t) = count_to_none rp3_rules P P.horizon f none t

  waits_none : (q : Query) → waits P f q ≡ 0
  waits_none q = none_for (reach P q)

-- what is due behind the last cycle counts for nothing
module _ (P : Project) (f g : ℕ → ℕ → Bool) (last : ℕ) (same : (t c : ℕ) → t ≤ last → f t c ≡ g t c) where
  last_for : (r : Reach) → IsUpTo (last_of r) last → waits_for P f r ≡ waits_for P g r
  last_for Nothing up_to = refl
  last_for (State c t) up_to = count_cone_last rp3_rules P P.horizon last f g same t c up_to
  last_for (Word a t) up_to = count_cone_last rp3_rules P P.horizon last f g same t (module_of P a) up_to
  last_for (To t) up_to = count_to_last rp3_rules P P.horizon last f g same t up_to

pub waits_to : (P : Project) (q : Query) (f g : ℕ → ℕ → Bool) (last : ℕ) → IsUpTo (last_cycle P q) last → ((t c : ℕ) → t ≤ last → f t c ≡ g t c) → waits P f q ≡ waits P g q
waits_to P q f g last up_to same = last_for P f g last same (reach P q) up_to

-- the marks up to a cycle
abbrev due_within : ℕ → (ℕ → ℕ → Bool) → ℕ → ℕ → Bool
due_within last f t c = nat_le t last && f t c

same_within : (last : ℕ) (f : ℕ → ℕ → Bool) (t c : ℕ) → t ≤ last → f t c ≡ due_within last f t c
same_within last f t c h = grind (arith, nat_tests)

none_within : (last : ℕ) (f : ℕ → ℕ → Bool) (t c : ℕ) → (t ≤ last → f t c ≡ false) → due_within last f t c ≡ false
none_within last f t c none = by_cycle (cases_lt last t)
  where
    by_cycle : (last < t) ⊎ (t ≤ last) → due_within last f t c ≡ false
    by_cycle (inl h) = grind (arith, nat_tests)
    by_cycle (inr h) = ap (λ b. nat_le t last && b) (none h) ∙ and_never (nat_le t last)
      where
        and_never : (b : Bool) → (b && false) ≡ false
        and_never true = refl
        and_never false = refl

-- where no cell of the run is counted as due, none is
none_below : (P : Project) (f : ℕ → ℕ → Bool) (t : ℕ) → count_below rp3_rules P f t ≡ 0 → (u c : ℕ) → u ≤ t → c < components P.k → f u c ≡ false
none_below P f zero none u c le lt =
    let first : u ≡ 0 = omega arith in
    subst (λ n. f n c ≡ false) (sym first) (none_counted (f 0) 0 (components P.k) c none (omega arith) (omega arith))
none_below P f (suc t) none u c le lt = elim (cases_lt t u) [
  | inl last ↦ let same : u ≡ suc t = omega arith in subst (λ n. f n c ≡ false) (sym same) (none_counted (f (suc t)) 0 (components P.k) c (omega (arith, none)) (omega arith) (omega arith))
  | inr before ↦ none_below P f t (omega (arith, none)) u c before lt
]

pub none_in_cone : (b : Shown) (n t c : ℕ) → n ≡ count_to rp3_rules (project_of b) (project_of b).horizon (due_at b.table.rows) (project_of b).horizon → n ≡ 0
    → 0 ≡ count_cone rp3_rules (project_of b) (project_of b).horizon (due_at b.table.rows) t c
none_in_cone b n t c counted none =
    let P = project_of b in
    let whole : min P.horizon P.horizon ≡ P.horizon = min-eq_left (omega arith) in
    let below = none_below P (due_at b.table.rows) P.horizon (ap (count_below rp3_rules P (due_at b.table.rows)) (sym whole) ∙ sym counted ∙ none) in
    sym (count_cone_none rp3_rules P P.horizon (due_at b.table.rows) below t c)

-- after a settling that ended well no query waits
pub ready : {T E : Type 0} (r : Result T E) (b : Shown) → IsBench b.table b.journal → OnOk r (IsSettled rp3_rules b.table) → OnOk r ((q : Query) → pending b q ≡ 0)
ready (Ok x) b bench settled = waits_none (project_of b) (due_at b.table.rows) (λ t c le lt. settled.none_due t c (record { cycle = omega (arith, bench.horizon); component = lt }))
ready (Err e) b bench settled = tt

-- after one up to a cycle, none waits that looks at nothing behind it
pub ready_to : {T E : Type 0} (r : Result T E) (last : ℕ) (b : Shown) → IsBench b.table b.journal → OnOk r (IsSettledTo rp3_rules last b.table) → OnOk r ((q : Query) → IsUpTo (last_cycle (project_of b) q) last → pending b q ≡ 0)
ready_to (Ok x) last b bench settled =
    λ q up_to.
    let P = project_of b in
    let marks = due_at b.table.rows in
    waits_to P q marks (due_within last marks) last up_to (same_within last marks)
    ∙ waits_none P (due_within last marks) (λ t c le lt. none_within last marks t c (λ h. settled.none_due t c (record { cycle = omega (arith, bench.horizon); component = lt }) h)) q
ready_to (Err e) last b bench settled = tt

module _ (o : Opening) (b : Shown) (h : List Event) (stands : Stands o b h) where
  pending_is : (q : Query) → pending b q ≡ pending_after o h q
  pending_is q =
      let project = project_is o b h stands in
      waits_same (project_of b) (due_at b.table.rows) (due rp3_rules (table_start o) (on_table o h)) (λ t c le lt. marks_stand rp3_rules b.table (table_start o) (on_table o h) stands.table t c (omega (arith, horizon_now o b h stands)) lt) q
      ∙ ap (λ P. waits P (due rp3_rules (table_start o) (on_table o h)) q) project

  asked_is : (q : Query) → asked b q ≡ asked_at (project_after o h) (version_after h) (pending_after o h q) q
  asked_is q = λ i. asked_at (project_is o b h stands i) (version_is o b h stands i) (pending_is q i) q

-- what a query is answered, by the events
pub asks_run : (b : Shown) (q : Query) (result : Asked) → AsksAs b q result → (o : Opening) (h : List Event) → Stands o b h → AsksRun o h q result
asks_run b q result asks o h stands = subst (λ says. IsOrWants says result) (asked_is o b h stands q) asks
