-- Lots: what one claim tells of a cycle's cells, and loops over claims and results.
use Rattle.std.proofs.Common.{◌≡◌, inl, inr, ℕ, zero, suc, ◌+◌, ◌-◌, ◌<◌, ◌≤◌, Bool, true, false, List, [], ◌∷◌, ◌++◌, length, All, refl, sym, ap, ◌∙◌, subst, arith, append-nil, append_assoc, Option, None, Some, Result, Ok, Err}
use Rattle.std.specs.Prelude.{IfOk, IfSome, MatchOption}
use Rattle.std.proofs.lemmas.List.Elements.{All-nil, All-cons, All-push}
use Rattle.grid_law.specs.declared.no_memory.NoMemory.{NoMemory}
use Rattle.cell_states.specs.declared.cell.Cell.{Cell}
use Rattle.cell_table.specs.declared.given.Given.{Given}
use Rattle.due_cells.specs.Seen.{held_at}
use Rattle.cell_table.specs.Claims.{Claimed, Computed, is_claimable, NoneDue, IsNextRound, IsClaim}
use Rattle.cell_table.specs.Settling.{NoneDueFrom, IsNextDue}
use Rattle.machine_cells.specs.declared.state.MachineState.{MachineState}
use Rattle.machine_cells.specs.GridRules.{rp3_rules}
use Rattle.project_book.specs.Project.{Project}
use Rattle.bench_core.specs.Shown.{Shown, project_of}
use Rattle.shared_bench.specs.Known.{Known}
use Rattle.shared_bench.specs.Answers.{HasSeen, project_seen, IsGivenSpent}
use Rattle.shared_bench.specs.Lots.{NoneInRow, IsClaimInRow, GoesOn, ClaimsLot, GivesOne, GivesLot}

-- ---- one claim

not_due : (d : Shown) (t c : ℕ) → (held_at d.table.rows t c).is_due ≡ false → is_claimable rp3_rules d.table t c ≡ false
not_due d t c h = rw h refl

pub none_due_in_row : (d : Shown) (t c : ℕ) → NoneDueFrom rp3_rules d.table t c → NoneInRow d t c
none_due_in_row d t c none c1 there after = not_due d t c1 (none t c1 there (omega arith, λ _. after))

pub due_elsewhere : (d : Shown) (t c : ℕ) (cell : Cell) → IsNextDue rp3_rules d.table t c cell → (cell.cycle ≡ t → ⊥) → NoneInRow d t c
due_elsewhere d t c cell next not c1 there after = not_due d t c1 (next.none_between t c1 there (omega arith, λ _. after) (next.after.0, λ e. absurd (not (sym e))))

pub none_due_at_all : (d : Shown) (t c : ℕ) → NoneDue rp3_rules d.table → NoneInRow d t c
none_due_at_all d t c none c1 there after = not_due d t c1 (none t c1 there)

-- the claim is of the cycle
pub in_row : (d : Shown) (t c : ℕ) (claim : Claimed MachineState Project) → IsNextRound rp3_rules d.table t c claim.cell → IsClaim rp3_rules d.table claim
    → claim.cell.cycle ≡ t → c ≤ claim.cell.component → IsClaimInRow d t c claim
in_row d t c claim (inl next) holds same after = (
  same,
  record {
    there = next.there.component;
    claimable = subst (λ (u : ℕ). is_claimable rp3_rules d.table u claim.cell.component ≡ true) same next.claimable;
    after = after;
    none_between = λ k le lt.
        let there = next.there in
        let cycle = there.cycle in
        let component = there.component in
        next.none_between t k (record { cycle = omega arith; component = omega arith }) (omega arith, λ _. le) (omega arith, λ _. lt);
  },
  holds,
)
in_row d t c claim (inr (none, next)) holds same after = absurd (
    let no : false ≡ true = sym (none claim.cell.cycle claim.cell.component next.there (omega arith, λ _. after)) ∙ next.claimable in
    cc)

-- the claim is of no cell of the cycle
pub out_of_row : (d : Shown) (t c : ℕ) (cell : Cell) → IsNextRound rp3_rules d.table t c cell → ((cell.cycle ≡ t) × (c ≤ cell.component) → ⊥) → NoneInRow d t c
out_of_row d t c cell (inl next) not c1 there after = next.none_between t c1 there (omega arith, λ _. after) (next.after.0, λ e. absurd (not (sym e, next.after.1 e)))
out_of_row d t c cell (inr (none, next)) not c1 there after = none t c1 there (omega arith, λ _. after)

pub of_some : (P : Claimed MachineState Project → Type 0) (o : Option (Claimed MachineState Project)) (claim : Claimed MachineState Project) → o ≡ Some claim → IfSome o P → P claim
of_some P o claim is h = subst (λ (q : Option (Claimed MachineState Project)). IfSome q P) is h

pub none_of : (A : Type 0) (P : Claimed MachineState Project → Type 0) (o : Option (Claimed MachineState Project)) → o ≡ None → MatchOption o A P → A
none_of A P o is h = subst (λ (q : Option (Claimed MachineState Project)). MatchOption q A P) is h

-- the same of a claim whose cell was looked at
module _ (d : Shown) (t c : ℕ) (claim : Claimed MachineState Project) (cell : Cell) (is : cell ≡ claim.cell) (next : IsNextRound rp3_rules d.table t c claim.cell) where
  pub is_in_row : IsClaim rp3_rules d.table claim → (cell.cycle ≡ t) × (c ≤ cell.component) → IsClaimInRow d t c claim
  is_in_row holds behind =
      let now = subst (λ (x : Cell). (x.cycle ≡ t) × (c ≤ x.component)) is behind in
      in_row d t c claim next holds now.0 now.1

  pub is_out_of_row : (test : Bool) → test ≡ false → ((cell.cycle ≡ t) × (c ≤ cell.component) → test ≡ true) → NoneInRow d t c
  is_out_of_row test isnt behind = out_of_row d t c claim.cell next (λ h. absurd (
      let yes : false ≡ true = sym isnt ∙ behind (subst (λ (x : Cell). (x.cycle ≡ t) × (c ≤ x.component)) (sym is) h) in
      cc))

pub round_there : (d : Shown) (t c : ℕ) (cell : Cell) → IsNextRound rp3_rules d.table t c cell → cell.component < rp3_rules.components d.table.slots
round_there d t c cell (inl next) = next.there.component
round_there d t c cell (inr (none, next)) = next.there.component

-- ---- claims, one after another

-- what goes on from the second place goes on, behind these claims, from the first
abbrev pub LeadsOn : Shown → ℕ → ℕ → ℕ → List (Claimed MachineState Project) → ℕ → ℕ → Type 0
LeadsOn d t c n claims c1 n1 = (rest : List (Claimed MachineState Project)) → GoesOn d t c1 n1 rest → GoesOn d t c n (claims ++ rest)

module _ (d : Shown) (t c n : ℕ) (claims : List (Claimed MachineState Project)) (c1 : ℕ) where
  step_on : (m : ℕ) (claim : Claimed MachineState Project) → LeadsOn d t c n claims c1 (suc m) → IsClaimInRow d t c1 claim
      → LeadsOn d t c n (claims ++ claim ∷ []) (claim.cell.component + 1) m
  step_on m claim leads is rest g = subst (GoesOn d t c n) (sym (append_assoc claims (claim ∷ []) rest)) (leads (claim ∷ rest) (is, g))

  pub claimed_on : (i : ℕ) (claim : Claimed MachineState Project) → i < n → LeadsOn d t c n claims c1 (n - i) → IsClaimInRow d t c1 claim
      → LeadsOn d t c n (claims ++ claim ∷ []) (claim.cell.component + 1) (n - (i + 1))
  claimed_on i claim more leads is =
      let e : n - i ≡ suc (n - (i + 1)) = omega arith in
      step_on (n - (i + 1)) claim (subst (LeadsOn d t c n claims c1) e leads) is

  ends_on : (m : ℕ) → LeadsOn d t c n claims c1 m → NoneInRow d t c1 → GoesOn d t c n claims
  ends_on zero leads none = subst (GoesOn d t c n) (append-nil claims) (leads [] tt)
  ends_on (suc m) leads none = subst (GoesOn d t c n) (append-nil claims) (leads [] none)

  pub none_further : (i : ℕ) → LeadsOn d t c n claims c1 (n - i) → NoneInRow d t c1 → GoesOn d t c n claims
  none_further i leads none = ends_on (n - i) leads none

  all_on : (m : ℕ) → m ≡ 0 → LeadsOn d t c n claims c1 m → GoesOn d t c n claims
  all_on m e leads = subst (GoesOn d t c n) (append-nil claims) (subst (LeadsOn d t c n claims c1) e leads [] tt)

  pub all_claimed : LeadsOn d t c n claims c1 (n - n) → GoesOn d t c n claims
  all_claimed leads = all_on (n - n) (omega arith) leads

-- after i looks the list has these claims more, and the cycle's component c1 comes next
pub record ClaimsOn (d : Shown) (t c n i : ℕ) (old now : List (Claimed MachineState Project)) (c1 : ℕ) : Type 0 where
  pub more : List (Claimed MachineState Project)
  pub items : now ≡ old ++ more
  pub leads : LeadsOn d t c n more c1 (n - i)

-- the list has claims more that go on
abbrev pub HasGoneOn : Shown → ℕ → ℕ → ℕ → List (Claimed MachineState Project) → List (Claimed MachineState Project) → Type 0
HasGoneOn d t c n old now = (more : List (Claimed MachineState Project)) × (now ≡ old ++ more) × GoesOn d t c n more

module _ (d : Shown) (t c n : ℕ) (old : List (Claimed MachineState Project)) where
  pub claims_begin : ClaimsOn d t c n 0 old old c
  claims_begin =
      let all : n - 0 ≡ n = omega arith in
      record { more = []; items = sym (append-nil old); leads = λ rest g. subst (λ (m : ℕ). GoesOn d t c m rest) all g }

  pub claims_go : (i c1 : ℕ) (now : List (Claimed MachineState Project)) (claim : Claimed MachineState Project) → ClaimsOn d t c n i old now c1 → i < n → IsClaimInRow d t c1 claim
      → ClaimsOn d t c n (i + 1) old (now ++ claim ∷ []) (claim.cell.component + 1)
  claims_go i c1 now claim on more is = record {
    more = on.more ++ claim ∷ [];
    items = ap (λ (l : List (Claimed MachineState Project)). l ++ claim ∷ []) on.items ∙ append_assoc old on.more (claim ∷ []);
    leads = claimed_on d t c n on.more c1 i claim more on.leads is;
  }

  pub claims_end : (i c1 : ℕ) (now : List (Claimed MachineState Project)) → ClaimsOn d t c n i old now c1 → NoneInRow d t c1 → HasGoneOn d t c n old now
  claims_end i c1 now on none = (on.more, on.items, none_further d t c n on.more c1 i on.leads none)

  pub claims_full : (c1 : ℕ) (now : List (Claimed MachineState Project)) → ClaimsOn d t c n n old now c1 → HasGoneOn d t c n old now
  claims_full c1 now on = (on.more, on.items, all_claimed d t c n on.more c1 on.leads)

pub lot_none : (d : Shown) (from : Cell) (n : ℕ) → NoneDue rp3_rules d.table → ClaimsLot d from n []
lot_none d from zero none = tt
lot_none d from (suc n) none = none

pub lot_some : (d : Shown) (from : Cell) (n : ℕ) (claim : Claimed MachineState Project) (more : List (Claimed MachineState Project)) → 0 < n
    → IsNextRound rp3_rules d.table from.cycle from.component claim.cell → IsClaim rp3_rules d.table claim
    → GoesOn d claim.cell.cycle (claim.cell.component + 1) (n - 1) more → ClaimsLot d from n (claim ∷ more)
lot_some d from zero claim more some next holds goes = absurd (let no : 0 < 0 = some in omega arith)
lot_some d from (suc n) claim more some next holds goes =
    let less : suc n - 1 ≡ n = omega arith in
    (next, holds, subst (λ (m : ℕ). GoesOn d claim.cell.cycle (claim.cell.component + 1) m more) less goes)

-- one claim, and then those that go on from the place behind its cell
pub lot_made : (d : Shown) (from : Cell) (n : ℕ) (claim : Claimed MachineState Project) (t c : ℕ) (old items : List (Claimed MachineState Project)) → 0 < n
    → IsNextRound rp3_rules d.table from.cycle from.component claim.cell → IsClaim rp3_rules d.table claim → t ≡ claim.cell.cycle → c ≡ claim.cell.component + 1
    → old ≡ claim ∷ [] → HasGoneOn d t c (n - 1) old items → ClaimsLot d from n items
lot_made d from n claim t c old items some next holds same behind one gone =
    let more = gone.0 in
    let goes : GoesOn d claim.cell.cycle (claim.cell.component + 1) (n - 1) more = subst (λ (k : ℕ). GoesOn d claim.cell.cycle k (n - 1) more) behind (subst (λ (u : ℕ). GoesOn d u c (n - 1) more) same gone.2) in
    subst (ClaimsLot d from n) (sym (gone.1 ∙ ap (λ (l : List (Claimed MachineState Project)). l ++ more) one)) (lot_some d from n claim more some next holds goes)

-- ---- what a lot's claims hold

goes_slots : (d : Shown) (P : Project) (t c n : ℕ) (claims : List (Claimed MachineState Project)) → project_of d ≡ P → GoesOn d t c n claims → All (λ claim. claim.slots ≡ P) claims
goes_slots d P t c n [] is goes = All-nil (λ claim. claim.slots ≡ P)
goes_slots d P t c zero (claim ∷ claims) is goes = absurd goes
goes_slots d P t c (suc n) (claim ∷ claims) is goes = All-cons (λ x. x.slots ≡ P) claim claims (goes.0.2.slots ∙ is) (goes_slots d P t (claim.cell.component + 1) n claims is goes.1)

pub lot_slots : (d : Shown) (P : Project) (from : Cell) (n : ℕ) (claims : List (Claimed MachineState Project)) → project_of d ≡ P → ClaimsLot d from n claims → All (λ claim. claim.slots ≡ P) claims
lot_slots d P from n [] is lot = All-nil (λ claim. claim.slots ≡ P)
lot_slots d P from zero (claim ∷ claims) is lot = absurd lot
lot_slots d P from (suc n) (claim ∷ claims) is lot = All-cons (λ x. x.slots ≡ P) claim claims (lot.1.slots ∙ is) (goes_slots d P claim.cell.cycle (claim.cell.component + 1) n claims is lot.2)

-- ---- results, one after another

pub nothing_left : (left : List (Computed MachineState Project)) → length left ≡ 0 → left ≡ []
nothing_left [] h = refl
nothing_left (x ∷ xs) h = absurd (omega arith)

-- what becomes of the results that are left, from the bench d1 on, becomes of all, behind these answers, from d on
abbrev pub LeadsTo : Shown → List (Computed MachineState Project) → List (Given (Computed MachineState Project)) → Shown → List (Computed MachineState Project) → Type 0
LeadsTo d lot answers d1 left = (rest : List (Given (Computed MachineState Project))) (next : Shown) → GivesLot d1 left rest next → GivesLot d lot (answers ++ rest) next

module _ (d : Shown) (lot : List (Computed MachineState Project)) (answers : List (Given (Computed MachineState Project))) (d1 : Shown) where
  pub given_on : (done : Computed MachineState Project) (left : List (Computed MachineState Project)) (given : Given (Computed MachineState Project)) (d2 : Shown)
      → LeadsTo d lot answers d1 (done ∷ left) → GivesOne d1 done given d2 → LeadsTo d lot (answers ++ given ∷ []) d2 left
  given_on done left given d2 leads one rest next g =
      subst (λ (all : List (Given (Computed MachineState Project))). GivesLot d lot all next) (sym (append_assoc answers (given ∷ []) rest)) (leads (given ∷ rest) next (d2, one, g))

  pub given_begin : (left : List (Computed MachineState Project)) → answers ≡ [] → left ≡ lot → d1 ≡ d → LeadsTo d lot answers d1 left
  given_begin left none all same rest next g = rw (none, ← all, ← same) g

  pub all_given : LeadsTo d lot answers d1 [] → GivesLot d lot answers d1
  all_given leads = subst (λ (all : List (Given (Computed MachineState Project))). GivesLot d lot all d1) (append-nil answers) (leads [] d1 refl)

-- who knows that the clock is spent by one of these answers knows it still
pub spent_on : (answers : List (Given (Computed MachineState Project))) (given : Given (Computed MachineState Project)) (s s1 : Bool) → All (λ x. IsGivenSpent x → s ≡ true) answers
    → (s ≡ true → s1 ≡ true) → (IsGivenSpent given → s1 ≡ true) → All (λ x. IsGivenSpent x → s1 ≡ true) (answers ++ given ∷ [])
spent_on answers given s s1 all kept now = All-push (λ x. IsGivenSpent x → s1 ≡ true) answers given (λ k d there h. kept (all k d there h)) now

-- ---- in a turn

-- a lot's claims hold the project that the pass has then seen
pub lot_seen : (V : Type 0) (items : V → List (Claimed MachineState Project)) (p : Known) (d : Shown) (from : Cell) (n : ℕ) (r : Result V NoMemory) → HasSeen p d
    → IfOk r (λ v. ClaimsLot d from n (items v)) → IfOk r (λ v. All (λ claim. claim.slots ≡ project_seen p) (items v))
lot_seen V items p d from n (Ok v) seen lot = lot_slots d (project_seen p) from n (items v) seen.1 lot
lot_seen V items p d from n (Err e) seen lot = tt
