-- Claims, returned results and settling, in the words of the bench's events.
use Rattle.std.proofs.Common.{◌≡◌, ℕ, suc, ◌∙◌, sym, ap, subst, refl, Bool, Option, Some, List, [], ◌∷◌, ◌++◌, length, Result, Ok, Err}
use Rattle.std.specs.Prelude.{IfOk, IfErr, IfSome}
use Rattle.cell_table.specs.declared.given.Given.{Given}
use Rattle.cell_table.specs.declared.given.Given.TheVariants.{Stored as GivenStored}
use Rattle.cell_table.specs.declared.given.Settled.{Settled}
use Rattle.cell_table.specs.declared.given.SettleFault.{SettleFault}
use Rattle.cell_table.specs.Settling.{computed_of}
use Rattle.cell_table.specs.Claims.{Claimed as ClaimOf, Computed}
use Rattle.cell_table.specs.Made.{Made as MadeOnTable}
use Rattle.cell_table.specs.Answers.{after_give as after_give_on_table}
use Rattle.cell_table.specs.Gives.{GivesAs}
use Rattle.cell_table.specs.Events.{Event as TableEvent, Claims, Stores, Start}
use Rattle.due_cells.specs.Seen.{Seen}
use Rattle.cell_table.specs.Stands.{Stands as TableStands}
use Rattle.cell_table.specs.Cost.{IsInOrder, Settles as SettlesTable, SettlesTo as SettlesTableTo, SettlesFirst as SettlesTableFirst, SettlesFirstTo as SettlesTableFirstTo}
use Rattle.machine_cells.specs.declared.state.MachineState.{MachineState}
use Rattle.machine_cells.specs.GridRules.{rp3_rules}
use Rattle.project_book.specs.Project.{Project}
use Rattle.project_book.specs.declared.slot.Slot.{Slot}
use Rattle.bench_core.specs.Shown.{Shown}
use Rattle.bench_core.specs.Events.{Event, Edited, Claimed, Opening, journal_after, on_table, table_start}
use Rattle.bench_core.specs.Stands.{Stands, AreAccepted, HasHistory}
use Rattle.bench_core.specs.Answers.{Made, after_give, clock_given, after_stores, Settles, SettlesTo, SettlesFirst, SettlesFirstTo}

-- there is one event of the table for each of the bench
as_many : (o : Opening) (h : List Event) → length (on_table o h) ≡ length h
as_many o [] = refl
as_many o (Edited author e listed ∷ h) = ap suc (as_many o h)
as_many o (_ ∷ h) = ap suc (as_many o h)

-- a claim, as it comes from a call
pub claim_stands : (b : Shown) {E : Type 0} (r : Result (Option (ClaimOf MachineState Project)) E)
    → IfOk r (λ q. IfSome q (λ claim. (o : Start Project) (h : List (TableEvent MachineState Project Slot)) → TableStands rp3_rules o b.table h
    → TableStands rp3_rules o b.table (Claims claim.cell.cycle claim.cell.component ∷ h) × MadeOnTable rp3_rules o claim (Claims claim.cell.cycle claim.cell.component ∷ h) (length h)))
    → IfOk r (λ q. IfSome q (λ claim. (o : Opening) (h : List Event) → Stands o b h → Stands o b (Claimed claim.cell.cycle claim.cell.component ∷ h) × Made o claim (Claimed claim.cell.cycle claim.cell.component ∷ h) (length h)))
claim_stands b (Ok (Some claim)) made = λ o h stands.
    let on_table = made (table_start o) (on_table o h) stands.table in (
      record { accepted = stands.accepted; journal = stands.journal; table = on_table.0 },
      subst (λ n. Made o claim (Claimed claim.cell.cycle claim.cell.component ∷ h) n) (as_many o h) on_table.1,
    )
claim_stands b _ made = tt

-- a returned result
pub give_stands : (old new : Shown) (done : Computed MachineState Project) (given : Given (Computed MachineState Project)) → new.journal ≡ old.journal
    → ((o : Start Project) (h : List (TableEvent MachineState Project Slot)) → TableStands rp3_rules o old.table h → TableStands rp3_rules o new.table (after_give_on_table given done h))
    → (o : Opening) (h : List Event) → Stands o old h → Stands o new (after_give given done h)
give_stands old new done (GivenStored changed) same on o h stands = record { accepted = stands.accepted; journal = same ∙ stands.journal; table = on (table_start o) (on_table o h) stands.table }
give_stands old new done _ same on o h stands = record { accepted = stands.accepted; journal = same ∙ stands.journal; table = on (table_start o) (on_table o h) stands.table }

-- a result that wasn't stored changes nothing
pub not_stored : (old new : Seen MachineState Project) (done : Computed MachineState Project) (given : Given (Computed MachineState Project)) → GivesAs rp3_rules old done given new
    → ((changed : Bool) → given ≡ GivenStored changed → ⊥) → new ≡ old
not_stored old new done (GivenStored changed) g other = absurd (other changed refl)
not_stored old new done _ g other = cc

-- what became of the clock
pub clock_is_given : (old new : Seen MachineState Project) (done : Computed MachineState Project) (given : Given (Computed MachineState Project)) → GivesAs rp3_rules old done given new → new.clock ≡ clock_given given old.clock
clock_is_given old new done (GivenStored changed) g = g.2.clock
clock_is_given old new done _ g = cc

-- stores in a row
stores_stand : (o : Opening) (h : List Event) (done : List (TableEvent MachineState Project Slot)) → IsInOrder done → AreAccepted o h
    → (on_table o (after_stores done h) ≡ done ++ on_table o h) × (journal_after (after_stores done h) ≡ journal_after h) × AreAccepted o (after_stores done h)
stores_stand o h [] order accepted = (refl, refl, accepted)
stores_stand o h (Stores t c x changed ∷ done) order accepted = let rest = stores_stand o h done order.1 accepted in (ap (λ g. Stores t c x changed ∷ g) rest.0, rest.1, rest.2)
stores_stand o h (_ ∷ done) order accepted = absurd order

settled_stands : (old new : Shown) (o : Opening) (h : List Event) (done : List (TableEvent MachineState Project Slot)) (n : ℕ) → new.journal ≡ old.journal → Stands o old h
    → SettlesTableFirst rp3_rules (table_start o) (on_table o h) new.table done n → Stands o new (after_stores done h)
settled_stands old new o h done n same stands first =
    let after = stores_stand o h done first.in_order stands.accepted in
    record { accepted = after.2; journal = same ∙ stands.journal ∙ sym after.1; table = rw after.0 first.stands }

-- a settling, as it comes from a call
pub settle_all : (old new : Shown) → new.journal ≡ old.journal → {E : Type 0} (r : Result Settled E)
    → IfOk r (λ s. (done : List (TableEvent MachineState Project Slot)) × ((o : Start Project) (h : List (TableEvent MachineState Project Slot)) → TableStands rp3_rules o old.table h → SettlesTable rp3_rules o h new.table done s.computed))
    → IfOk r (λ s. (done : List (TableEvent MachineState Project Slot)) × ((o : Opening) (h : List Event) → Stands o old h → Settles o h new done s.computed))
settle_all old new same (Err fault) p = tt
settle_all old new same (Ok s) p = (
  p.0,
  λ o h stands.
      let all = p.1 (table_start o) (on_table o h) stands.table in
      record { stands = settled_stands old new o h p.0 s.computed same stands all.firsts; table = all },
)

pub settle_some : (old new : Shown) → new.journal ≡ old.journal → {T : Type 0} (r : Result T SettleFault)
    → IfErr r (λ f. (done : List (TableEvent MachineState Project Slot)) × ((o : Start Project) (h : List (TableEvent MachineState Project Slot)) → TableStands rp3_rules o old.table h → SettlesTableFirst rp3_rules o h new.table done (computed_of f)))
    → IfErr r (λ f. (done : List (TableEvent MachineState Project Slot)) × ((o : Opening) (h : List Event) → Stands o old h → SettlesFirst o h new done (computed_of f)))
settle_some old new same (Ok s) p = tt
settle_some old new same (Err f) p = (
  p.0,
  λ o h stands.
      let first = p.1 (table_start o) (on_table o h) stands.table in
      record { stands = settled_stands old new o h p.0 (computed_of f) same stands first; table = first },
)

-- a settling leaves some list of events behind the bench, whether it ended well or not
pub history_settled : (old new : Shown) (r : Result Settled SettleFault)
    → IfOk r (λ s. (done : List (TableEvent MachineState Project Slot)) × ((o : Opening) (h : List Event) → Stands o old h → Settles o h new done s.computed))
    → IfErr r (λ f. (done : List (TableEvent MachineState Project Slot)) × ((o : Opening) (h : List Event) → Stands o old h → SettlesFirst o h new done (computed_of f)))
    → HasHistory old → HasHistory new
history_settled old new (Ok s) all some h = (h.0, after_stores all.0 h.1, (all.1 h.0 h.1 h.2).stands)
history_settled old new (Err f) all some h = (h.0, after_stores some.0 h.1, (some.1 h.0 h.1 h.2).stands)

-- a settling up to a cycle, as it comes from a call
pub settle_all_to : (last : ℕ) (old new : Shown) → new.journal ≡ old.journal → {E : Type 0} (r : Result Settled E)
    → IfOk r (λ s. (done : List (TableEvent MachineState Project Slot)) × ((o : Start Project) (h : List (TableEvent MachineState Project Slot)) → TableStands rp3_rules o old.table h → SettlesTableTo rp3_rules o last h new.table done s.computed))
    → IfOk r (λ s. (done : List (TableEvent MachineState Project Slot)) × ((o : Opening) (h : List Event) → Stands o old h → SettlesTo last o h new done s.computed))
settle_all_to last old new same (Err fault) p = tt
settle_all_to last old new same (Ok s) p = (
  p.0,
  λ o h stands.
      let all = p.1 (table_start o) (on_table o h) stands.table in
      record { stands = settled_stands old new o h p.0 s.computed same stands all.firsts.firsts; table = all },
)

pub settle_some_to : (last : ℕ) (old new : Shown) → new.journal ≡ old.journal → {T : Type 0} (r : Result T SettleFault)
    → IfErr r (λ f. (done : List (TableEvent MachineState Project Slot)) × ((o : Start Project) (h : List (TableEvent MachineState Project Slot)) → TableStands rp3_rules o old.table h → SettlesTableFirstTo rp3_rules o last h new.table done (computed_of f)))
    → IfErr r (λ f. (done : List (TableEvent MachineState Project Slot)) × ((o : Opening) (h : List Event) → Stands o old h → SettlesFirstTo last o h new done (computed_of f)))
settle_some_to last old new same (Ok s) p = tt
settle_some_to last old new same (Err f) p = (
  p.0,
  λ o h stands.
      let first = p.1 (table_start o) (on_table o h) stands.table in
      record { stands = settled_stands old new o h p.0 (computed_of f) same stands first.firsts; table = first },
)

pub history_settled_to : (last : ℕ) (old new : Shown) (r : Result Settled SettleFault)
    → IfOk r (λ s. (done : List (TableEvent MachineState Project Slot)) × ((o : Opening) (h : List Event) → Stands o old h → SettlesTo last o h new done s.computed))
    → IfErr r (λ f. (done : List (TableEvent MachineState Project Slot)) × ((o : Opening) (h : List Event) → Stands o old h → SettlesFirstTo last o h new done (computed_of f)))
    → HasHistory old → HasHistory new
history_settled_to last old new (Ok s) all some h = (h.0, after_stores all.0 h.1, (all.1 h.0 h.1 h.2).stands)
history_settled_to last old new (Err f) all some h = (h.0, after_stores some.0 h.1, (some.1 h.0 h.1 h.2).stands)
