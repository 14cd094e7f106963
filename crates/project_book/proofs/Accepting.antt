-- What an accepted edit names is there, its numbers are within their limits, and so is the edited project.
use Rattle.std.proofs.Common.{◌≡◌, ◌≢◌, ℕ, ◌^◌, ◌<◌, ◌≤◌, nat_le, nat_lt, Bool, true, false, not, cond, length, Option, Some, Ok, arith, refl, ◌∙◌}
use Rattle.std.proofs.lemmas.Bool.Decides.{nat_tests}
use Rattle.std.proofs.lemmas.Bool.{not-false}
use Rattle.std.proofs.lemmas.List.{length-set, length-take}
use Rattle.omega_net.specs.declared.script.ScriptEntry.{ScriptEntry}
use Rattle.page_map.specs.Limits.{page_count}
use Rattle.project_book.specs.Limits.{script_entries, max_horizon}
use Rattle.project_book.specs.declared.scale.Scale.{Scale}
use Rattle.project_book.specs.declared.scale.Scale.TheVariants.{Usual, Large}
use Rattle.project_book.specs.Scales.{most_horizon, most_entries}
use Rattle.project_book.specs.declared.depths.QueueDepths.{QueueDepths}
use Rattle.project_book.specs.declared.edit.Depths.{Depths}
use Rattle.project_book.specs.declared.edit.Depths.TheVariants.{LowForward, LowReverse, CombForward, CombReverse, ModuleQueue}
use Rattle.project_book.specs.declared.edit.Edit.{Edit}
use Rattle.project_book.specs.declared.edit.Edit.TheVariants.{Entry, Cut, Word, Page, Depth, WaitDepth, Combine, Window, Horizon}
use Rattle.project_book.specs.declared.fault.EditFault.{EditFault}
use Rattle.project_book.specs.declared.fault.EditFault.TheVariants.{BadProcessor, BadEntry, ScriptFull, BadAddress, BadPage, BadStage, BadDepth, BadWindow, BadTimes, BadHorizon}
use Rattle.project_book.specs.Queues.{depth_in, with_depth, is_depth, is_wait}
use Rattle.project_book.specs.Scripts.{script_of, is_addressed, is_timed, IsEntry}
use Rattle.project_book.specs.Project.{Project, IsProject, length_at, is_window}
use Rattle.project_book.specs.Edits.{accepts, verdict, edited, overfills}
use Rattle.project_book.proofs.Lengths.{few_set, put_length}

-- a fault that was looked for and not answered didn't apply
pub passed : (applies : Bool) (fault : EditFault) (others : Option EditFault) → verdict (cond applies (Some fault) others) ≡ Ok tt → (applies ≡ false) × (verdict others ≡ Ok tt)
passed true fault others e = absurd (cc)
passed false fault others e = (refl, e)

-- no scale allows more entries than a script may have, nor a later horizon than there may be
pub most_within : (scale : Scale) → most_entries scale ≤ script_entries
most_within Usual = omega arith
most_within Large = omega arith

pub horizon_within : (scale : Scale) → most_horizon scale ≤ max_horizon
horizon_within Usual = omega arith
horizon_within Large = omega arith

pub short_run : (P : Project) → IsProject P → P.horizon ≤ max_horizon
short_run P h = omega (arith, h.short, horizon_within P.scale)

-- an accepted entry
pub record IsPlaced (P : Project) (p i : ℕ) (entry : ScriptEntry) : Type 0 where
  pub processor : p < 2 ^ P.k
  pub there : i ≤ length_at P p
  pub room : i ≡ length_at P p → i ≢ script_entries
  pub fits : i ≡ length_at P p → i < most_entries P.scale
  pub within : IsEntry entry

pub placed : (P : Project) (p i : ℕ) (entry : ScriptEntry) → accepts P 0 (Entry p i entry) ≡ Ok tt → IsPlaced P p i entry
placed P p i entry h =
    let processor = passed (nat_le (2 ^ P.k) p) BadProcessor _ h in
    let there = passed (nat_lt (length_at P p) i) BadEntry _ processor.1 in
    let room = passed (overfills P (Entry p i entry)) ScriptFull _ there.1 in
    let addressed = passed (not (is_addressed entry)) BadAddress _ room.1 in
    let timed = passed (not (is_timed entry)) BadTimes _ addressed.1 in
    record {
      processor = let t = processor.0 in grind (arith, nat_tests);
      there = let t = there.0 in grind (arith, nat_tests);
      room = λ at full. let t = room.0 in let most = most_within P.scale in grind (arith, nat_tests);
      fits = λ at. let t = room.0 in grind (arith, nat_tests);
      within = record { addressed = not-false _ addressed.0; timed = not-false _ timed.0 };
    }

-- an accepted cut
pub record IsKept (P : Project) (p n : ℕ) : Type 0 where
  pub processor : p < 2 ^ P.k
  pub there : n ≤ length_at P p

pub kept : (P : Project) (p n : ℕ) → accepts P 0 (Cut p n) ≡ Ok tt → IsKept P p n
kept P p n h =
    let processor = passed (nat_le (2 ^ P.k) p) BadProcessor _ h in
    let there = passed (nat_lt (length_at P p) n) BadEntry _ processor.1 in
    record {
      processor = let t = processor.0 in grind (arith, nat_tests);
      there = let t = there.0 in grind (arith, nat_tests);
    }

pub staged : (P : Project) (s : ℕ) (on : Bool) → accepts P 0 (Combine s on) ≡ Ok tt → s < P.k
staged P s on h = let t = (passed (nat_le P.k s) BadStage _ h).0 in grind (arith, nat_tests)

pub paged : (P : Project) (g amount base : ℕ) → accepts P 0 (Page g amount base) ≡ Ok tt → g < page_count
paged P g amount base h = let t = (passed (nat_le page_count g) BadPage _ h).0 in grind (arith, nat_tests)

-- one depth is changed to one that is allowed
depths_within : (ds : QueueDepths) (q : Depths) (d : ℕ) → ((r : Depths) → is_depth r (depth_in ds r) ≡ true) → is_depth q d ≡ true → (r : Depths) → is_depth r (depth_in (with_depth ds q d) r) ≡ true
depths_within ds LowForward d h ok LowForward = ok
depths_within ds LowForward d h ok r = h r
depths_within ds LowReverse d h ok LowReverse = ok
depths_within ds LowReverse d h ok r = h r
depths_within ds CombForward d h ok CombForward = ok
depths_within ds CombForward d h ok r = h r
depths_within ds CombReverse d h ok CombReverse = ok
depths_within ds CombReverse d h ok r = h r
depths_within ds ModuleQueue d h ok ModuleQueue = ok
depths_within ds ModuleQueue d h ok r = h r

-- the edited project is within its limits
pub is_project_edited : (P : Project) (e : Edit) → IsProject P → accepts P 0 e ≡ Ok tt → IsProject (edited P e)
is_project_edited P (Entry p i entry) h ok =
    let at = placed P p i entry ok in
    record { small = h.small; mapped = h.mapped; paged = h.paged; short = h.short; window = h.window; depths = h.depths; wait = h.wait; flags = h.flags; scripts = length-set P.scripts p _ ∙ h.scripts; few = few_set (most_entries P.scale) p P.scripts _ (omega (arith, at.processor, h.scripts)) h.few (put_length (script_of P.scripts p) i (most_entries P.scale) entry at.there (h.few p) at.fits) }
is_project_edited P (Cut p n) h ok =
    let cut = kept P p n ok in
    record { small = h.small; mapped = h.mapped; paged = h.paged; short = h.short; window = h.window; depths = h.depths; wait = h.wait; flags = h.flags; scripts = length-set P.scripts p _ ∙ h.scripts; few = few_set (most_entries P.scale) p P.scripts _ (omega (arith, cut.processor, h.scripts)) h.few (omega (arith, length-take n (script_of P.scripts p), cut.there, h.few p)) }
is_project_edited P (Word a word) h ok =
    record { small = h.small; mapped = h.mapped; paged = h.paged; short = h.short; window = h.window; depths = h.depths; wait = h.wait; flags = h.flags; scripts = h.scripts; few = h.few }
is_project_edited P (Page g amount base) h ok =
    record { small = h.small; mapped = h.mapped; paged = length-set P.pages.pages g _ ∙ h.paged; short = h.short; window = h.window; depths = h.depths; wait = h.wait; flags = h.flags; scripts = h.scripts; few = h.few }
is_project_edited P (Depth q d) h ok =
    record { small = h.small; mapped = h.mapped; paged = h.paged; short = h.short; window = h.window; depths = depths_within P.depths q d h.depths (not-false _ (passed (not (is_depth q d)) BadDepth _ ok).0); wait = h.wait; flags = h.flags; scripts = h.scripts; few = h.few }
is_project_edited P (WaitDepth d) h ok =
    record { small = h.small; mapped = h.mapped; paged = h.paged; short = h.short; window = h.window; depths = h.depths; wait = not-false _ (passed (not (is_wait d)) BadDepth _ ok).0; flags = h.flags; scripts = h.scripts; few = h.few }
is_project_edited P (Combine s on) h ok =
    record { small = h.small; mapped = h.mapped; paged = h.paged; short = h.short; window = h.window; depths = h.depths; wait = h.wait; flags = length-set P.combine s on ∙ h.flags; scripts = h.scripts; few = h.few }
is_project_edited P (Window w) h ok =
    record { small = h.small; mapped = h.mapped; paged = h.paged; short = h.short; window = not-false _ (passed (not (is_window w)) BadWindow _ ok).0; depths = h.depths; wait = h.wait; flags = h.flags; scripts = h.scripts; few = h.few }
is_project_edited P (Horizon t) h ok =
    let short = (passed (nat_lt (most_horizon P.scale) t) BadHorizon _ ok).0 in
    record { small = h.small; mapped = h.mapped; paged = h.paged; short = grind (arith, nat_tests); window = h.window; depths = h.depths; wait = h.wait; flags = h.flags; scripts = h.scripts; few = h.few }
