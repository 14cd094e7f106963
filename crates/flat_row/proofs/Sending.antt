-- What the functions that decide from a row's levels find is what leaves in the whole state that the row is.
use Rattle.std.proofs.Common.{◌≡◌, ℕ, suc, ◌+◌, ◌-◌, ◌<◌, Bool, true, false, List, length, get_or, refl, ap, sym, ◌∙◌, subst, inl, inr, Option, arith}
use Rattle.std.proofs.Math.ListN.{set}
use Rattle.std.proofs.lemmas.List.{get_or-set_same, get_or-set_other}
use Rattle.std.proofs.lemmas.Bool.{cases_lt, eqb-true, eq-eqb}
use Rattle.std.specs.Prelude.{◌==◌, ◌&&◌, is_some, IsSome, slice_index_or, bit_and}
use Rattle.omega_net.specs.declared.component.Net.{Net}
use Rattle.omega_net.specs.declared.component.Net.TheVariants.{Low as LowNet, Comb as CombNet}
use Rattle.omega_net.specs.declared.message.Request.{Request}
use Rattle.omega_net.specs.declared.message.Reply.{Reply}
use Rattle.omega_net.specs.Wires.{bit}
use Rattle.omega_net.specs.Queues.{head, turn_after}
use Rattle.omega_net.specs.Ports.{queue_at}
use Rattle.project_book.specs.Project.{Project, IsProject}
use Rattle.flat_row.specs.declared.marks.Marks.{Marks}
use Rattle.flat_row.specs.declared.decide.Heads.{Heads}
use Rattle.flat_row.specs.declared.decide.Room.{Room}
use Rattle.flat_row.specs.Masks.{has, IsSetOf}
use Rattle.flat_row.specs.Queues.{Queues, shown_of, shown_at}
use Rattle.flat_row.specs.Decisions.{leaves, comes, leaves_both, comes_both, TurnsAfter}
use Rattle.flat_row.specs.Labels.{label}
use Rattle.flat_row.specs.Shows.{on_line, heads_of, room_of}
use Rattle.flat_row.specs.Row.{Arrays, IsRow, IsRowOf, HasNetwork, level_at, queue_of}
use Rattle.flat_row.specs.Rows.{MarksRequests, MarksReplies, if_leaves, network}
use Rattle.flat_row.specs.Leaving.{StageForth, StageBack, AllForth, AllBack, Enters, Receives}
use Rattle.flat_row.proofs.Masking.{has_and}
use Rattle.flat_row.proofs.Passing.{level_found}
use Rattle.flat_row.proofs.Rowing.{rows_decide}
use Rattle.flat_row.proofs.Turning.{rows_turn}

-- the levels of a network are there
pub network_there : (R : Arrays) → IsRow R → (net : Net) → HasNetwork R.k (network R net)
network_there R row LowNet = row.low
network_there R row CombNet = row.comb

some_is : {T : Type 0} (o : Option T) → is_some o ≡ true → IsSome o
some_is o e = e

pub and_first : (a b : Bool) → (a && b) ≡ true → a ≡ true
and_first true b e = refl
and_first false b e = cc

-- the marks of a level that was found
module _ {T : Type 0} (route : T → ℕ) (levels there : List (Queues T)) (l : ℕ) (q : Queues T) (marks : Marks) where
  pub marks_there : q ≡ get_or levels l q → l < length levels → levels ≡ there
      → ((x : ℕ) → x < 64 → shown_at marks x ≡ shown_of route q.rule (queue_at q.queues x).items)
      → (x : ℕ) → x < 64 → shown_at marks x ≡ shown_of route (level_at there l).rule (queue_at (level_at there l).queues x).items
  marks_there e h same shown x small =
      shown x small ∙ ap (λ v. shown_of route v.rule (queue_at v.queues x).items) (level_found levels l q e h ∙ ap (λ xs. level_at xs l) same)

-- where marks show a message, one waits
pub shows_some : {T : Type 0} (route : T → ℕ) (q : Queues T) (marks : Marks)
    → ((x : ℕ) → x < 64 → shown_at marks x ≡ shown_of route q.rule (queue_at q.queues x).items)
    → (x : ℕ) → x < 64 → has marks.any x ≡ true → IsSome (head (queue_at q.queues x))
shows_some route q marks shown x small some = some_is (head (queue_at q.queues x)) (sym (ap (λ s. s.any) (shown x small)) ∙ some)

module _ (P : Project) (isp : IsProject P) (R : Arrays) (row : IsRow R) (of : IsRowOf P R) where
  abbrev asks_module : Request → ℕ
  asks_module r = r.place.«module»

  abbrev asks_proc : Reply → ℕ
  asks_proc y = y.tag.proc

  module _ (stage : ℕ) (lt : stage < P.k) (before behind : Marks) (by turn : ℕ) (heads : Heads) (room : Room) (leave next : ℕ) (at : by ≡ P.k - 1 - stage) where
    abbrev b : ℕ
    b = P.k - 1 - stage

    abbrev turned : ℕ → Heads → Room → ℕ → ℕ → ℕ
    turned c h r t y = turn_after (bit y t) (comes c h r t 0 y) (comes c h r t 1 y)

    apart_leave : (h : Heads) (r : Room) (t : ℕ) → heads ≡ h → room ≡ r → turn ≡ t → IsSetOf (leaves by heads room turn) leave → IsSetOf (leaves b h r t) leave
    apart_leave h r t eh er et set x small =
        set x small ∙ ap (λ c. leaves c heads room turn x) at ∙ ap (λ g. leaves b g room turn x) eh ∙ ap (λ g. leaves b h g turn x) er ∙ ap (λ g. leaves b h r g x) et

    apart_turns : (h : Heads) (r : Room) (t : ℕ) → heads ≡ h → room ≡ r → turn ≡ t → TurnsAfter turn (comes by heads room turn 0) (comes by heads room turn 1) next → TurnsAfter t (comes b h r t 0) (comes b h r t 1) next
    apart_turns h r t eh er et set y small =
        set y small ∙ ap (λ c. turned c heads room turn y) at ∙ ap (λ g. turned b g room turn y) eh ∙ ap (λ g. turned b h g turn y) er ∙ ap (λ g. turned b h r g y) et

    pub stage_forth : (net : Net) → heads ≡ heads_of before → room ≡ room_of behind → turn ≡ slice_index_or (network R net).turns stage 0
        → MarksRequests (level_at (network R net).requests stage) before → MarksRequests (level_at (network R net).requests (suc stage)) behind
        → IsSetOf (leaves by heads room turn) leave → TurnsAfter turn (comes by heads room turn 0) (comes by heads room turn 1) next
        → StageForth P R net stage leave next
    stage_forth net eh er et at_before at_behind set turns =
        let own : ℕ = slice_index_or (network R net).turns stage 0 in
        let left = apart_leave (heads_of before) (room_of behind) own eh er et set in
        let gone = apart_turns (heads_of before) (room_of behind) own eh er et turns in
        record {
          moved = (rows_decide P isp R row of).requests net stage before behind leave lt at_before at_behind left;
          waits = λ x small has_it.
              shows_some asks_module (level_at (network R net).requests stage) before at_before x small
              (and_first (has before.any x) _ (sym (left x small) ∙ has_it));
          turns = (rows_turn P isp R row of).requests net stage before behind leave next lt at_before at_behind left gone;
        }

    pub low_stage_back : heads ≡ heads_of behind → room ≡ room_of before → turn ≡ slice_index_or R.low.back_turns stage 0
        → MarksReplies (level_at R.low.replies (suc stage)) behind → MarksReplies (level_at R.low.replies stage) before
        → IsSetOf (leaves by heads room turn) leave → TurnsAfter turn (comes by heads room turn 0) (comes by heads room turn 1) next
        → StageBack P R LowNet stage leave next
    low_stage_back eh er et at_behind at_before set turns =
        let own : ℕ = slice_index_or R.low.back_turns stage 0 in
        let left = apart_leave (heads_of behind) (room_of before) own eh er et set in
        let gone = apart_turns (heads_of behind) (room_of before) own eh er et turns in
        record {
          moved = (rows_decide P isp R row of).low_replies stage behind before leave lt at_behind at_before left;
          waits = λ x small has_it. shows_some asks_proc (level_at R.low.replies (suc stage)) behind at_behind x small (and_first (has behind.any x) _ (sym (left x small) ∙ has_it));
          turns = (rows_turn P isp R row of).low_replies stage behind before leave next lt at_behind at_before left gone;
        }

  -- replies to a combining stage
  module _ (stage : ℕ) (lt : stage < P.k) (before behind : Marks) (by any turn : ℕ) (room : Room) (leave next : ℕ) (at : by ≡ P.k - 1 - stage) where
    abbrev c : ℕ
    c = P.k - 1 - stage

    abbrev turned_both : ℕ → ℕ → Room → ℕ → ℕ → ℕ
    turned_both n a r t y = turn_after (bit y t) (comes_both n a r t 0 y) (comes_both n a r t 1 y)

    pub comb_stage_back : any ≡ behind.any → room ≡ room_of before → turn ≡ slice_index_or R.comb.back_turns stage 0
        → MarksReplies (level_at R.comb.replies (suc stage)) behind → MarksReplies (level_at R.comb.replies stage) before
        → IsSetOf (leaves_both by any room turn) leave → TurnsAfter turn (comes_both by any room turn 0) (comes_both by any room turn 1) next
        → StageBack P R CombNet stage leave next
    comb_stage_back ea er et at_behind at_before set turns =
        let own : ℕ = slice_index_or R.comb.back_turns stage 0 in
        let left : IsSetOf (leaves_both c behind.any (room_of before) own) leave =
        (λ x small. set x small ∙ ap (λ n. leaves_both n any room turn x) at ∙ ap (λ a. leaves_both c a room turn x) ea ∙ ap (λ r. leaves_both c behind.any r turn x) er ∙ ap (λ t. leaves_both c behind.any (room_of before) t x) et) in
        let gone : TurnsAfter own (comes_both c behind.any (room_of before) own 0) (comes_both c behind.any (room_of before) own 1) next =
        (λ y small. turns y small ∙ ap (λ n. turned_both n any room turn y) at ∙ ap (λ a. turned_both c a room turn y) ea ∙ ap (λ r. turned_both c behind.any r turn y) er ∙ ap (λ t. turned_both c behind.any (room_of before) t y) et) in
        record {
          moved = (rows_decide P isp R row of).comb_replies stage behind before leave lt at_behind at_before left;
          waits = λ x small has_it. shows_some asks_proc (level_at R.comb.replies (suc stage)) behind at_behind x small (and_first (has behind.any x) _ (sym (left x small) ∙ has_it));
          turns = (rows_turn P isp R row of).comb_replies stage behind before leave next lt at_behind at_before left gone;
        }

  -- at the ends
  pub all_enter : (net : Net) (before behind : Marks)
      → MarksRequests (level_at (network R net).requests P.k) before → MarksRequests (level_at (network R net).requests (suc P.k)) behind
      → Enters P R net (bit_and before.any behind.one)
  all_enter net before behind at_before at_behind = record {
    moved = λ l within.
        (rows_decide P isp R row of).entering net before behind at_before at_behind l within
        ∙ ap (λ t. if_leaves t (queue_of (network R net).requests P.k (label P.k (on_line net P.k l)))) (sym (has_and before.any behind.one (label P.k (on_line net P.k l))));
    waits = λ x small has_it. shows_some asks_module (level_at (network R net).requests P.k) before at_before x small (and_first (has before.any x) (has behind.one x) (sym (has_and before.any behind.one x) ∙ has_it));
  }

  pub all_receive : (net : Net) (behind : Marks) → MarksReplies (level_at (network R net).replies 0) behind → Receives P R net behind.any
  all_receive net behind at_behind = record {
    moved = (rows_decide P isp R row of).received net behind at_behind;
    waits = λ x small has_it. shows_some asks_proc (level_at (network R net).replies 0) behind at_behind x small has_it;
  }

-- one stage more
module _ (P : Project) (R : Arrays) (net : Net) (count : ℕ) (leave next : List ℕ) (l t : ℕ) (in_leave : count < length leave) (in_next : count < length next) where
  at_stage : (s : ℕ) → s < count + 1 → (s ≡ count → ⊥) → s < count
  at_stage s h ne = elim (cases_lt s count) [
    | inl g ↦ g
    | inr g ↦ absurd (ne (omega (arith, g, h)))
  ]

  not_true : false ≡ true → ⊥
  not_true e = cc

  pub forth_stages : AllForth P R net count leave next → StageForth P R net count l t → AllForth P R net (count + 1) (set leave count l) (set next count t)
  forth_stages all one s h = by_test (s == count) refl
    where
      by_test : (r : Bool) → (s == count) ≡ r → StageForth P R net s (slice_index_or (set leave count l) s 0) (slice_index_or (set next count t) s 0)
      by_test true e =
          let is : s ≡ count = eqb-true s count e in
          subst (λ n. StageForth P R net n (slice_index_or (set leave count l) n 0) (slice_index_or (set next count t) n 0)) (sym is)
          (subst (λ a. StageForth P R net count a (slice_index_or (set next count t) count 0)) (sym (get_or-set_same leave count l 0 in_leave))
          (subst (λ a. StageForth P R net count l a) (sym (get_or-set_same next count t 0 in_next)) one))
      by_test false e =
          let ne : s ≡ count → ⊥ = (λ is. not_true (sym e ∙ eq-eqb s count is)) in
          subst (λ a. StageForth P R net s a (slice_index_or (set next count t) s 0)) (sym (get_or-set_other leave count s l 0 ne))
          (subst (λ a. StageForth P R net s (slice_index_or leave s 0) a) (sym (get_or-set_other next count s t 0 ne)) (all s (at_stage s h ne)))

  pub back_stages : AllBack P R net count leave next → StageBack P R net count l t → AllBack P R net (count + 1) (set leave count l) (set next count t)
  back_stages all one s h = by_test (s == count) refl
    where
      by_test : (r : Bool) → (s == count) ≡ r → StageBack P R net s (slice_index_or (set leave count l) s 0) (slice_index_or (set next count t) s 0)
      by_test true e =
          let is : s ≡ count = eqb-true s count e in
          subst (λ n. StageBack P R net n (slice_index_or (set leave count l) n 0) (slice_index_or (set next count t) n 0)) (sym is)
          (subst (λ a. StageBack P R net count a (slice_index_or (set next count t) count 0)) (sym (get_or-set_same leave count l 0 in_leave))
          (subst (λ a. StageBack P R net count l a) (sym (get_or-set_same next count t 0 in_next)) one))
      by_test false e =
          let ne : s ≡ count → ⊥ = (λ is. not_true (sym e ∙ eq-eqb s count is)) in
          subst (λ a. StageBack P R net s a (slice_index_or (set next count t) s 0)) (sym (get_or-set_other leave count s l 0 ne))
          (subst (λ a. StageBack P R net s (slice_index_or leave s 0) a) (sym (get_or-set_other next count s t 0 ne)) (all s (at_stage s h ne)))
