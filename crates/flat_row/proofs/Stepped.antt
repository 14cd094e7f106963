-- A step of the row, from what its parts promise.
use Rattle.std.proofs.Common.{◌≡◌, ℕ, zero, suc, ◌+◌, ◌-◌, ◌^◌, ◌<◌, ◌≤◌, Bool, true, false, cond, List, [], ◌∷◌, length, drop, refl, ap, sym, ◌∙◌, subst, inl, inr, Option, None, Some, arith}
use Rattle.std.proofs.Math.Pow.{pow_mono}
use Rattle.std.proofs.lemmas.List.{get_or_past}
use Rattle.std.proofs.lemmas.Bool.{cases_lt, eqb-true, eq-eqb}
use Rattle.std.specs.Prelude.{◌==◌, ◌||◌, not, IsSome, slice_index_or, bit_or}
use Rattle.arrayvec.specs.ArrayVec.{ArrayVec}
use Rattle.omega_net.specs.declared.component.Net.{Net}
use Rattle.omega_net.specs.declared.component.Net.TheVariants.{Low as LowNet, Comb as CombNet}
use Rattle.omega_net.specs.declared.component.Component.{Component}
use Rattle.omega_net.specs.declared.component.Component.TheVariants.{Proc as ProcAt, Module as ModuleAt, Switch}
use Rattle.omega_net.specs.declared.message.Request.{Request}
use Rattle.omega_net.specs.declared.message.Reply.{Reply}
use Rattle.omega_net.specs.Numbers.{lines, half, Exists}
use Rattle.omega_net.specs.Queues.{head, without_head, joined}
use Rattle.omega_net.specs.Ports.{empty}
use Rattle.mem_module.specs.declared.words.Stored.{Stored}
use Rattle.ref_proc.specs.declared.state.ProcState.{ProcState}
use Rattle.project_book.specs.Project.{Project, IsProject, depth_of}
use Rattle.project_book.specs.declared.edit.Depths.TheVariants.{ModuleQueue}
use Rattle.machine_cells.specs.declared.state.MachineState.TheVariants.{Proc, Module, Low, Comb}
use Rattle.machine_cells.specs.Moves.{Move, moves}
use Rattle.machine_cells.specs.Cycle.{cycle, part_of, comb_settings, proc_settings, proc_traffic, module_traffic, switch_traffic}
use Rattle.ref_proc.specs.RefProc.{proc_after}
use Rattle.mem_module.specs.MemModule.{is_net, served_net, words_after, answer_to, module_after}
use Rattle.comb_switch.specs.CombSwitch.{comb_after}
use Rattle.low_switch.specs.LowSwitch.{low_after}
use Rattle.flat_row.specs.declared.changed.Changed.{Changed}
use Rattle.flat_row.specs.declared.decide.Served.{Served}
use Rattle.flat_row.specs.declared.leaving.Plan.{Plan}
use Rattle.flat_row.specs.Labels.{switch_label}
use Rattle.flat_row.specs.Masks.{has, IsSetOf}
use Rattle.flat_row.specs.Queues.{Queues}
use Rattle.flat_row.specs.declared.acting.Replies.{Replies}
use Rattle.flat_row.specs.Row.{Rests, out_from, Network, Buffers, Arrays, IsRow, IsRowOf, IsNetworkOf, HasNetwork, HasLevels, level_at, queue_of, state_of, states_of, buffers_at, wait_of, combined_of, low_of, comb_of, proc_of, module_of}
use Rattle.flat_row.specs.Rows.{if_leaves, network}
use Rattle.flat_row.specs.Moving.{SameShape, AllWait, AllWaitBack, arrival, leaves_forth, forth_after, left_back, leaves_back, back_after}
use Rattle.flat_row.specs.Stages.{CombForth, HasBuffers, buffers_in}
use Rattle.flat_row.specs.Ends.{Wrote, ShowsOne, Stays, reply_at, got_at, words_of, proc_at, shown_with}
use Rattle.flat_row.specs.Step.{Serves, OnlyModules, BothServed, Departed, BothActed, Returned, CombsReturned, IsPlan}
use Rattle.flat_row.specs.Changed.{none_changed, SameOutside, TellsMemory, crosses, has_combined, AreTouched}
use Rattle.flat_row.proofs.Passing.{level_within, shape_twice}
use Rattle.flat_row.proofs.Processing.{label_small, with_out, neither, not_false}
use Rattle.flat_row.proofs.Staging.{levels_still, buffers_still}
use Rattle.flat_row.proofs.Stepping.{low_steps}
use Rattle.flat_row.proofs.Mixing.{comb_steps}
use Rattle.flat_row.proofs.Whole.{enters_it, leaves_it, receives_it, sends_it, module_whole, proc_whole}
use Rattle.flat_row.proofs.Cycling.{cycle_is, states_alike}
use Rattle.flat_row.proofs.Touching.{none_combined, none_in}
use Rattle.flat_row.proofs.Quiet.{quiet, own_small, is_quiet, module_stays}

-- as many levels of as many queues, and the same rules
pub network_still : (k : ℕ) (old new : Network) → HasNetwork k old → SameShape old.requests new.requests → SameShape old.replies new.replies → length new.turns ≡ 6 → length new.back_turns ≡ 6 → HasNetwork k new
network_still k old new has_it a b t u = record {
  requests = levels_still (k + 2) (lines k) old.requests new.requests has_it.requests a;
  replies = levels_still (k + 1) (lines k) old.replies new.replies has_it.replies b;
  turns = t;
  back_turns = u;
}

pub network_of_still : (P : Project) (net : Net) (old new : Network) → IsNetworkOf P net old → SameShape old.requests new.requests → SameShape old.replies new.replies → IsNetworkOf P net new
network_of_still P net old new of a b = record { requests = λ l h. a.rules l ∙ of.requests l h; replies = λ l h. b.rules l ∙ of.replies l h }

same_as : {T : Type 0} (a b : List (Queues T)) → b ≡ a → SameShape a b
same_as a b e = subst (λ c. SameShape a c) (sym e) (record { many = refl; queues = λ l. refl; rules = λ l. refl })

-- a queue whose head may have left is no longer
pub no_longer : {T : Type 0} (t : Bool) (q : ArrayVec T) → length (without_head t q).items ≤ length q.items
no_longer false q = omega arith
no_longer {T} true q = by_items q.items
  where
    by_items : (xs : List T) → length (drop 1 xs) ≤ length xs
    by_items [] = omega arith
    by_items (x ∷ xs) = omega arith

-- past the labels there is no queue
past_labels : {T : Type 0} (levels : List (Queues T)) (l k z : ℕ) → k ≤ 6 → length (level_at levels l).queues ≡ lines k → 64 ≤ z → length (queue_of levels l z).items ≡ 0
past_labels levels l k z few wide h =
    let most : 2 ^ k ≤ 64 = pow_mono few in
    let out : length (level_at levels l).queues ≤ z = omega (arith, wide, most, h) in
    ap (λ q. length q.items) (get_or_past (level_at levels l).queues z empty out)

module _ (P : Project) (isp : IsProject P) (R : Arrays) (row : IsRow R) (of : IsRowOf P R) (served : Served) (low comb : Plan)
    (serves : Serves P R served.low served.comb served.turn) (low_plan : IsPlan P R LowNet low) (comb_plan : IsPlan P R CombNet comb) where
  few : P.k ≤ 6
  few = isp.small

  -- what serving needs
  pub need_low : (m : ℕ) → m < 64 → has served.low m ≡ true → IsSome (head (queue_of R.low.requests (suc R.k) m))
  need_low m small has_it = subst (λ k. IsSome (head (queue_of R.low.requests (suc k) m))) (sym of.size) (serves.low_waits m small has_it)

  pub need_comb : (m : ℕ) → m < 64 → has served.comb m ≡ true → IsSome (head (queue_of R.comb.requests (suc R.k) m))
  need_comb m small has_it = subst (λ k. IsSome (head (queue_of R.comb.requests (suc k) m))) (sym of.size) (serves.comb_waits m small has_it)

  pub need_words : lines R.k ≤ length R.words
  need_words = omega (arith, row.words)

  -- who serves is there
  pub low_wide : (m : ℕ) → m < 64 → has served.low m ≡ true → m < lines R.k
  low_wide m small has_it = subst (λ n. m < n) (row.low.requests.each (suc R.k) (omega arith)) (level_within R.low.requests (suc R.k) m (need_low m small has_it))

  pub comb_wide : (m : ℕ) → m < 64 → has served.comb m ≡ true → m < lines R.k
  comb_wide m small has_it = subst (λ n. m < n) (row.comb.requests.each (suc R.k) (omega arith)) (level_within R.comb.requests (suc R.k) m (need_comb m small has_it))

  pub comb_wide_of : (m : ℕ) → m < 64 → has served.comb m ≡ true → m < lines P.k
  comb_wide_of m small has_it = subst (λ k. m < lines k) of.size (comb_wide m small has_it)

  -- no module serves both networks
  pub serve_apart : (m : ℕ) → m < 64 → has served.low m ≡ true → has served.comb m ≡ true → ⊥
  serve_apart m small low_so comb_so =
      let within = comb_wide_of m small comb_so in by_net (served_net (module_of R m) (depth_of P ModuleQueue)) (sym (serves.low_so m within) ∙ low_so) (sym (serves.comb_so m within) ∙ comb_so)
    where
      by_net : (n : Option Net) → is_net LowNet n ≡ true → is_net CombNet n ≡ true → ⊥
      by_net None e f = cc
      by_net (Some LowNet) e f = cc
      by_net (Some CombNet) e f = cc

  pub has_buffers : HasBuffers P.k (lines P.k) R.buffers
  has_buffers = subst (λ k. HasBuffers k (lines k) R.buffers) of.size (record { many = row.buffers; each = row.entries })

  module _ (L0 C0 : Network) (W : List (List Stored)) (low_only : OnlyModules R.k R.low L0) (comb_only : OnlyModules R.k R.comb C0) (many : length W ≡ length R.words) where
    -- modules alone have served
    pub low_there : HasNetwork R.k L0
    low_there = network_still R.k R.low L0 row.low low_only.shape (same_as R.low.replies L0.replies low_only.replies) (ap length low_only.turns ∙ row.low.turns) (ap length low_only.back_turns ∙ row.low.back_turns)

    pub comb_there : HasNetwork R.k C0
    comb_there = network_still R.k R.comb C0 row.comb comb_only.shape (same_as R.comb.replies C0.replies comb_only.replies) (ap length comb_only.turns ∙ row.comb.turns) (ap length comb_only.back_turns ∙ row.comb.back_turns)

    low_of_net : IsNetworkOf P LowNet L0
    low_of_net = network_of_still P LowNet R.low L0 of.low low_only.shape (same_as R.low.replies L0.replies low_only.replies)

    comb_of_net : IsNetworkOf P CombNet C0
    comb_of_net = network_of_still P CombNet R.comb C0 of.comb comb_only.shape (same_as R.comb.replies C0.replies comb_only.replies)

    shown_low : (p : ℕ) → queue_of L0.requests 0 p ≡ queue_of R.low.requests 0 p
    shown_low p = low_only.others 0 p (λ e. omega (arith, e))

    shown_comb : (p : ℕ) → queue_of C0.requests 0 p ≡ queue_of R.comb.requests 0 p
    shown_comb p = comb_only.others 0 p (λ e. omega (arith, e))

    -- and processors show what they showed
    shown_so : (p : ℕ) → shown_with R.procs (level_at L0.requests 0) (level_at C0.requests 0) p ≡ proc_of R p
    shown_so p =
        ap (λ q. with_out (proc_at R.procs p) (out_from (head q) (head (queue_of C0.requests 0 p)))) (shown_low p)
        ∙ ap (λ q. with_out (proc_at R.procs p) (out_from (head (queue_of R.low.requests 0 p)) (head q))) (shown_comb p)

    abbrev serving_row : Arrays
    serving_row = record { k = R.k; low = L0; comb = C0; buffers = R.buffers; procs = R.procs; words = W; module_turns = R.module_turns; served = R.served; rests = R.rests }

    pub serving_is_row : IsRow serving_row
    serving_is_row = record {
      small = row.small;
      low = low_there;
      comb = comb_there;
      buffers = row.buffers;
      entries = row.entries;
      procs = row.procs;
      words = many ∙ row.words;
      one_out = λ p. omega (arith, row.one_out p, ap (λ q. length q.items) (shown_low p), ap (λ q. length q.items) (shown_comb p));
    }

    pub serving_is_of : IsRowOf P serving_row
    serving_is_of = record { size = of.size; low = low_of_net; comb = comb_of_net; rest = λ p within so. subst (λ s. Rests P p s) (sym (shown_so p)) (of.rest p within so) }

    -- what departing needs
    kept_low : (l z : ℕ) → l ≤ P.k → queue_of L0.requests l z ≡ queue_of R.low.requests l z
    kept_low l z le = low_only.others l z (λ e. omega (arith, e, le, of.size))

    kept_comb : (l z : ℕ) → l ≤ P.k → queue_of C0.requests l z ≡ queue_of R.comb.requests l z
    kept_comb l z le = comb_only.others l z (λ e. omega (arith, e, le, of.size))

    not_both : false ≡ true → ⊥
    not_both e = cc

    below_end : (l : ℕ) → l ≤ P.k → (l == P.k) ≡ false → l < P.k
    below_end l le e = elim (cases_lt l P.k) [
      | inl h ↦ h
      | inr h ↦ absurd (not_both (sym e ∙ eq-eqb l P.k (omega (arith, le, h))))
    ]

    waits_before : (net : Net) (plan : Plan) → IsPlan P R net plan → (l x : ℕ) → l ≤ P.k → x < 64 → leaves_forth P.k plan.forth.leave plan.enter l x ≡ true → IsSome (head (queue_of (network R net).requests l x))
    waits_before net plan is l x le small has_it = by_test (l == P.k) refl
      where
        by_test : (t : Bool) → (l == P.k) ≡ t → IsSome (head (queue_of (network R net).requests l x))
        by_test true e =
            let same : l ≡ P.k = eqb-true l P.k e in
            subst (λ n. IsSome (head (queue_of (network R net).requests n x))) (sym same)
            (is.enter.waits x small (sym (ap (λ t. cond t (has plan.enter x) (has (slice_index_or plan.forth.leave l 0) x)) e) ∙ has_it))
        by_test false e = (is.forth l (below_end l le e)).waits x small (sym (ap (λ t. cond t (has plan.enter x) (has (slice_index_or plan.forth.leave l 0) x)) e) ∙ has_it)

    low_wait : AllWait P.k low.forth.leave low.enter L0.requests
    low_wait l x le small has_it = subst (λ q. IsSome (head q)) (sym (kept_low l x le)) (waits_before LowNet low low_plan l x le small has_it)

    pub depart_low : AllWait R.k low.forth.leave low.enter L0.requests
    depart_low = subst (λ k. AllWait k low.forth.leave low.enter L0.requests) (sym of.size) low_wait

    pub depart_comb : AllWait P.k comb.forth.leave comb.enter C0.requests
    depart_comb l x le small has_it = subst (λ q. IsSome (head q)) (sym (kept_comb l x le)) (waits_before CombNet comb comb_plan l x le small has_it)

    pub comes_low : (p : ℕ) → p < 64 → has low.receive p ≡ true → IsSome (head (queue_of L0.replies 0 p))
    comes_low p small has_it = subst (λ rs. IsSome (head (queue_of rs 0 p))) (sym low_only.replies) (low_plan.receive.waits p small has_it)

    pub comes_comb : (p : ℕ) → p < 64 → has comb.receive p ≡ true → IsSome (head (queue_of C0.replies 0 p))
    comes_comb p small has_it = subst (λ rs. IsSome (head (queue_of rs 0 p))) (sym comb_only.replies) (comb_plan.receive.waits p small has_it)

    pub comb_requests_of : HasLevels (P.k + 2) (lines P.k) C0.requests
    comb_requests_of = subst (λ k. HasLevels (k + 2) (lines k) C0.requests) of.size comb_there.requests

    pub comb_replies_of : HasLevels (P.k + 1) (lines P.k) C0.replies
    comb_replies_of = subst (λ k. HasLevels (k + 1) (lines k) C0.replies) of.size comb_there.replies

    module _ (L1 C1 : Network) (B1 : List Buffers) (low_got comb_got : Replies) (low_gone : Departed low.receive L0 L1 low_got) (comb_gone : Departed comb.receive C0 C1 comb_got)
        (low_queues : (l z : ℕ) → l < R.k + 2 → z < 64 → queue_of L1.requests l z ≡ forth_after (λ (r : Request). r.place.«module») R.k low.forth.leave low.enter L0.requests l z)
        (crossed : CombForth P comb.forth.leave comb.enter C0.requests C1.requests R.buffers B1) where
      -- what acting needs
      pub act_procs : length R.procs ≡ lines P.k
      act_procs = row.procs ∙ ap lines of.size

      low_levels_one : HasLevels (R.k + 2) (lines R.k) L1.requests
      low_levels_one = levels_still (R.k + 2) (lines R.k) L0.requests L1.requests low_there.requests low_gone.requests_shape

      pub act_low : HasLevels (P.k + 2) (lines P.k) L1.requests
      act_low = subst (λ k. HasLevels (k + 2) (lines k) L1.requests) of.size low_levels_one

      pub act_comb : HasLevels (P.k + 2) (lines P.k) C1.requests
      act_comb = levels_still (P.k + 2) (lines P.k) C0.requests C1.requests comb_requests_of comb_gone.requests_shape

      forth_at : (l z : ℕ) → l < P.k + 2 → z < 64 → queue_of L1.requests l z ≡ forth_after (λ (r : Request). r.place.«module») P.k low.forth.leave low.enter L0.requests l z
      forth_at l z h small = subst (λ k. (l < k + 2 → queue_of L1.requests l z ≡ forth_after (λ (r : Request). r.place.«module») k low.forth.leave low.enter L0.requests l z)) of.size (λ g. low_queues l z g small) h

      low_left : (p : ℕ) → p < 64 → queue_of L1.requests 0 p ≡ without_head (leaves_forth P.k low.forth.leave low.enter 0 p) (queue_of R.low.requests 0 p)
      low_left p small = forth_at 0 p (omega arith) small ∙ ap (without_head (leaves_forth P.k low.forth.leave low.enter 0 p)) (shown_low p)

      comb_left : (p : ℕ) → p < 64 → queue_of C1.requests 0 p ≡ without_head (leaves_forth P.k comb.forth.leave comb.enter 0 p) (queue_of R.comb.requests 0 p)
      comb_left p small = crossed.first p small ∙ ap (without_head (leaves_forth P.k comb.forth.leave comb.enter 0 p)) (shown_comb p)

      pub act_one : (p : ℕ) → ShowsOne (level_at L1.requests 0) (level_at C1.requests 0) p
      act_one p = elim (cases_lt p 64) [
        | inl h ↦ omega (
          arith,
          row.one_out p,
          ap (λ q. length q.items) (low_left p h),
          ap (λ q. length q.items) (comb_left p h),
          no_longer (leaves_forth P.k low.forth.leave low.enter 0 p) (queue_of R.low.requests 0 p),
          no_longer (leaves_forth P.k comb.forth.leave comb.enter 0 p) (queue_of R.comb.requests 0 p),
        )
        | inr h ↦ omega (arith, past_labels L1.requests 0 P.k p few (act_low.each 0 (omega arith)) h, past_labels C1.requests 0 P.k p few (act_comb.each 0 (omega arith)) h)
      ]

      -- where nothing has left, a processor shows what it showed
      unsent : (p : ℕ) → p < 64 → leaves_forth P.k low.forth.leave low.enter 0 p ≡ false → leaves_forth P.k comb.forth.leave comb.enter 0 p ≡ false
          → shown_with R.procs (level_at L1.requests 0) (level_at C1.requests 0) p ≡ proc_of R p
      unsent p small low_out comb_out =
          ap (λ q. with_out (proc_at R.procs p) (out_from (head q) (head (queue_of C1.requests 0 p)))) (low_left p small ∙ ap (λ t. without_head t (queue_of R.low.requests 0 p)) low_out)
          ∙ ap (λ q. with_out (proc_at R.procs p) (out_from (head (queue_of R.low.requests 0 p)) (head q))) (comb_left p small ∙ ap (λ t. without_head t (queue_of R.comb.requests 0 p)) comb_out)

      -- who isn't asked to act stays as it is
      module _ (active : ℕ) (low_set : low_got.set ≡ low.receive) (comb_set : comb_got.set ≡ comb.receive)
          (rests_so : (p : ℕ) → p < 64 → has active p ≡ false → has R.rests p ≡ true) (low_none : (p : ℕ) → p < 64 → has active p ≡ false → has low.receive p ≡ false)
          (comb_none : (p : ℕ) → p < 64 → has active p ≡ false → has comb.receive p ≡ false)
          (low_stays : (p : ℕ) → p < 64 → has active p ≡ false → leaves_forth R.k low.forth.leave low.enter 0 p ≡ false)
          (comb_stays : (p : ℕ) → p < 64 → has active p ≡ false → leaves_forth R.k comb.forth.leave comb.enter 0 p ≡ false) where
        -- it shows what it showed
        still_shown : (p : ℕ) → p < 64 → has active p ≡ false → shown_with R.procs (level_at L1.requests 0) (level_at C1.requests 0) p ≡ proc_of R p
        still_shown p small out =
            unsent p small (ap (λ k. leaves_forth k low.forth.leave low.enter 0 p) (sym of.size) ∙ low_stays p small out) (ap (λ k. leaves_forth k comb.forth.leave comb.enter 0 p) (sym of.size) ∙ comb_stays p small out)

        pub act_others : (p : ℕ) → p < lines P.k → has active p ≡ false → Stays P low_got comb_got (shown_with R.procs (level_at L1.requests 0) (level_at C1.requests 0) p) p
        act_others p within out =
            let small : p < 64 = label_small few within in
            record {
              low_none = ap (λ s. has s p) low_set ∙ low_none p small out;
              comb_none = ap (λ s. has s p) comb_set ∙ comb_none p small out;
              rests = subst (λ s. Rests P p s) (sym (still_shown p small out)) (of.rest p within (rests_so p small out));
            }

      module _ (L2 C2 : Network) (procs : List ProcState) (rests : ℕ) (acted : BothActed P low_got comb_got rests L1 L2 C1 C2 R.procs procs) where
        -- what coming back needs
        behind_low : (l z : ℕ) → 0 < l → queue_of L2.replies l z ≡ queue_of R.low.replies l z
        behind_low l z h = ap (λ rs. queue_of rs l z) acted.low_only.replies ∙ low_gone.rest l z h ∙ ap (λ rs. queue_of rs l z) low_only.replies

        behind_comb : (l z : ℕ) → 0 < l → queue_of C2.replies l z ≡ queue_of R.comb.replies l z
        behind_comb l z h = ap (λ rs. queue_of rs l z) acted.comb_only.replies ∙ comb_gone.rest l z h ∙ ap (λ rs. queue_of rs l z) comb_only.replies

        took_low : (z : ℕ) → z < 64 → queue_of L2.replies 0 z ≡ without_head (has low.receive z) (queue_of R.low.replies 0 z)
        took_low z small = ap (λ rs. queue_of rs 0 z) acted.low_only.replies ∙ low_gone.took z small ∙ ap (λ rs. without_head (has low.receive z) (queue_of rs 0 z)) low_only.replies

        took_comb : (z : ℕ) → z < 64 → queue_of C2.replies 0 z ≡ without_head (has comb.receive z) (queue_of R.comb.replies 0 z)
        took_comb z small = ap (λ rs. queue_of rs 0 z) acted.comb_only.replies ∙ comb_gone.took z small ∙ ap (λ rs. without_head (has comb.receive z) (queue_of rs 0 z)) comb_only.replies

        back_wait : AllWaitBack P.k low.back.leave L2.replies
        back_wait s x lt small has_it = subst (λ q. IsSome (head q)) (sym (behind_low (suc s) x (omega arith))) ((low_plan.back s lt).waits x small has_it)

        pub back_low : AllWaitBack R.k low.back.leave L2.replies
        back_low = subst (λ k. AllWaitBack k low.back.leave L2.replies) (sym of.size) back_wait

        pub back_comb : AllWaitBack P.k comb.back.leave C2.replies
        back_comb s x lt small has_it = subst (λ q. IsSome (head q)) (sym (behind_comb (suc s) x (omega arith))) ((comb_plan.back s lt).waits x small has_it)

        pub back_low_levels : HasLevels (R.k + 1) (lines R.k) L2.replies
        back_low_levels = subst (λ rs. HasLevels (R.k + 1) (lines R.k) rs) (sym acted.low_only.replies) (levels_still (R.k + 1) (lines R.k) L0.replies L1.replies low_there.replies low_gone.replies_shape)

        pub back_comb_levels : HasLevels (P.k + 1) (lines P.k) C2.replies
        back_comb_levels = subst (λ rs. HasLevels (P.k + 1) (lines P.k) rs) (sym acted.comb_only.replies) (levels_still (P.k + 1) (lines P.k) C0.replies C1.replies comb_replies_of comb_gone.replies_shape)

        pub back_buffers : HasBuffers P.k (lines P.k) B1
        back_buffers = buffers_still P.k (lines P.k) R.buffers B1 has_buffers crossed.buffers

        module _ (low_answers comb_answers : List Reply) (both : BothServed R.k served.low served.comb R.low L0 R.comb C0 R.words W low_answers comb_answers)
            (L3 C3 : Network) (B3 : List Buffers)
            (low_back : Returned R.k low.back.leave served.low low_answers low.forth.turns low.back.turns L2 L3)
            (low_replies : (l z : ℕ) → l < R.k → z < 64 → queue_of L3.replies l z ≡ back_after (λ (y : Reply). y.tag.proc) R.k low.back.leave L2.replies l z)
            (comb_back : Returned P.k comb.back.leave served.comb comb_answers comb.forth.turns comb.back.turns C2 C3) (combs : CombsReturned P comb.back.leave C2 C3 B1 B3)
            (long : length low.forth.turns ≡ 6) (long_back : length low.back.turns ≡ 6) (comb_long : length comb.forth.turns ≡ 6) (comb_long_back : length comb.back.turns ≡ 6) where
          abbrev new : Arrays
          new = record { k = R.k; low = L3; comb = C3; buffers = B3; procs = procs; words = W; module_turns = served.turn; served = bit_or served.low served.comb; rests = rests }

          low_requests_shape : SameShape L0.requests L3.requests
          low_requests_shape = subst (λ rs. SameShape L0.requests rs) (sym low_back.requests) (shape_twice L0.requests L1.requests L2.requests low_gone.requests_shape acted.low_only.shape)

          comb_requests_shape : SameShape C0.requests C3.requests
          comb_requests_shape = subst (λ rs. SameShape C0.requests rs) (sym comb_back.requests) (shape_twice C0.requests C1.requests C2.requests comb_gone.requests_shape acted.comb_only.shape)

          low_replies_shape : SameShape L0.replies L3.replies
          low_replies_shape = shape_twice L0.replies L2.replies L3.replies (subst (λ rs. SameShape L0.replies rs) (sym acted.low_only.replies) low_gone.replies_shape) low_back.shape

          comb_replies_shape : SameShape C0.replies C3.replies
          comb_replies_shape = shape_twice C0.replies C2.replies C3.replies (subst (λ rs. SameShape C0.replies rs) (sym acted.comb_only.replies) comb_gone.replies_shape) comb_back.shape

          buffers_three : HasBuffers P.k (lines P.k) B3
          buffers_three = buffers_still P.k (lines P.k) B1 B3 back_buffers combs.buffers

          buffers_row : HasBuffers R.k (lines R.k) B3
          buffers_row = subst (λ k. HasBuffers k (lines k) B3) (sym of.size) buffers_three

          pub new_is_row : IsRow new
          new_is_row = record {
            small = row.small;
            low = network_still R.k L0 L3 low_there low_requests_shape low_replies_shape (ap length low_back.turns_so ∙ long) (ap length low_back.back_turns_so ∙ long_back);
            comb = network_still R.k C0 C3 comb_there comb_requests_shape comb_replies_shape (ap length comb_back.turns_so ∙ comb_long) (ap length comb_back.back_turns_so ∙ comb_long_back);
            buffers = buffers_row.many;
            entries = buffers_row.each;
            procs = acted.many ∙ row.procs;
            words = many ∙ row.words;
            one_out = λ p. omega (
              arith,
              acted.one p,
              ap (λ rs. length (queue_of rs 0 p).items) low_back.requests,
              ap (λ rs. length (queue_of rs 0 p).items) comb_back.requests,
            );
          }

          -- what processors are after they have acted, they still are
          shown_now : (p : ℕ) → proc_of new p ≡ shown_with procs (level_at L2.requests 0) (level_at C2.requests 0) p
          shown_now p = ap (λ rs. shown_with procs (level_at rs 0) (level_at C3.requests 0) p) low_back.requests ∙ ap (λ rs. shown_with procs (level_at L2.requests 0) (level_at rs 0) p) comb_back.requests

          pub new_is_of : IsRowOf P new
          new_is_of = record {
            size = of.size;
            low = network_of_still P LowNet L0 L3 low_of_net low_requests_shape low_replies_shape;
            comb = network_of_still P CombNet C0 C3 comb_of_net comb_requests_shape comb_replies_shape;
            rest = λ p within so. subst (λ s. Rests P p s) (sym (shown_now p)) (acted.rest p within so);
          }

          -- the queues of requests behind the processors
          low_now : (l z : ℕ) → 0 < l → l < P.k + 2 → z < 64 → queue_of L3.requests l z ≡ forth_after (λ (r : Request). r.place.«module») P.k low.forth.leave low.enter L0.requests l z
          low_now l z h within small = ap (λ rs. queue_of rs l z) low_back.requests ∙ acted.low_others l z h ∙ forth_at l z within small

          comb_now : (l z : ℕ) → 0 < l → z < 64 → queue_of C3.requests l z ≡ queue_of C1.requests l z
          comb_now l z h small = ap (λ rs. queue_of rs l z) comb_back.requests ∙ acted.comb_others l z h

          replies_now : (l z : ℕ) → l < P.k → z < 64 → queue_of L3.replies l z ≡ back_after (λ (y : Reply). y.tag.proc) P.k low.back.leave L2.replies l z
          replies_now l z h small = subst (λ k. (l < k → queue_of L3.replies l z ≡ back_after (λ (y : Reply). y.tag.proc) k low.back.leave L2.replies l z)) of.size (λ g. low_replies l z g small) h

          small_line : (m : ℕ) → m < lines P.k → m < 64
          small_line m within = let most : 2 ^ P.k ≤ 64 = pow_mono few in omega (arith, most, within)

          -- a low switch, and a combining one
          low_so : (s j : ℕ) → s < P.k → j < half P.k → low_of P.k L3 s j ≡ low_after (P.k - 1 - s) (switch_traffic (moves P (states_of R)) P.k LowNet s j) (low_of P.k R.low s j)
          low_so s j lt small =
              low_steps P few R L3 low.forth.leave low.forth.turns low.back.leave low.back.turns low.enter low.receive low_plan.forth low_plan.enter low_plan.back low_plan.receive
              L0.requests (λ l z le zs. kept_low l z le) L2.replies took_low (λ l z h zs. behind_low l z h)
              (λ l z h le zs. low_now l z h (omega (arith, le)) zs) replies_now low_back.turns_so low_back.back_turns_so s j lt small

          comb_so : (s j : ℕ) → s < P.k → j < half P.k → comb_of P.k C3 s j (wait_of (buffers_in B3 s) (switch_label P.k s j)) (combined_of (buffers_in B3 s) (switch_label P.k s j))
              ≡ comb_after (comb_settings P s) (switch_traffic (moves P (states_of R)) P.k CombNet s j) (comb_of P.k R.comb s j (wait_of (buffers_in R.buffers s) (switch_label P.k s j)) (combined_of (buffers_in R.buffers s) (switch_label P.k s j)))
          comb_so s j lt small =
              comb_steps P few R C3 comb.forth.leave comb.forth.turns comb.back.leave comb.back.turns comb.enter comb.receive comb_plan.forth comb_plan.enter comb_plan.back comb_plan.receive
              C0.requests (λ l z le zs. kept_comb l z le) C2.replies took_comb (λ l z h zs. behind_comb l z h) R.buffers B1 B3 C1.requests crossed.switches combs.switches comb_now comb_back.turns_so comb_back.back_turns_so s j lt small

          -- a processor
          proc_so : (p : ℕ) → p < lines P.k → proc_of new p ≡ proc_after (proc_settings P p (proc_of R p).index) (proc_traffic (moves P (states_of R)) p) (proc_of R p)
          proc_so p within =
              let ps : p < 64 = small_line p within in
              proc_whole P R new row p within (leaves_forth P.k low.forth.leave low.enter 0 p) (leaves_forth P.k comb.forth.leave comb.enter 0 p) (got_at low_got p) (got_at comb_got p) (level_at L1.requests 0) (level_at C1.requests 0)
              (sends_it P R LowNet low.forth.leave low.forth.turns low.enter low.receive low_plan.forth low_plan.enter low_plan.receive p within)
              (sends_it P R CombNet comb.forth.leave comb.forth.turns comb.enter comb.receive comb_plan.forth comb_plan.enter comb_plan.receive p within)
              (receives_it P R LowNet low.forth.leave low.forth.turns low.enter low.receive low_plan.forth low_plan.enter low_plan.receive p within ∙ sym (low_gone.messages p ps ∙ ap (λ rs. if_leaves (has low.receive p) (queue_of rs 0 p)) low_only.replies))
              (receives_it P R CombNet comb.forth.leave comb.forth.turns comb.enter comb.receive comb_plan.forth comb_plan.enter comb_plan.receive p within ∙ sym (comb_gone.messages p ps ∙ ap (λ rs. if_leaves (has comb.receive p) (queue_of rs 0 p)) comb_only.replies))
              (low_left p ps) (comb_left p ps)
              (shown_now p ∙ acted.acts p within)

          -- a module
          module_so : (m : ℕ) → m < lines P.k → module_of new m ≡ module_after (depth_of P ModuleQueue) (module_traffic (moves P (states_of R)) P.k m) (module_of R m)
          module_so m within =
              let ms : m < 64 = small_line m within in
              let at : suc R.k ≡ suc P.k = ap suc of.size in
              module_whole P few R new of.size of.size served.low served.comb served.turn serves m within
              (if_leaves (has low.enter m) (queue_of R.low.requests P.k m)) (if_leaves (has comb.enter m) (queue_of R.comb.requests P.k m)) (leaves_back low.receive low.back.leave P.k m) (leaves_back comb.receive comb.back.leave P.k m)
              (reply_at low_answers m) (reply_at comb_answers m)
              (enters_it P few R LowNet low.forth.leave low.forth.turns low.back.leave low.back.turns low.enter low.receive low_plan.forth low_plan.enter low_plan.back low_plan.receive m within)
              (enters_it P few R CombNet comb.forth.leave comb.forth.turns comb.back.leave comb.back.turns comb.enter comb.receive comb_plan.forth comb_plan.enter comb_plan.back comb_plan.receive m within)
              (leaves_it P few R LowNet low.forth.leave low.forth.turns low.back.leave low.back.turns low.enter low.receive low_plan.forth low_plan.enter low_plan.back low_plan.receive m within)
              (leaves_it P few R CombNet comb.forth.leave comb.forth.turns comb.back.leave comb.back.turns comb.enter comb.receive comb_plan.forth comb_plan.enter comb_plan.back comb_plan.receive m within)
              (low_now (suc P.k) m (omega arith) (omega arith) ms ∙ low_end m ∙ ap (λ q. joined q (if_leaves (has low.enter m) (queue_of L0.requests P.k m))) (low_served m ms)
              ∙ ap (λ q. joined (without_head (has served.low m) (queue_of R.low.requests (suc P.k) m)) (if_leaves (has low.enter m) q)) (kept_low P.k m (omega arith)))
              (comb_now (suc P.k) m (omega arith) ms ∙ crossed.last m ms ∙ ap (λ q. joined q (if_leaves (has comb.enter m) (queue_of C0.requests P.k m))) (comb_served m ms)
              ∙ ap (λ q. joined (without_head (has served.comb m) (queue_of R.comb.requests (suc P.k) m)) (if_leaves (has comb.enter m) q)) (kept_comb P.k m (omega arith)))
              (ap (λ k. queue_of L3.replies k m) (sym of.size) ∙ low_back.last m ms ∙ ap (λ k. joined (left_back low.back.leave L2.replies k m) (cond (has served.low m) (Some (reply_at low_answers m)) None)) of.size
              ∙ ap (λ q. joined q (cond (has served.low m) (Some (reply_at low_answers m)) None)) (left_low P.k m ms))
              (comb_back.last m ms ∙ ap (λ q. joined q (cond (has served.comb m) (Some (reply_at comb_answers m)) None)) (left_comb P.k m ms))
              (both.stored m ms ∙ ap (λ k. words_after (words_after (words_of R.words m) (if_leaves (has served.low m) (queue_of R.low.requests k m))) (if_leaves (has served.comb m) (queue_of R.comb.requests k m))) at)
              (λ h. both.low_made m ms h ∙ ap (λ k. answer_to (words_of R.words m) (head (queue_of R.low.requests k m))) at)
              (λ h. both.comb_made m ms h ∙ ap (λ k. answer_to (words_after (words_of R.words m) (if_leaves (has served.low m) (queue_of R.low.requests k m))) (head (queue_of R.comb.requests k m))) at)
              refl refl
            where
              low_end : (m : ℕ) → forth_after (λ (r : Request). r.place.«module») P.k low.forth.leave low.enter L0.requests (suc P.k) m ≡ joined (queue_of L0.requests (suc P.k) m) (if_leaves (has low.enter m) (queue_of L0.requests P.k m))
              low_end m =
                  ap (λ t. cond t (joined (queue_of L0.requests (suc P.k) m) (if_leaves (has low.enter m) (queue_of L0.requests P.k m)))
                  (joined (joined (without_head (leaves_forth P.k low.forth.leave low.enter (suc P.k) m) (queue_of L0.requests (suc P.k) m)) (arrival (λ (r : Request). r.place.«module») (P.k - 1 - P.k) (has (slice_index_or low.forth.leave P.k 0)) L0.requests P.k 0 m))
                  (arrival (λ (r : Request). r.place.«module») (P.k - 1 - P.k) (has (slice_index_or low.forth.leave P.k 0)) L0.requests P.k 1 m))) (eq-eqb P.k P.k refl)

              low_served : (m : ℕ) → m < 64 → queue_of L0.requests (suc P.k) m ≡ without_head (has served.low m) (queue_of R.low.requests (suc P.k) m)
              low_served m small = subst (λ k. queue_of L0.requests (suc k) m ≡ without_head (has served.low m) (queue_of R.low.requests (suc k) m)) of.size (both.low_queues m small)

              comb_served : (m : ℕ) → m < 64 → queue_of C0.requests (suc P.k) m ≡ without_head (has served.comb m) (queue_of R.comb.requests (suc P.k) m)
              comb_served m small = subst (λ k. queue_of C0.requests (suc k) m ≡ without_head (has served.comb m) (queue_of R.comb.requests (suc k) m)) of.size (both.comb_queues m small)

              left_low : (l z : ℕ) → z < 64 → left_back low.back.leave L2.replies l z ≡ without_head (leaves_back low.receive low.back.leave l z) (queue_of R.low.replies l z)
              left_low zero z zs = took_low z zs
              left_low (suc l) z zs = ap (without_head (has (slice_index_or low.back.leave l 0) z)) (behind_low (suc l) z (omega arith))

              left_comb : (l z : ℕ) → z < 64 → left_back comb.back.leave C2.replies l z ≡ without_head (leaves_back comb.receive comb.back.leave l z) (queue_of R.comb.replies l z)
              left_comb zero z zs = took_comb z zs
              left_comb (suc l) z zs = ap (without_head (has (slice_index_or comb.back.leave l 0) z)) (behind_comb (suc l) z (omega arith))

          each_part : (c : Component) → Exists P.k c → state_of new (Some c) ≡ part_of P (moves P (states_of R)) (Some c) (state_of R (Some c))
          each_part (ProcAt p) h = ap Proc (proc_so p h)
          each_part (ModuleAt m) h = ap Module (module_so m h)
          each_part (Switch LowNet s j) h =
              ap (λ k. Low (low_of k L3 s j)) of.size ∙ ap Low (low_so s j h.0 h.1)
              ∙ ap (λ k. Low (low_after (P.k - 1 - s) (switch_traffic (moves P (states_of R)) P.k LowNet s j) (low_of k R.low s j))) (sym of.size)
          each_part (Switch CombNet s j) h =
              ap (λ k. Comb (comb_of k C3 s j (wait_of (buffers_in B3 s) (switch_label k s j)) (combined_of (buffers_in B3 s) (switch_label k s j)))) of.size ∙ ap Comb (comb_so s j h.0 h.1)
              ∙ ap (λ k. Comb (comb_after (comb_settings P s) (switch_traffic (moves P (states_of R)) P.k CombNet s j) (comb_of k R.comb s j (wait_of (buffers_in R.buffers s) (switch_label k s j)) (combined_of (buffers_in R.buffers s) (switch_label k s j))))) (sym of.size)

          pub new_states : states_of new ≡ cycle P (states_of R)
          new_states = cycle_is P R new of.size of.size each_part

          -- outside of where something moves, of marks that fall and of the processors that don't rest, all is as it was
          module _ (touched : Changed) (are : AreTouched R.k R served low comb touched) (set wrote : ℕ) (awake : IsSetOf (λ p. not (has rests p) || has touched.procs p) set) where
            abbrev changed : Changed
            changed = record touched { procs = set; wrote = wrote }

            here : AreTouched P.k R served low comb touched
            here = subst (λ k. AreTouched k R served low comb touched) of.size are

            proc_stays : (p : ℕ) → p < lines P.k → has set p ≡ false → proc_of new p ≡ proc_of R p
            proc_stays p within out =
                let small : p < 64 = small_line p within in
                let n = neither (not (has rests p)) (has touched.procs p) (sym (awake p small) ∙ out) in
                let m = neither (leaves_forth P.k low.forth.leave low.enter 0 p) (leaves_forth P.k comb.forth.leave comb.enter 0 p) (sym (here.procs p small) ∙ n.1) in
                shown_now p ∙ acted.stay p within (not_false (has rests p) n.0) ∙ unsent p small m.0 m.1

            module_same : (m : ℕ) → m < lines P.k → has touched.modules m ≡ false → module_of new m ≡ module_of R m
            module_same m within out =
                let serving = has R.served m || (has served.low m || has served.comb m) in
                let entering = has low.enter m || has comb.enter m in
                let leaving = leaves_back low.receive low.back.leave P.k m || leaves_back comb.receive comb.back.leave P.k m in
                let n = neither (serving || entering) leaving (sym (here.modules m (small_line m within)) ∙ out) in
                let i = neither serving entering n.0 in
                let a = neither (has R.served m) (has served.low m || has served.comb m) i.0 in
                let d = neither (has served.low m) (has served.comb m) a.1 in
                let e = neither (has low.enter m) (has comb.enter m) i.1 in
                let l = neither (leaves_back low.receive low.back.leave P.k m) (leaves_back comb.receive comb.back.leave P.k m) n.1 in
                module_so m within ∙ module_stays P few R low comb low_plan comb_plan served.low served.comb served.turn serves m within a.0 d.0 d.1 e.0 e.1 l.0 l.1

            abbrev M : List Move
            M = moves P (states_of R)

            low_quiet : (s j : ℕ) → s < P.k → j < half P.k → has (slice_index_or touched.low s 0) (switch_label P.k s j) ≡ false → switch_traffic M P.k LowNet s j ≡ quiet
            low_quiet s j lt small out = is_quiet P few R LowNet low low_plan s j lt small (sym (here.low_switches s lt (switch_label P.k s j) (own_small P few s j lt small)) ∙ out)

            abbrev own : ℕ → ℕ → ℕ
            own s j = switch_label P.k s j

            comb_none : (s j : ℕ) → s < P.k → j < half P.k → has (slice_index_or touched.comb s 0) (own s j) ≡ false → (crosses P.k comb s (own s j) ≡ false) × (has_combined (buffers_at R s) (own s j) ≡ false)
            comb_none s j lt small out = neither (crosses P.k comb s (own s j)) (has_combined (buffers_at R s) (own s j)) (sym (here.comb_switches s lt (own s j) (own_small P few s j lt small)) ∙ out)

            pub outside : SameOutside P.k changed R new
            outside (ProcAt p) h out = ap Proc (proc_stays p h out)
            outside (ModuleAt m) h out = ap Module (module_same m h out)
            outside (Switch LowNet s j) h out =
                each_part (Switch LowNet s j) h ∙ ap (λ t. Low (low_after (P.k - 1 - s) t (low_of R.k R.low s j))) (low_quiet s j h.0 h.1 out)
            outside (Switch CombNet s j) h out =
                let n = comb_none s j h.0 h.1 out in
                let none : combined_of (buffers_at R s) (switch_label R.k s j) ≡ 0 = ap (λ k. combined_of (buffers_at R s) (switch_label k s j)) of.size ∙ none_combined (buffers_at R s) (own s j) n.1 in
                each_part (Switch CombNet s j) h
                ∙ ap (λ t. Comb (comb_after (comb_settings P s) t (comb_of R.k R.comb s j (wait_of (buffers_at R s) (switch_label R.k s j)) (combined_of (buffers_at R s) (switch_label R.k s j)))))
                (is_quiet P few R CombNet comb comb_plan s j h.0 h.1 n.0)
                ∙ ap (λ c. Comb (comb_of R.k R.comb s j (wait_of (buffers_at R s) (switch_label R.k s j)) c)) (sym none)

            pub memory : Wrote wrote R.words W → TellsMemory P.k changed R new
            memory written = record { same = λ m within. written.same m (small_line m within); other = λ m within. written.other m (small_line m within) }

            pub still : none_changed changed ≡ true → states_of new ≡ states_of R
            still e = states_alike R new P.k of.size of.size (λ x h. outside x h (none_in P.k changed e x))
