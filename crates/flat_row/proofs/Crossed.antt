-- Messages that cross a stage of combining switches in the order of their labels.
use Rattle.std.proofs.Common.{◌≡◌, ℕ, zero, suc, ◌+◌, ◌-◌, ◌*◌, ◌^◌, ◌<◌, ◌≤◌, Bool, true, false, cond, List, [], ◌∷◌, length, get_or, refl, ap, sym, ◌∙◌, subst, inl, inr, Option, None, Some, arith}
use Rattle.std.specs.Prelude.{◌==◌, ◌&&◌, ◌||◌, IsSome, bit_or}
use Rattle.std.proofs.Math.ListN.{set, length-set}
use Rattle.std.proofs.lemmas.List.{get_or-set_same, get_or-set_other}
use Rattle.std.proofs.lemmas.Bool.{cases_lt, eqb-true, eq-eqb, lt-ltb}
use Rattle.std.proofs.lemmas.Nat.Bits.{bit_at-lt}
use Rattle.arrayvec.specs.ArrayVec.{ArrayVec}
use Rattle.omega_net.specs.declared.message.Request.{Request}
use Rattle.omega_net.specs.Wires.{bit}
use Rattle.omega_net.specs.Queues.{head, without_head}
use Rattle.omega_net.specs.Ports.{queue_at, empty}
use Rattle.comb_switch.specs.declared.state.CombState.{CombState}
use Rattle.comb_switch.specs.declared.settings.CombSettings.{CombSettings}
use Rattle.comb_switch.specs.CombSwitch.{youngest_for, combines, last_in, combined_in, meets, arrives}
use Rattle.flat_row.specs.Labels.{port}
use Rattle.flat_row.specs.Masks.{has, IsSetOf}
use Rattle.flat_row.specs.Queues.{Queues, with_queue}
use Rattle.flat_row.specs.Row.{Buffers, no_queues, level_at, queue_of, wait_of, combined_of}
use Rattle.flat_row.specs.Rows.{if_leaves}
use Rattle.flat_row.specs.Moving.{SameShape}
use Rattle.flat_row.specs.Combining.{core, at_ports, meeting, splitting, OnlyAt, SameLevel, Met, both_come, AllMet, CanCross}
use Rattle.flat_row.proofs.Masking.{same_first, same_second, has_or}
use Rattle.flat_row.proofs.Carrying.{false_true, own_port, port_again, port_bit, port_small, upto, upto_other, upto_here, upto_later, upto_none}
use Rattle.flat_row.proofs.Passing.{shape_twice, shape_same, shape_with, level_found, level_within}

-- what is seen of a switch is its own
abbrev pub IsLocal : {T : Type 0} → ℕ → ((ℕ → ArrayVec T) → Buffers → ℕ → CombState) → Type 0
IsLocal {T} b view = (q r : ℕ → ArrayVec T) (w v : Buffers) (x : ℕ) → q (port b 0 x) ≡ r (port b 0 x) → q (port b 1 x) ≡ r (port b 1 x)
    → wait_of w x ≡ wait_of v x → combined_of w x ≡ combined_of v x → view q w x ≡ view r v x

pub meeting_local : (b : ℕ) → IsLocal b (meeting b)
meeting_local b q r w v x e f g h =
    ap (λ p. core (p ∷ q (port b 1 x) ∷ []) (empty ∷ empty ∷ []) (wait_of w x) (combined_of w x)) e
    ∙ ap (λ p. core (r (port b 0 x) ∷ p ∷ []) (empty ∷ empty ∷ []) (wait_of w x) (combined_of w x)) f
    ∙ ap (λ p. core (at_ports b r x) (empty ∷ empty ∷ []) p (combined_of w x)) g
    ∙ ap (λ n. core (at_ports b r x) (empty ∷ empty ∷ []) (wait_of v x) n) h

pub splitting_local : (b : ℕ) → IsLocal b (splitting b)
splitting_local b q r w v x e f g h =
    ap (λ p. core (empty ∷ empty ∷ []) (p ∷ q (port b 1 x) ∷ []) (wait_of w x) (combined_of w x)) e
    ∙ ap (λ p. core (empty ∷ empty ∷ []) (r (port b 0 x) ∷ p ∷ []) (wait_of w x) (combined_of w x)) f
    ∙ ap (λ p. core (empty ∷ empty ∷ []) (at_ports b r x) p (combined_of w x)) g
    ∙ ap (λ n. core (empty ∷ empty ∷ []) (at_ports b r x) (wait_of v x) n) h

-- a head that leaves comes to its switch
module _ {T : Type 0} (view : (ℕ → ArrayVec T) → Buffers → ℕ → CombState) (effect : Option T → CombState → CombState) (b from to y : ℕ) (levels : List (Queues T)) (before taken behind last : Queues T) (m : T)
    (waits next : Buffers) (from_there : from < length levels) (to_there : to < length levels) (apart_levels : from ≡ to → ⊥)
    (q_is : before ≡ get_or levels from before) (p_is : behind ≡ get_or (set levels from taken) to behind) (there : y < length before.queues)
    (taken_so : taken ≡ with_queue before y (without_head true (queue_at before.queues y))) (shown : head (queue_at before.queues y) ≡ Some m) (same : SameLevel behind last)
    (x : ℕ) (is_switch : x ≡ port b 0 y) (met : view (queue_at last.queues) next x ≡ effect (Some m) (view (queue_at behind.queues) waits x)) (only : OnlyAt b x (queue_at behind.queues) (queue_at last.queues) waits next) where
  abbrev left_level : List (Queues T)
  left_level = set levels from taken

  abbrev come_level : List (Queues T)
  come_level = set left_level to last

  before_is : before ≡ level_at levels from
  before_is = level_found levels from before q_is from_there

  to_left : to < length left_level
  to_left = subst (λ n. to < n) (sym (length-set levels from taken)) to_there

  behind_left : behind ≡ level_at left_level to
  behind_left = level_found left_level to behind p_is to_left

  behind_is : behind ≡ level_at levels to
  behind_is = behind_left ∙ get_or-set_other levels from to taken no_queues (λ e. apart_levels (sym e))

  last_is : level_at come_level to ≡ last
  last_is = get_or-set_same left_level to last no_queues to_left

  from_is : level_at come_level from ≡ taken
  from_is = get_or-set_other left_level to from last no_queues apart_levels ∙ get_or-set_same levels from taken no_queues from_there

  head_is : head (queue_of levels from y) ≡ Some m
  head_is = sym (ap (λ v. head (queue_at v.queues y)) before_is) ∙ shown

  pub met_is : Met view effect b from to y levels come_level waits next
  met_is = record {
    shape = shape_twice levels left_level come_level
        (shape_with levels from taken from_there (ap (λ v. length v.queues) taken_so ∙ length-set before.queues y (without_head true (queue_at before.queues y)) ∙ ap (λ v. length v.queues) before_is) (ap (λ v. v.rule) taken_so ∙ ap (λ v. v.rule) before_is))
        (shape_with left_level to last to_left (same.many ∙ ap (λ v. length v.queues) behind_left) (same.rule ∙ ap (λ v. v.rule) behind_left));
    source = λ z. ap (λ v. queue_at v.queues z) from_is ∙ by_label z (z == y) refl;
    here = subst
        (λ n. view (queue_at (level_at come_level to).queues) next n ≡ effect (head (queue_of levels from y)) (view (queue_of levels to) waits n))
        is_switch
        (ap (λ v. view (queue_at v.queues) next x) last_is ∙ met ∙ ap (λ o. effect o (view (queue_at behind.queues) waits x)) (sym head_is) ∙ ap (λ v. effect (head (queue_of levels from y)) (view (queue_at v.queues) waits x)) behind_is);
    only = subst (λ n. OnlyAt b n (queue_of levels to) (queue_at (level_at come_level to).queues) waits next) is_switch (record {
      queues = λ z h ne. ap (λ v. queue_at v.queues z) last_is ∙ only.queues z h ne ∙ ap (λ v. queue_at v.queues z) behind_is;
      entries = only.entries;
      buffers = only.buffers;
      counts = only.counts;
    });
    rest = λ l z p q. ap (λ v. queue_at v.queues z) (get_or-set_other left_level to l last no_queues q ∙ get_or-set_other levels from l taken no_queues p);
  }
    where
      by_label : (z : ℕ) (t : Bool) → (z == y) ≡ t → queue_at taken.queues z ≡ cond (z == y) (without_head true (queue_of levels from z)) (queue_of levels from z)
      by_label z true e =
          let is : z ≡ y = eqb-true z y e in
          ap (queue_at taken.queues) is ∙ ap (λ v. queue_at v.queues y) taken_so ∙ get_or-set_same before.queues y (without_head true (queue_at before.queues y)) empty there
          ∙ ap (λ v. without_head true (queue_at v.queues y)) before_is
          ∙ ap (λ n. without_head true (queue_of levels from n)) (sym is)
          ∙ sym (ap (λ t. cond t (without_head true (queue_of levels from z)) (queue_of levels from z)) e)
      by_label z false e =
          ap (λ v. queue_at v.queues z) taken_so ∙ get_or-set_other before.queues y z (without_head true (queue_at before.queues y)) empty (λ is. false_true (sym e ∙ eq-eqb z y is))
          ∙ ap (λ v. queue_at v.queues z) before_is
          ∙ sym (ap (λ t. cond t (without_head true (queue_of levels from z)) (queue_of levels from z)) e)

-- the label of port 0 comes first
pub first_below : (b y : ℕ) → port b 0 y ≤ y
first_below b y = subst (λ n. port b 0 y ≤ n) (own_port b y) (rise (y - bit b y * 2 ^ b) (bit b y) (2 ^ b))
  where
    rise : (a i d : ℕ) → a + 0 * d ≤ a + i * d
    rise a zero d = omega arith
    rise a (suc i) d = omega arith

-- and that of port 1 last
second_above : (b y : ℕ) → y ≤ port b 1 y
second_above b y = subst (λ n. n ≤ port b 1 y) (own_port b y) (rise (y - bit b y * 2 ^ b) (bit b y) (2 ^ b) (bit_at-lt y b))
  where
    rise : (a i d : ℕ) → i < 2 → a + i * d ≤ a + 1 * d
    rise a zero d h = omega arith
    rise a (suc zero) d h = omega arith
    rise a (suc (suc i)) d h = absurd (omega (arith, h))

-- what a switch needs is there
module _ {T : Type 0} (b from to : ℕ) (levels : List (Queues T)) (waits : Buffers) (can : CanCross b from to levels waits) where
  pub still_can : (new : List (Queues T)) (next : Buffers) → SameShape levels new → length next.entries ≡ length waits.entries → CanCross b from to new next
  still_can new next shape entries = record {
    by = can.by;
    apart = can.apart;
    ports = λ x i h ih. subst (λ n. port b i x < n) (sym (shape.queues to)) (can.ports x i (subst (λ n. x < n) (shape.queues from) h) ih);
    entries = omega (arith, can.entries, shape.queues from, entries);
  }

  module _ (y : ℕ) (small : y < 64) (some : IsSome (head (queue_of levels from y))) where
    pub label_there : y < length (level_at levels from).queues
    label_there = level_within levels from y some

    pub ports_there : (i : ℕ) → i < 2 → port b i (port b 0 y) < length (level_at levels to).queues
    ports_there i ih = subst (λ p. p < length (level_at levels to).queues) (sym (port_again b y i 0 can.by small ih (omega arith))) (can.ports y i label_there ih)

    pub entry_there : port b 0 y < length waits.entries
    entry_there = omega (arith, label_there, can.entries, first_below b y)

-- a request combines at most once
pub arrives_count : (settings : CombSettings) (m : Option Request) (a : CombState) → (arrives settings m a).combined ≤ a.combined + 1
arrives_count settings None a = omega arith
arrives_count settings (Some r) a = by_found (youngest_for r.place (queue_at a.fwd (bit settings.bit r.place.«module»)).items)
  where
    by_found : (f : Option ℕ) → (meets settings r (bit settings.bit r.place.«module») f a).combined ≤ a.combined + 1
    by_found None = omega arith
    by_found (Some i) = by_test (combines settings a.wait (get_or (queue_at a.fwd (bit settings.bit r.place.«module»)).items i r) r)
      where
        by_test : (t : Bool)
            → (cond t (combined_in r (bit settings.bit r.place.«module») i (get_or (queue_at a.fwd (bit settings.bit r.place.«module»)).items i r) a) (last_in r (bit settings.bit r.place.«module») a)).combined ≤ a.combined + 1
        by_test true = omega arith
        by_test false = omega arith

-- the labels below n are through
pub record PartlyMet {T : Type 0} (view : (ℕ → ArrayVec T) → Buffers → ℕ → CombState) (effect : Option T → CombState → CombState) (b from to leave n : ℕ)
    (old now : List (Queues T)) (waits among : Buffers) : Type 0 where
  pub shape : SameShape old now
  pub entries : length among.entries ≡ length waits.entries
  pub source : (z : ℕ) → z < 64 → queue_of now from z ≡ without_head (upto leave n z) (queue_of old from z)
  pub switches : (x : ℕ) → x < 64 → bit b x ≡ 0 → view (queue_of now to) among x ≡ both_come effect b (upto leave n) (queue_of old from) x (view (queue_of old to) waits x)
  pub rest : (l z : ℕ) → (l ≡ from → ⊥) → (l ≡ to → ⊥) → queue_of now l z ≡ queue_of old l z

module _ {T : Type 0} (view : (ℕ → ArrayVec T) → Buffers → ℕ → CombState) (effect : Option T → CombState → CombState) (none : (a : CombState) → effect None a ≡ a)
    (b from to leave : ℕ) (few : b < 6) (mine : IsLocal b view) (old : List (Queues T)) (waits : Buffers) where
  -- what a switch is where these labels leave
  abbrev come : (ℕ → Bool) → ℕ → CombState
  come leaves x = both_come effect b leaves (queue_of old from) x (view (queue_of old to) waits x)

  come_alike : (f g : ℕ → Bool) (x : ℕ) → f (port b 0 x) ≡ g (port b 0 x) → f (port b 1 x) ≡ g (port b 1 x) → come f x ≡ come g x
  come_alike f g x p q =
      ap (λ t. effect (if_leaves (f (port b 1 x)) (queue_of old from (port b 1 x))) (effect (if_leaves t (queue_of old from (port b 0 x))) (view (queue_of old to) waits x))) p
      ∙ ap (λ t. effect (if_leaves t (queue_of old from (port b 1 x))) (effect (if_leaves (g (port b 0 x)) (queue_of old from (port b 0 x))) (view (queue_of old to) waits x))) q

  pub none_yet : PartlyMet view effect b from to leave 0 old old waits waits
  none_yet = record {
    shape = shape_same old;
    entries = refl;
    source = λ z zs. sym (ap (λ t. without_head t (queue_of old from z)) (upto_none leave z));
    switches = λ x xs e. sym (come_alike (upto leave 0) (λ y. false) x (upto_none leave (port b 0 x)) (upto_none leave (port b 1 x)) ∙ none (effect None (view (queue_of old to) waits x)) ∙ none (view (queue_of old to) waits x));
    rest = λ l z p q. refl;
  }

  module _ (now : List (Queues T)) (among : Buffers) (n : ℕ) (partly : PartlyMet view effect b from to leave n old now waits among) where
    -- at last
    pub all_met : ((y : ℕ) → n ≤ y → y < 64 → has leave y ≡ false) → AllMet view effect b from to leave old now waits among
    all_met out = record {
      shape = partly.shape;
      entries = partly.entries;
      source = λ z zs. partly.source z zs ∙ ap (λ t. without_head t (queue_of old from z)) (through z zs);
      switches = λ x xs e. partly.switches x xs e ∙ come_alike (upto leave n) (has leave) x (through (port b 0 x) (port_small b x 0 few xs (omega arith))) (through (port b 1 x) (port_small b x 1 few xs (omega arith)));
      rest = partly.rest;
    }
      where
        through : (z : ℕ) → z < 64 → upto leave n z ≡ has leave z
        through z zs = elim (cases_lt z n) [
          | inl h ↦ ap (λ t. t && has leave z) (lt-ltb z n h)
          | inr h ↦ upto_later leave n z h ∙ sym (out z h zs)
        ]

    -- one label more
    module _ (y : ℕ) (small : y < 64) (le : n ≤ y) (here : has leave y ≡ true) (out : (z : ℕ) → n ≤ z → z < y → has leave z ≡ false) where
      abbrev switch : ℕ
      switch = port b 0 y

      switch_small : switch < 64
      switch_small = port_small b y 0 few small (omega arith)

      switch_bit : bit b switch ≡ 0
      switch_bit = port_bit b y 0 few small (omega arith)

      second : port b 1 switch ≡ port b 1 y
      second = port_again b y 1 0 few small (omega arith) (omega arith)

      not_yet : upto leave n y ≡ false
      not_yet = upto_later leave n y le

      -- nothing has come to port 1 of its switch
      second_not_yet : upto leave n (port b 1 switch) ≡ false
      second_not_yet = ap (upto leave n) second ∙ upto_later leave n (port b 1 y) (omega (arith, le, second_above b y))

      -- it is still there
      pub still_there : queue_of now from y ≡ queue_of old from y
      still_there = partly.source y small ∙ ap (λ t. without_head t (queue_of old from y)) not_yet

      pub some_there : ((z : ℕ) → z < 64 → has leave z ≡ true → IsSome (head (queue_of old from z))) → IsSome (head (queue_of now from y))
      some_there some = subst (λ q. IsSome (head q)) (sym still_there) (some y small here)

      -- its switch, where at most what is at port 0 has come
      pub one_at_most : view (queue_of now to) among switch ≡ effect (if_leaves (upto leave n (port b 0 switch)) (queue_of old from (port b 0 switch))) (view (queue_of old to) waits switch)
      one_at_most =
          let a = effect (if_leaves (upto leave n (port b 0 switch)) (queue_of old from (port b 0 switch))) (view (queue_of old to) waits switch) in
          partly.switches switch switch_small switch_bit ∙ ap (λ t. effect (if_leaves t (queue_of old from (port b 1 switch))) a) second_not_yet ∙ none a

      module _ (new : List (Queues T)) (next : Buffers) (met : Met view effect b from to y now new among next) where
        others_same : (z : ℕ) → (z ≡ y → ⊥) → upto leave n z ≡ upto leave (y + 1) z
        others_same z ne = sym (upto_other leave n y z le out ne)

        -- its switch
        switch_so : view (queue_of new to) next switch ≡ come (upto leave (y + 1)) switch
        switch_so = met.here ∙ ap (λ q. effect (head q) (view (queue_of now to) among switch)) still_there ∙ ap (effect (head (queue_of old from y))) one_at_most ∙ by_bit (bit b y) refl (bit_at-lt y b)
          where
            a : ℕ → ArrayVec T
            a = queue_of old from

            w : CombState
            w = view (queue_of old to) waits switch

            p0 : port b 0 switch ≡ switch
            p0 = same_first b switch switch_bit

            not_one : (p q : ℕ) → p ≡ 0 → q ≡ 1 → p ≡ q → ⊥
            not_one p q e f g = omega (arith, e, f, g)

            by_bit : (i : ℕ) → bit b y ≡ i → i < 2 → effect (head (a y)) (effect (if_leaves (upto leave n (port b 0 switch)) (a (port b 0 switch))) w) ≡ come (upto leave (y + 1)) switch
            by_bit zero e h =
                let is : port b 0 switch ≡ y = p0 ∙ same_first b y e in
                let other : port b 1 switch ≡ y → ⊥ = (λ g. not_one (bit b y) (bit b (port b 1 switch)) e (port_bit b switch 1 few switch_small (omega arith)) (ap (bit b) (sym g))) in
                ap (λ t. effect (head (a y)) (effect (if_leaves t (a (port b 0 switch))) w)) (ap (upto leave n) is ∙ not_yet)
                ∙ ap (effect (head (a y))) (none w)
                ∙ ap (λ z. effect (head (a z)) w) (sym is)
                ∙ ap (λ t. effect (if_leaves t (a (port b 0 switch))) w) (sym (ap (upto leave (y + 1)) is ∙ upto_here leave y here))
                ∙ sym (none (effect (if_leaves (upto leave (y + 1) (port b 0 switch)) (a (port b 0 switch))) w))
                ∙ ap (λ t. effect (if_leaves t (a (port b 1 switch))) (effect (if_leaves (upto leave (y + 1) (port b 0 switch)) (a (port b 0 switch))) w)) (sym second_not_yet ∙ others_same (port b 1 switch) other)
            by_bit (suc zero) e h =
                let is : port b 1 switch ≡ y = second ∙ same_second b y e in
                let other : port b 0 switch ≡ y → ⊥ = (λ g. not_one (bit b (port b 0 switch)) (bit b y) (port_bit b switch 0 few switch_small (omega arith)) e (ap (bit b) g)) in
                ap (λ t. effect (head (a y)) (effect (if_leaves t (a (port b 0 switch))) w)) (others_same (port b 0 switch) other)
                ∙ ap (λ z. effect (head (a z)) (effect (if_leaves (upto leave (y + 1) (port b 0 switch)) (a (port b 0 switch))) w)) (sym is)
                ∙ ap (λ t. effect (if_leaves t (a (port b 1 switch))) (effect (if_leaves (upto leave (y + 1) (port b 0 switch)) (a (port b 0 switch))) w)) (sym (ap (upto leave (y + 1)) is ∙ upto_here leave y here))
            by_bit (suc (suc i)) e h = absurd (omega (arith, h))

        -- another switch is as it was
        other_so : (x : ℕ) → x < 64 → bit b x ≡ 0 → (x ≡ switch → ⊥) → view (queue_of new to) next x ≡ come (upto leave (y + 1)) x
        other_so x xs e ne =
            mine (queue_of new to) (queue_of now to) next among x (alike 0 (omega arith)) (alike 1 (omega arith)) (met.only.buffers x ne) (met.only.counts x xs ne)
            ∙ partly.switches x xs e
            ∙ come_alike (upto leave n) (upto leave (y + 1)) x (others_same (port b 0 x) (no_port 0 (omega arith))) (others_same (port b 1 x) (no_port 1 (omega arith)))
          where
            no_switch : (i : ℕ) → i < 2 → port b 0 (port b i x) ≡ switch → ⊥
            no_switch i h g = ne (sym (same_first b x e) ∙ sym (port_again b x 0 i few xs (omega arith) h) ∙ g)

            no_port : (i : ℕ) → i < 2 → port b i x ≡ y → ⊥
            no_port i h g = no_switch i h (ap (port b 0) g)

            alike : (i : ℕ) → i < 2 → queue_of new to (port b i x) ≡ queue_of now to (port b i x)
            alike i h = met.only.queues (port b i x) (port_small b x i few xs h) (no_switch i h)

        pub one_met : PartlyMet view effect b from to leave (y + 1) old new waits next
        one_met = record {
          shape = shape_twice old now new partly.shape met.shape;
          entries = met.only.entries ∙ partly.entries;
          source = λ z zs. met.source z ∙ gone z zs (z == y) refl;
          switches = λ x xs e. by_test x xs e (x == switch) refl;
          rest = λ l z p q. met.rest l z p q ∙ partly.rest l z p q;
        }
          where
            gone : (z : ℕ) → z < 64 → (t : Bool) → (z == y) ≡ t → cond (z == y) (without_head true (queue_of now from z)) (queue_of now from z) ≡ without_head (upto leave (y + 1) z) (queue_of old from z)
            gone z zs true e =
                let is : z ≡ y = eqb-true z y e in
                ap (λ t. cond t (without_head true (queue_of now from z)) (queue_of now from z)) e
                ∙ ap (without_head true) (ap (queue_of now from) is ∙ still_there ∙ ap (queue_of old from) (sym is))
                ∙ sym (ap (λ t. without_head t (queue_of old from z)) (ap (upto leave (y + 1)) is ∙ upto_here leave y here))
            gone z zs false e =
                ap (λ t. cond t (without_head true (queue_of now from z)) (queue_of now from z)) e
                ∙ partly.source z zs
                ∙ ap (λ t. without_head t (queue_of old from z)) (others_same z (λ is. false_true (sym e ∙ eq-eqb z y is)))

            by_test : (x : ℕ) → x < 64 → bit b x ≡ 0 → (t : Bool) → (x == switch) ≡ t → view (queue_of new to) next x ≡ come (upto leave (y + 1)) x
            by_test x xs e true g =
                let is : x ≡ switch = eqb-true x switch g in
                ap (view (queue_of new to) next) is ∙ switch_so ∙ ap (come (upto leave (y + 1))) (sym is)
            by_test x xs e false g = other_so x xs e (λ is. false_true (sym g ∙ eq-eqb x switch is))

-- a switch to which something comes has not combined two in this cycle
pub few_yet : (settings : CombSettings) (b from to leave : ℕ) (few : b < 6) (old : List (Queues Request)) (waits : Buffers) (now : List (Queues Request)) (among : Buffers) (n : ℕ)
    → PartlyMet (meeting b) (arrives settings) b from to leave n old now waits among → ((x : ℕ) → combined_of waits x ≡ 0)
    → (y : ℕ) → y < 64 → n ≤ y → has leave y ≡ true → ((z : ℕ) → n ≤ z → z < y → has leave z ≡ false) → combined_of among (port b 0 y) < 2
few_yet settings b from to leave few old waits now among n partly none y small le here out =
    let x = port b 0 y in
    let m = if_leaves (upto leave n (port b 0 x)) (queue_of old from (port b 0 x)) in
    let is : combined_of among x ≡ (arrives settings m (meeting b (queue_of old to) waits x)).combined =
    ap (λ s. s.combined) (one_at_most (meeting b) (arrives settings) (λ a. refl) b from to leave few (meeting_local b) old waits now among n partly y small le here out) in
    omega (arith, is, arrives_count settings m (meeting b (queue_of old to) waits x), none x)

-- the switches to which something comes
pub senders_are : (b leave first second : ℕ) → IsSetOf (λ x. (bit b x == 0) && has leave x) first → IsSetOf (λ x. (bit b x == 0) && has leave (port b 1 x)) second
    → IsSetOf (λ x. (bit b x == 0) && (has leave x || has leave (port b 1 x))) (bit_or first second)
senders_are b leave first second p q x small =
    has_or first second x ∙ ap (λ t. t || has second x) (p x small) ∙ ap (λ t. ((bit b x == 0) && has leave x) || t) (q x small)
    ∙ by_test (bit b x == 0) (has leave x) (has leave (port b 1 x))
  where
    by_test : (u v w : Bool) → ((u && v) || (u && w)) ≡ (u && (v || w))
    by_test true v w = refl
    by_test false v w = refl
