-- Messages that cross the stages of the combining network one after another.
use Rattle.std.proofs.Common.{◌≡◌, ℕ, suc, ◌+◌, ◌-◌, ◌<◌, ◌≤◌, Bool, true, false, cond, List, [], length, get_or, refl, ap, sym, ◌∙◌, subst, ◌⊎◌, inl, inr, Option, arith}
use Rattle.std.specs.Prelude.{◌==◌, IsSome, slice_index_or}
use Rattle.std.proofs.Math.ListN.{set, length-set}
use Rattle.std.proofs.lemmas.List.{get_or-set_same, get_or-set_other, get_or_default}
use Rattle.std.proofs.lemmas.Nat.Bits.{bit_at-zero}
use Rattle.std.proofs.lemmas.Bool.{cases_lt, eqb-true, eq-eqb, ne_eqb}
use Rattle.arrayvec.specs.ArrayVec.{ArrayVec}
use Rattle.omega_net.specs.declared.message.Request.{Request}
use Rattle.omega_net.specs.declared.message.Reply.{Reply}
use Rattle.omega_net.specs.Numbers.{lines}
use Rattle.omega_net.specs.Wires.{bit}
use Rattle.omega_net.specs.Queues.{head, without_head, joined}
use Rattle.comb_switch.specs.declared.state.CombState.{CombState}
use Rattle.comb_switch.specs.declared.settings.CombSettings.{CombSettings}
use Rattle.comb_switch.specs.CombSwitch.{arrives, returns_to}
use Rattle.machine_cells.specs.Cycle.{comb_settings}
use Rattle.project_book.specs.Project.{Project}
use Rattle.flat_row.specs.Labels.{port}
use Rattle.flat_row.specs.Masks.{has}
use Rattle.flat_row.specs.Queues.{Queues}
use Rattle.flat_row.specs.Row.{Buffers, HasLevels, queue_of, wait_of, combined_of}
use Rattle.flat_row.specs.Rows.{if_leaves}
use Rattle.flat_row.specs.Moving.{SameShape, AllWait, AllWaitBack, moved_straight, leaves_forth, left_back}
use Rattle.flat_row.specs.Combining.{meeting, splitting, cleared, both_come, AllMet, CanCross}
use Rattle.flat_row.specs.Stages.{buffers_in, SameBuffers, HasBuffers, CombForth, CombBack, met_at, returned_at}
use Rattle.flat_row.proofs.Carrying.{port_small}
use Rattle.flat_row.proofs.Staying.{port_stays}
use Rattle.flat_row.proofs.Passing.{shape_twice, shape_same}
use Rattle.flat_row.proofs.Crossed.{meeting_local, splitting_local}

pub same_buffers : (w : List Buffers) → SameBuffers w w
same_buffers w = record { many = refl; entries = λ s. refl }

pub buffers_twice : (a b c : List Buffers) → SameBuffers a b → SameBuffers b c → SameBuffers a c
buffers_twice a b c p q = record { many = q.many ∙ p.many; entries = λ s. q.entries s ∙ p.entries s }

-- what comes to a switch, by the queues that it comes from and by what it was
module _ {T : Type 0} (effect : Option T → CombState → CombState) (b : ℕ) (leaves : ℕ → Bool) where
  pub both_alike : (q r : ℕ → ArrayVec T) (x : ℕ) (a c : CombState) → q (port b 0 x) ≡ r (port b 0 x) → q (port b 1 x) ≡ r (port b 1 x) → a ≡ c → both_come effect b leaves q x a ≡ both_come effect b leaves r x c
  both_alike q r x a c e f g =
      ap (λ p. effect (if_leaves (leaves (port b 1 x)) p) (effect (if_leaves (leaves (port b 0 x)) (q (port b 0 x))) a)) f
      ∙ ap (λ p. effect (if_leaves (leaves (port b 1 x)) (r (port b 1 x))) (effect (if_leaves (leaves (port b 0 x)) p) a)) e
      ∙ ap (both_come effect b leaves r x) g

-- the stages from s on are crossed, and what leaves the level before them has left
pub record PartlyForth (P : Project) (forth : List ℕ) (enter s : ℕ) (old now : List (Queues Request)) (waits among : List Buffers) : Type 0 where
  pub shape : SameShape old now
  pub buffers : SameBuffers waits among
  pub before : (l z : ℕ) → l < s → z < 64 → queue_of now l z ≡ queue_of old l z
  pub still : (t : ℕ) → t < s → buffers_in among t ≡ buffers_in waits t
  pub here : (z : ℕ) → z < 64 → queue_of now s z ≡ without_head (leaves_forth P.k forth enter s z) (queue_of old s z)
  pub last : (z : ℕ) → z < 64 → queue_of now (suc P.k) z ≡ joined (queue_of old (suc P.k) z) (if_leaves (has enter z) (queue_of old P.k z))
  pub switches : (t x : ℕ) → s ≤ t → t < P.k → x < 64 → bit (P.k - 1 - t) x ≡ 0 → meeting (P.k - 1 - t) (queue_of now (suc t)) (buffers_in among t) x ≡ met_at P forth enter old waits t x

module _ (P : Project) (few : P.k ≤ 6) (forth : List ℕ) (enter : ℕ) (old : List (Queues Request)) (waits : List Buffers) where
  leave_at_end : (z : ℕ) → leaves_forth P.k forth enter P.k z ≡ has enter z
  leave_at_end z = ap (λ t. cond t (has enter z) (has (slice_index_or forth P.k 0) z)) (eq-eqb P.k P.k refl)

  leave_at_stage : (s z : ℕ) → s < P.k → leaves_forth P.k forth enter s z ≡ has (slice_index_or forth s 0) z
  leave_at_stage s z lt = ap (λ t. cond t (has enter z) (has (slice_index_or forth s 0) z)) (ne_eqb s P.k (λ e. omega (arith, e, lt)))

  pub enter_some : AllWait P.k forth enter old → (x : ℕ) → x < 64 → has enter x ≡ true → IsSome (head (queue_of old P.k x))
  enter_some all x small has_it = all P.k x (omega arith) small (leave_at_end x ∙ has_it)

  -- requests have entered modules
  pub entered_so : (now : List (Queues Request)) → SameShape old now → ((l z : ℕ) → z < 64 → queue_of now l z ≡ moved_straight (has enter) P.k (P.k + 1) old l z)
      → PartlyForth P forth enter P.k old now waits waits
  entered_so now shape gone = record {
    shape = shape;
    buffers = same_buffers waits;
    before = λ l z lt small.
        gone l z small
        ∙ ap (λ t. cond t (without_head (has enter z) (queue_of old P.k z)) (cond (l == P.k + 1) (joined (queue_of old (P.k + 1) z) (if_leaves (has enter z) (queue_of old P.k z))) (queue_of old l z))) (ne_eqb l P.k (λ e. omega (arith, e, lt)))
        ∙ ap (λ t. cond t (joined (queue_of old (P.k + 1) z) (if_leaves (has enter z) (queue_of old P.k z))) (queue_of old l z)) (ne_eqb l (P.k + 1) (λ e. omega (arith, e, lt)));
    still = λ t lt. refl;
    here = λ z small.
        gone P.k z small
        ∙ ap (λ t. cond t (without_head (has enter z) (queue_of old P.k z)) (cond (P.k == P.k + 1) (joined (queue_of old (P.k + 1) z) (if_leaves (has enter z) (queue_of old P.k z))) (queue_of old P.k z))) (eq-eqb P.k P.k refl)
        ∙ ap (λ t. without_head t (queue_of old P.k z)) (sym (leave_at_end z));
    last = λ z small.
        let e : P.k + 1 ≡ suc P.k = omega arith in
        gone (suc P.k) z small
        ∙ ap (λ t. cond t (without_head (has enter z) (queue_of old P.k z)) (cond (suc P.k == P.k + 1) (joined (queue_of old (P.k + 1) z) (if_leaves (has enter z) (queue_of old P.k z))) (queue_of old (suc P.k) z))) (ne_eqb (suc P.k) P.k (λ e. omega (arith, e)))
        ∙ ap (λ t. cond t (joined (queue_of old (P.k + 1) z) (if_leaves (has enter z) (queue_of old P.k z))) (queue_of old (suc P.k) z)) (eq-eqb (suc P.k) (P.k + 1) (sym e))
        ∙ ap (λ l. joined (queue_of old l z) (if_leaves (has enter z) (queue_of old P.k z))) e;
    switches = λ t x le lt small first. absurd (omega (arith, le, lt));
  }

  -- one stage more
  module _ (s : ℕ) (lt : s < P.k) (now : List (Queues Request)) (among : List Buffers) (partly : PartlyForth P forth enter (suc s) old now waits among) where
    pub stage_some : AllWait P.k forth enter old → (y : ℕ) → y < 64 → has (slice_index_or forth s 0) y ≡ true → IsSome (head (queue_of now s y))
    stage_some all y small has_it = subst (λ q. IsSome (head q)) (sym (partly.before s y (omega arith) small)) (all s y (omega (arith, lt)) small (leave_at_stage s y lt ∙ has_it))

    module _ (new : List (Queues Request)) (next : List Buffers)
        (met : AllMet (meeting (P.k - 1 - s)) (arrives (comb_settings P s)) (P.k - 1 - s) s (s + 1) (slice_index_or forth s 0) now new (cleared (buffers_in among s)) (buffers_in next s))
        (same : SameBuffers among next) (others : (t : ℕ) → (t ≡ s → ⊥) → buffers_in next t ≡ buffers_in among t) where
      abbrev b : ℕ
      b = P.k - 1 - s

      plus : s + 1 ≡ suc s
      plus = omega arith

      by_small : b < 6
      by_small = omega (arith, few, lt)

      own : (x : ℕ) → x < 64 → bit b x ≡ 0 → meeting b (queue_of new (suc s)) (buffers_in next s) x ≡ met_at P forth enter old waits s x
      own x small first =
          ap (λ l. meeting b (queue_of new l) (buffers_in next s) x) (sym plus)
          ∙ met.switches x small first
          ∙ both_alike (arrives (comb_settings P s)) b (has (slice_index_or forth s 0)) (queue_of now s) (queue_of old s) x
          (meeting b (queue_of now (s + 1)) (cleared (buffers_in among s)) x)
          (meeting b (λ z. without_head (leaves_forth P.k forth enter (suc s) z) (queue_of old (suc s) z)) (cleared (buffers_in waits s)) x)
          (partly.before s (port b 0 x) (omega arith) (port_small b x 0 by_small small (omega arith)))
          (partly.before s (port b 1 x) (omega arith) (port_small b x 1 by_small small (omega arith)))
          (ap (λ l. meeting b (queue_of now l) (cleared (buffers_in among s)) x) plus
          ∙ ap (λ w. meeting b (queue_of now (suc s)) (cleared w) x) (partly.still s (omega arith))
          ∙ meeting_local b (queue_of now (suc s)) (λ z. without_head (leaves_forth P.k forth enter (suc s) z) (queue_of old (suc s) z)) (cleared (buffers_in waits s)) (cleared (buffers_in waits s)) x
          (partly.here (port b 0 x) (port_small b x 0 by_small small (omega arith))) (partly.here (port b 1 x) (port_small b x 1 by_small small (omega arith))) refl refl)

      later : (t x : ℕ) → suc s ≤ t → t < P.k → x < 64 → bit (P.k - 1 - t) x ≡ 0 → meeting (P.k - 1 - t) (queue_of new (suc t)) (buffers_in next t) x ≡ met_at P forth enter old waits t x
      later t x le lt' small first =
          let rest : (z : ℕ) → queue_of new (suc t) z ≡ queue_of now (suc t) z = (λ z. met.rest (suc t) z (λ e. omega (arith, e, le)) (λ e. omega (arith, e, le))) in
          let kept : buffers_in next t ≡ buffers_in among t = others t (λ e. omega (arith, e, le)) in
          meeting_local (P.k - 1 - t) (queue_of new (suc t)) (queue_of now (suc t)) (buffers_in next t) (buffers_in among t) x (rest (port (P.k - 1 - t) 0 x)) (rest (port (P.k - 1 - t) 1 x))
          (ap (λ w. wait_of w x) kept) (ap (λ w. combined_of w x) kept)
          ∙ partly.switches t x le lt' small first

      pub stage_more : PartlyForth P forth enter s old new waits next
      stage_more = record {
        shape = shape_twice old now new partly.shape met.shape;
        buffers = buffers_twice waits among next partly.buffers same;
        before = λ l z h small. met.rest l z (λ e. omega (arith, e, h)) (λ e. omega (arith, e, h)) ∙ partly.before l z (omega (arith, h)) small;
        still = λ t h. others t (λ e. omega (arith, e, h)) ∙ partly.still t (omega (arith, h));
        here = λ z small. met.source z small ∙ ap (without_head (has (slice_index_or forth s 0) z)) (partly.before s z (omega arith) small) ∙ ap (λ t. without_head t (queue_of old s z)) (sym (leave_at_stage s z lt));
        last = λ z small. met.rest (suc P.k) z (λ e. omega (arith, e, lt)) (λ e. omega (arith, e, lt)) ∙ partly.last z small;
        switches = λ t x le lt' small first. by_stage t x le lt' small first (t == s) refl;
      }
        where
          not_both : false ≡ true → ⊥
          not_both e = cc

          by_stage : (t x : ℕ) → s ≤ t → t < P.k → x < 64 → bit (P.k - 1 - t) x ≡ 0 → (r : Bool) → (t == s) ≡ r → meeting (P.k - 1 - t) (queue_of new (suc t)) (buffers_in next t) x ≡ met_at P forth enter old waits t x
          by_stage t x le lt' small first true e =
              let is : t ≡ s = eqb-true t s e in
              ap (λ n. meeting (P.k - 1 - n) (queue_of new (suc n)) (buffers_in next n) x) is
              ∙ own x small (subst (λ n. bit (P.k - 1 - n) x ≡ 0) is first)
              ∙ ap (λ n. met_at P forth enter old waits n x) (sym is)
          by_stage t x le lt' small first false e = later t x (past (cases_lt s t)) lt' small first
            where
              past : (s < t) ⊎ (t ≤ s) → suc s ≤ t
              past (inl h) = omega (arith, h)
              past (inr h) = absurd (not_both (sym e ∙ eq-eqb t s (omega (arith, h, le))))

  -- by how many stages are done
  module _ (done s : ℕ) (lt : done < P.k) (is : s ≡ P.k - 1 - done) where
    pub stage_small : s < P.k
    stage_small = omega (arith, is, lt)

    pub from_done : (now : List (Queues Request)) (among : List Buffers) → PartlyForth P forth enter (P.k - done) old now waits among → PartlyForth P forth enter (suc s) old now waits among
    from_done now among p = let e : P.k - done ≡ suc s = omega (arith, is, lt) in subst (λ n. PartlyForth P forth enter n old now waits among) e p

    pub to_done : (now : List (Queues Request)) (among : List Buffers) → PartlyForth P forth enter s old now waits among → PartlyForth P forth enter (P.k - (done + 1)) old now waits among
    to_done now among p = let e : s ≡ P.k - (done + 1) = omega (arith, is, lt) in subst (λ n. PartlyForth P forth enter n old now waits among) e p

  -- all stages
  pub all_forth_met : (now : List (Queues Request)) (among : List Buffers) → PartlyForth P forth enter 0 old now waits among → CombForth P forth enter old now waits among
  all_forth_met now among p = record {
    shape = p.shape;
    buffers = p.buffers;
    first = p.here;
    last = p.last;
    switches = λ s x lt small first. p.switches s x (omega arith) lt small first;
  }

-- the stages before s are crossed back, and what leaves the level behind them has left
pub record PartlyBack (P : Project) (back : List ℕ) (s : ℕ) (old now : List (Queues Reply)) (waits among : List Buffers) : Type 0 where
  pub shape : SameShape old now
  pub buffers : SameBuffers waits among
  pub behind : (l z : ℕ) → s < l → z < 64 → queue_of now l z ≡ queue_of old l z
  pub still : (t : ℕ) → s ≤ t → buffers_in among t ≡ buffers_in waits t
  pub here : (z : ℕ) → z < 64 → queue_of now s z ≡ left_back back old s z
  pub switches : (t x : ℕ) → t < s → t < P.k → x < 64 → bit (P.k - 1 - t) x ≡ 0 → splitting (P.k - 1 - t) (queue_of now t) (buffers_in among t) x ≡ returned_at P back old waits t x

module _ (P : Project) (few : P.k ≤ 6) (back : List ℕ) (old : List (Queues Reply)) (waits : List Buffers) where
  pub none_back_yet : PartlyBack P back 0 old old waits waits
  none_back_yet = record {
    shape = shape_same old;
    buffers = same_buffers waits;
    behind = λ l z h small. refl;
    still = λ t h. refl;
    here = λ z small. refl;
    switches = λ t x h lt small first. absurd (omega arith);
  }

  module _ (s : ℕ) (lt : s < P.k) (now : List (Queues Reply)) (among : List Buffers) (partly : PartlyBack P back s old now waits among) where
    plus_back : s + 1 ≡ suc s
    plus_back = omega arith

    pub back_some : AllWaitBack P.k back old → (y : ℕ) → y < 64 → has (slice_index_or back s 0) y ≡ true → IsSome (head (queue_of now (s + 1) y))
    back_some all y small has_it = subst (λ q. IsSome (head q)) (sym (ap (λ l. queue_of now l y) plus_back ∙ partly.behind (suc s) y (omega arith) small)) (all s y lt small has_it)

    module _ (new : List (Queues Reply)) (next : List Buffers)
        (met : AllMet (splitting (P.k - 1 - s)) (returns_to (comb_settings P s)) (P.k - 1 - s) (s + 1) s (slice_index_or back s 0) now new (buffers_in among s) (buffers_in next s))
        (same : SameBuffers among next) (others : (t : ℕ) → (t ≡ s → ⊥) → buffers_in next t ≡ buffers_in among t) where
      abbrev c : ℕ
      c = P.k - 1 - s

      by_small_back : c < 6
      by_small_back = omega (arith, few, lt)

      behind_it : (z : ℕ) → z < 64 → queue_of now (s + 1) z ≡ queue_of old (suc s) z
      behind_it z small = ap (λ l. queue_of now l z) plus_back ∙ partly.behind (suc s) z (omega arith) small

      own_back : (x : ℕ) → x < 64 → bit c x ≡ 0 → splitting c (queue_of new s) (buffers_in next s) x ≡ returned_at P back old waits s x
      own_back x small first =
          met.switches x small first
          ∙ both_alike (returns_to (comb_settings P s)) c (has (slice_index_or back s 0)) (queue_of now (s + 1)) (queue_of old (suc s)) x
          (splitting c (queue_of now s) (buffers_in among s) x) (splitting c (left_back back old s) (buffers_in waits s) x)
          (behind_it (port c 0 x) (port_small c x 0 by_small_back small (omega arith)))
          (behind_it (port c 1 x) (port_small c x 1 by_small_back small (omega arith)))
          (ap (λ w. splitting c (queue_of now s) w x) (partly.still s (omega arith))
          ∙ splitting_local c (queue_of now s) (left_back back old s) (buffers_in waits s) (buffers_in waits s) x
          (partly.here (port c 0 x) (port_small c x 0 by_small_back small (omega arith))) (partly.here (port c 1 x) (port_small c x 1 by_small_back small (omega arith))) refl refl)

      earlier : (t x : ℕ) → t < s → t < P.k → x < 64 → bit (P.k - 1 - t) x ≡ 0 → splitting (P.k - 1 - t) (queue_of new t) (buffers_in next t) x ≡ returned_at P back old waits t x
      earlier t x h lt' small first =
          let rest : (z : ℕ) → queue_of new t z ≡ queue_of now t z = (λ z. met.rest t z (λ e. omega (arith, e, h)) (λ e. omega (arith, e, h))) in
          let kept : buffers_in next t ≡ buffers_in among t = others t (λ e. omega (arith, e, h)) in
          splitting_local (P.k - 1 - t) (queue_of new t) (queue_of now t) (buffers_in next t) (buffers_in among t) x (rest (port (P.k - 1 - t) 0 x)) (rest (port (P.k - 1 - t) 1 x))
          (ap (λ w. wait_of w x) kept) (ap (λ w. combined_of w x) kept)
          ∙ partly.switches t x h lt' small first

      pub back_stage_more : PartlyBack P back (s + 1) old new waits next
      back_stage_more = record {
        shape = shape_twice old now new partly.shape met.shape;
        buffers = buffers_twice waits among next partly.buffers same;
        behind = λ l z h small. met.rest l z (λ e. omega (arith, e, h)) (λ e. omega (arith, e, h)) ∙ partly.behind l z (omega (arith, h)) small;
        still = λ t h. others t (λ e. omega (arith, e, h)) ∙ partly.still t (omega (arith, h));
        here = λ z small. met.source z small ∙ ap (without_head (has (slice_index_or back s 0) z)) (behind_it z small) ∙ ap (λ l. left_back back old l z) (sym plus_back);
        switches = λ t x h lt' small first. by_stage t x h lt' small first (t == s) refl;
      }
        where
          not_both : false ≡ true → ⊥
          not_both e = cc

          by_stage : (t x : ℕ) → t < s + 1 → t < P.k → x < 64 → bit (P.k - 1 - t) x ≡ 0 → (r : Bool) → (t == s) ≡ r → splitting (P.k - 1 - t) (queue_of new t) (buffers_in next t) x ≡ returned_at P back old waits t x
          by_stage t x h lt' small first true e =
              let is : t ≡ s = eqb-true t s e in
              ap (λ n. splitting (P.k - 1 - n) (queue_of new n) (buffers_in next n) x) is
              ∙ own_back x small (subst (λ n. bit (P.k - 1 - n) x ≡ 0) is first)
              ∙ ap (λ n. returned_at P back old waits n x) (sym is)
          by_stage t x h lt' small first false e = earlier t x (before (cases_lt t s)) lt' small first
            where
              before : (t < s) ⊎ (s ≤ t) → t < s
              before (inl g) = g
              before (inr g) = absurd (not_both (sym e ∙ eq-eqb t s (omega (arith, g, h))))

  pub all_back_met : (now : List (Queues Reply)) (among : List Buffers) → PartlyBack P back P.k old now waits among → CombBack P back old now waits among
  all_back_met now among p = record {
    shape = p.shape;
    buffers = p.buffers;
    last = p.here;
    switches = λ s x lt small first. p.switches s x lt lt small first;
  }

-- one stage's buffers in the place of others
module _ (waits : List Buffers) (s : ℕ) (w new : Buffers) (there : s < length waits) (is : w ≡ get_or waits s w) where
  pub beside_is : w ≡ buffers_in waits s
  beside_is = is ∙ get_or_default waits s w (record { entries = []; once = 0; twice = 0 }) there

  pub put_here : buffers_in (set waits s new) s ≡ new
  put_here = get_or-set_same waits s new (record { entries = []; once = 0; twice = 0 }) there

  pub put_other : (t : ℕ) → (t ≡ s → ⊥) → buffers_in (set waits s new) t ≡ buffers_in waits t
  put_other t ne = get_or-set_other waits s t new (record { entries = []; once = 0; twice = 0 }) ne

  pub put_same : length new.entries ≡ length w.entries → SameBuffers waits (set waits s new)
  put_same same = record {
    many = length-set waits s new;
    entries = λ t. by_test t (t == s) refl;
  }
    where
      not_both : false ≡ true → ⊥
      not_both e = cc

      by_test : (t : ℕ) (r : Bool) → (t == s) ≡ r → length (buffers_in (set waits s new) t).entries ≡ length (buffers_in waits t).entries
      by_test t true e =
          let same_place : t ≡ s = eqb-true t s e in
          ap (λ n. length (buffers_in (set waits s new) n).entries) same_place ∙ ap (λ v. length v.entries) put_here ∙ same ∙ ap (λ v. length v.entries) beside_is
          ∙ ap (λ n. length (buffers_in waits n).entries) (sym same_place)
      by_test t false e = ap (λ v. length v.entries) (put_other t (λ same_place. not_both (sym e ∙ eq-eqb t s same_place)))

-- nothing has combined where buffers are cleared
pub none_combined : (w v : Buffers) → v ≡ cleared w → (x : ℕ) → combined_of v x ≡ 0
none_combined w v e x = ap (λ s. combined_of s x) e ∙ ap (λ n. n + n) (bit_at-zero x)

-- levels and buffers are still there
pub levels_still : {T : Type 0} (count most : ℕ) (old now : List (Queues T)) → HasLevels count most old → SameShape old now → HasLevels count most now
levels_still count most old now has_them same = record { many = same.many ∙ has_them.many; each = λ l h. same.queues l ∙ has_them.each l h }

pub buffers_still : (k most : ℕ) (old now : List Buffers) → HasBuffers k most old → SameBuffers old now → HasBuffers k most now
buffers_still k most old now has_them same = record { many = same.many ∙ has_them.many; each = λ s h. same.entries s ∙ has_them.each s h }

-- messages can cross a stage of a project's machine
pub can_cross : {T : Type 0} (P : Project) → P.k ≤ 6 → (count : ℕ) (levels : List (Queues T)) → HasLevels count (lines P.k) levels → (s : ℕ) → s < P.k → (settings : CombSettings) → settings ≡ comb_settings P s
    → (v : Buffers) → length v.entries ≡ lines P.k → (from to : ℕ) → (from ≡ to → ⊥) → from < count → to < count → CanCross settings.bit from to levels v
can_cross P few count levels has_them s lt settings is v wide from to apart a c = subst (λ t. CanCross t.bit from to levels v) (sym is) (record {
  by = omega (arith, few, lt);
  apart = apart;
  ports = λ x i h ih. subst (λ n. port (P.k - 1 - s) i x < n) (sym (has_them.each to c)) (port_stays P.k (P.k - 1 - s) x i (omega (arith, lt)) few ih (subst (λ n. x < n) (has_them.each from a) h));
  entries = omega (arith, has_them.each from a, wide);
})

-- what a stage was asked of a project is what it did
pub forth_met : (P : Project) (s from to leave : ℕ) (old new : List (Queues Request)) (settings : CombSettings) (v u w z : Buffers) → settings ≡ comb_settings P s → v ≡ w → u ≡ z
    → AllMet (meeting settings.bit) (arrives settings) settings.bit from to leave old new v u → AllMet (meeting (P.k - 1 - s)) (arrives (comb_settings P s)) (P.k - 1 - s) from to leave old new w z
forth_met P s from to leave old new settings v u w z a b c met =
    subst (λ y. AllMet (meeting (P.k - 1 - s)) (arrives (comb_settings P s)) (P.k - 1 - s) from to leave old new w y) c
    (subst (λ y. AllMet (meeting (P.k - 1 - s)) (arrives (comb_settings P s)) (P.k - 1 - s) from to leave old new y u) b
    (subst (λ t. AllMet (meeting t.bit) (arrives t) t.bit from to leave old new v u) a met))

pub back_met : (P : Project) (s from to leave : ℕ) (old new : List (Queues Reply)) (settings : CombSettings) (v u w z : Buffers) → settings ≡ comb_settings P s → v ≡ w → u ≡ z
    → AllMet (splitting settings.bit) (returns_to settings) settings.bit from to leave old new v u → AllMet (splitting (P.k - 1 - s)) (returns_to (comb_settings P s)) (P.k - 1 - s) from to leave old new w z
back_met P s from to leave old new settings v u w z a b c met =
    subst (λ y. AllMet (splitting (P.k - 1 - s)) (returns_to (comb_settings P s)) (P.k - 1 - s) from to leave old new w y) c
    (subst (λ y. AllMet (splitting (P.k - 1 - s)) (returns_to (comb_settings P s)) (P.k - 1 - s) from to leave old new y u) b
    (subst (λ t. AllMet (splitting t.bit) (returns_to t) t.bit from to leave old new v u) a met))
