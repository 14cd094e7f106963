-- Where something moves in a cycle, as sets of labels.
use Rattle.std.proofs.Common.{◌≡◌, ℕ, zero, suc, ◌+◌, ◌-◌, ◌<◌, Bool, true, false, List, length, refl, ap, sym, ◌∙◌, subst, arith}
use Rattle.std.specs.Prelude.{◌==◌, ◌&&◌, ◌||◌, bit_or, slice_index_or}
use Rattle.std.proofs.Math.ListN.{set}
use Rattle.std.proofs.lemmas.List.{get_or-set_same, get_or-set_other}
use Rattle.std.proofs.lemmas.Bool.{and_parts, eqb-true, eq-eqb}
use Rattle.std.proofs.lemmas.Nat.Bits.{bit_at-lt}
use Rattle.omega_net.specs.declared.component.Net.TheVariants.{Low as LowNet, Comb as CombNet}
use Rattle.omega_net.specs.declared.component.Component.{Component}
use Rattle.omega_net.specs.declared.component.Component.TheVariants.{Proc as ProcAt, Module as ModuleAt, Switch}
use Rattle.omega_net.specs.Wires.{bit}
use Rattle.flat_row.specs.declared.changed.Changed.{Changed}
use Rattle.flat_row.specs.declared.leaving.Plan.{Plan}
use Rattle.flat_row.specs.Labels.{port, switch_label}
use Rattle.flat_row.specs.Masks.{has, are_empty, IsSetOf}
use Rattle.flat_row.specs.Row.{Buffers, combined_of}
use Rattle.flat_row.specs.Moving.{leaves_forth, leaves_back}
use Rattle.flat_row.specs.Changed.{has_changed, none_changed, is_still, passes, crosses, has_combined}
use Rattle.flat_row.proofs.Masking.{has_or}
use Rattle.flat_row.proofs.Crossed.{senders_are}
use Rattle.flat_row.proofs.Processing.{neither}
use Rattle.flat_row.proofs.Still.{none_has, none_at, none_leaves}

false_true : false ≡ true → ⊥
false_true e = cc

-- either of two sets that are known
pub has_either : (a b x : ℕ) (u v : Bool) → has a x ≡ u → has b x ≡ v → has (bit_or a b) x ≡ (u || v)
has_either a b x u v e f = has_or a b x ∙ ap (λ t. t || has b x) e ∙ ap (λ t. u || t) f

-- the switches of a stage, from the labels of its ports
pub crossed_so : (k : ℕ) (plan : Plan) (s by ports first second : ℕ) → by ≡ k - 1 - s → ((x : ℕ) → has ports x ≡ passes k plan s x)
    → IsSetOf (λ x. (bit by x == 0) && has ports x) first → IsSetOf (λ x. (bit by x == 0) && has ports (port by 1 x)) second → IsSetOf (crosses k plan s) (bit_or first second)
crossed_so k plan s by ports first second e f p q x small =
    senders_are by ports first second p q x small
    ∙ ap (λ b. (bit b x == 0) && (has ports x || has ports (port b 1 x))) e
    ∙ ap (λ t. (bit (k - 1 - s) x == 0) && (t || has ports (port (k - 1 - s) 1 x))) (f x)
    ∙ ap (λ t. (bit (k - 1 - s) x == 0) && (passes k plan s x || t)) (f (port (k - 1 - s) 1 x))

-- and those that combined
pub combs_so : (k : ℕ) (plan : Plan) (s crossed : ℕ) (b : Buffers) → IsSetOf (crosses k plan s) crossed
    → IsSetOf (λ x. crosses k plan s x || has_combined b x) (bit_or crossed (bit_or b.once b.twice))
combs_so k plan s crossed b set x small = has_either crossed (bit_or b.once b.twice) x (crosses k plan s x) (has_combined b x) (set x small) (has_or b.once b.twice x)

-- one stage more
pub stages_so : (Q : ℕ → ℕ → Type 0) (count : ℕ) (sets : List ℕ) (l : ℕ) → count < length sets → ((s : ℕ) → s < count → Q s (slice_index_or sets s 0)) → Q count l
    → (s : ℕ) → s < count + 1 → Q s (slice_index_or (set sets count l) s 0)
stages_so Q count sets l within all one s h = by_test (s == count) refl
  where
    by_test : (r : Bool) → (s == count) ≡ r → Q s (slice_index_or (set sets count l) s 0)
    by_test true e =
        let is : s ≡ count = eqb-true s count e in
        subst (λ n. Q n (slice_index_or (set sets count l) n 0)) (sym is) (subst (Q count) (sym (get_or-set_same sets count l 0 within)) one)
    by_test false e =
        let ne : s ≡ count → ⊥ = (λ is. false_true (sym e ∙ eq-eqb s count is)) in
        subst (Q s) (sym (get_or-set_other sets count s l 0 ne)) (all s (omega (arith, h, ne)))

-- a switch that didn't combine
zero_bit : (p : ℕ) → p < 2 → (p == 1) ≡ false → p ≡ 0
zero_bit zero h e = refl
zero_bit (suc zero) h e = absurd (false_true (sym e))
zero_bit (suc (suc p)) h e = absurd (omega arith)

pub none_combined : (b : Buffers) (x : ℕ) → has_combined b x ≡ false → combined_of b x ≡ 0
none_combined b x e =
    let n = neither (has b.once x) (has b.twice x) e in
    ap (λ a. a + bit x b.twice) (zero_bit (bit x b.once) (bit_at-lt b.once x) n.0) ∙ ap (λ a. 0 + a) (zero_bit (bit x b.twice) (bit_at-lt b.twice x) n.1)

-- nothing is in empty sets
pub none_in : (k : ℕ) (c : Changed) → none_changed c ≡ true → (x : Component) → has_changed k c x ≡ false
none_in k c e x =
    let a = and_parts (c.procs == 0) ((c.modules == 0) && (are_empty c.low && are_empty c.comb)) e in
    let b = and_parts (c.modules == 0) (are_empty c.low && are_empty c.comb) a.1 in
    let d = and_parts (are_empty c.low) (are_empty c.comb) b.1 in
    by_component (eqb-true c.procs 0 a.0) (eqb-true c.modules 0 b.0) d.0 d.1 x
  where
    by_component : c.procs ≡ 0 → c.modules ≡ 0 → are_empty c.low ≡ true → are_empty c.comb ≡ true → (x : Component) → has_changed k c x ≡ false
    by_component p m l r (ProcAt n) = none_has c.procs n p
    by_component p m l r (ModuleAt n) = none_has c.modules n m
    by_component p m l r (Switch LowNet s j) = none_at c.low l s (switch_label k s j)
    by_component p m l r (Switch CombNet s j) = none_at c.comb r s (switch_label k s j)

-- and where nothing moves, no switch is crossed
module _ (k : ℕ) (plan : Plan) (e : is_still plan ≡ true) where
  parts : (plan.enter ≡ 0) × ((plan.receive ≡ 0) × ((are_empty plan.forth.leave ≡ true) × (are_empty plan.back.leave ≡ true)))
  parts =
      let a = and_parts (plan.enter == 0) ((plan.receive == 0) && (are_empty plan.forth.leave && are_empty plan.back.leave)) e in
      let b = and_parts (plan.receive == 0) (are_empty plan.forth.leave && are_empty plan.back.leave) a.1 in
      (eqb-true plan.enter 0 a.0, (eqb-true plan.receive 0 b.0, and_parts (are_empty plan.forth.leave) (are_empty plan.back.leave) b.1))

  none_forth : (s x : ℕ) → has (slice_index_or plan.forth.leave s 0) x ≡ false
  none_forth s x = none_at plan.forth.leave parts.1.1.0 s x

  none_back : (s x : ℕ) → has (slice_index_or plan.back.leave s 0) x ≡ false
  none_back s x = none_at plan.back.leave parts.1.1.1 s x

  none_leaves_back : (l x : ℕ) → leaves_back plan.receive plan.back.leave l x ≡ false
  none_leaves_back zero x = none_has plan.receive x parts.1.0
  none_leaves_back (suc s) x = none_back s x

  none_passes : (s x : ℕ) → passes k plan s x ≡ false
  none_passes s x =
      ap (λ t. (t || leaves_forth k plan.forth.leave plan.enter (suc s) x) || (has (slice_index_or plan.back.leave s 0) x || leaves_back plan.receive plan.back.leave s x)) (none_forth s x)
      ∙ ap (λ t. t || (has (slice_index_or plan.back.leave s 0) x || leaves_back plan.receive plan.back.leave s x)) (none_leaves k plan.forth.leave parts.1.1.0 plan.enter parts.0 (suc s) x)
      ∙ ap (λ t. t || leaves_back plan.receive plan.back.leave s x) (none_back s x)
      ∙ none_leaves_back s x

  none_crosses : (s x : ℕ) → crosses k plan s x ≡ false
  none_crosses s x =
      let b = k - 1 - s in
      ap (λ t. (bit b x == 0) && (t || passes k plan s (port b 1 x))) (none_passes s x)
      ∙ ap (λ t. (bit b x == 0) && t) (none_passes s (port b 1 x)) ∙ and_not (bit b x == 0)
    where
      and_not : (t : Bool) → (t && false) ≡ false
      and_not true = refl
      and_not false = refl

  pub still_sets : (sets : List ℕ) → are_empty sets ≡ true → (s : ℕ) → s < k → IsSetOf (crosses k plan s) (slice_index_or sets s 0)
  still_sets sets all s h x small = none_at sets all s x ∙ sym (none_crosses s x)
