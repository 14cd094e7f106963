-- Which modules serve which network, by the marks of a row's levels.
use Rattle.std.proofs.Common.{◌≡◌, ℕ, suc, ◌^◌, ◌<◌, ◌≤◌, Bool, true, false, refl, ap, sym, ◌∙◌, arith}
use Rattle.std.specs.Prelude.{bit_and}
use Rattle.std.proofs.Math.Pow.{pow_mono}
use Rattle.omega_net.specs.declared.component.Net.{Net}
use Rattle.omega_net.specs.declared.component.Net.TheVariants.{Low as LowNet, Comb as CombNet}
use Rattle.omega_net.specs.declared.message.Request.{Request}
use Rattle.omega_net.specs.Numbers.{lines}
use Rattle.mem_module.specs.MemModule.{is_net, chosen, served_net, turn_from}
use Rattle.ref_proc.specs.RefProc.{net_for}
use Rattle.project_book.specs.Project.{Project, IsProject, depth_of}
use Rattle.project_book.specs.declared.edit.Depths.TheVariants.{ModuleQueue}
use Rattle.flat_row.specs.declared.marks.Marks.{Marks}
use Rattle.flat_row.specs.Masks.{has, IsSetOf}
use Rattle.flat_row.specs.Decisions.{served_at, NetsAfter}
use Rattle.flat_row.specs.Row.{Arrays, IsRow, IsRowOf, level_at, module_of}
use Rattle.flat_row.specs.Rows.{MarksRequests, MarksReplies}
use Rattle.flat_row.specs.Step.{Serves}
use Rattle.flat_row.proofs.Masking.{has_and}
use Rattle.flat_row.proofs.Rowing.{rows_decide}
use Rattle.flat_row.proofs.Sending.{shows_some, and_first}

false_true : false ≡ true → ⊥
false_true e = cc

serves_low : (p q : Bool) (t : Net) → is_net LowNet (chosen p q t) ≡ true → p ≡ true
serves_low true q t e = refl
serves_low false true t e = absurd (false_true e)
serves_low false false t e = absurd (false_true e)

serves_comb : (p q : Bool) (t : Net) → is_net CombNet (chosen p q t) ≡ true → q ≡ true
serves_comb true true t e = refl
serves_comb false true t e = refl
serves_comb true false t e = absurd (false_true e)
serves_comb false false t e = absurd (false_true e)

module _ (P : Project) (isp : IsProject P) (R : Arrays) (row : IsRow R) (of : IsRowOf P R) (a b c d : Marks) (sl sc next turn : ℕ)
    (at_a : MarksRequests (level_at R.low.requests (suc P.k)) a) (at_b : MarksRequests (level_at R.comb.requests (suc P.k)) b)
    (at_c : MarksReplies (level_at R.low.replies P.k) c) (at_d : MarksReplies (level_at R.comb.replies P.k) d) (is : turn ≡ R.module_turns)
    (low_set : IsSetOf (λ x. is_net LowNet (served_at (bit_and a.any c.one) (bit_and b.any d.one) turn x)) sl)
    (comb_set : IsSetOf (λ x. is_net CombNet (served_at (bit_and a.any c.one) (bit_and b.any d.one) turn x)) sc)
    (after : NetsAfter (bit_and a.any c.one) (bit_and b.any d.one) turn next) where
  abbrev low : ℕ
  low = bit_and a.any c.one

  abbrev comb : ℕ
  comb = bit_and b.any d.one

  decides : (m : ℕ) → m < lines P.k → served_at low comb R.module_turns m ≡ served_net (module_of R m) (depth_of P ModuleQueue)
  decides m within = (rows_decide P isp R row of).served a b c d low comb m within at_a at_b at_c at_d (λ x small. has_and a.any c.one x) (λ x small. has_and b.any d.one x)

  small_line : (m : ℕ) → m < lines P.k → m < 64
  small_line m within = let most : 2 ^ P.k ≤ 64 = pow_mono isp.small in omega (arith, most, within)

  pub serves_so : Serves P R sl sc next
  serves_so = record {
    low_so = λ m within. low_set m (small_line m within) ∙ ap (λ t. is_net LowNet (served_at low comb t m)) is ∙ ap (is_net LowNet) (decides m within);
    comb_so = λ m within. comb_set m (small_line m within) ∙ ap (λ t. is_net CombNet (served_at low comb t m)) is ∙ ap (is_net CombNet) (decides m within);
    turn_so = λ m within. after m (small_line m within) ∙ ap (λ t. turn_from (net_for (has t m)) (served_at low comb t m)) is ∙ ap (turn_from (net_for (has R.module_turns m))) (decides m within);
    low_waits = λ x small has_it.
        shows_some (λ (r : Request). r.place.«module») (level_at R.low.requests (suc P.k)) a at_a x small
        (and_first (has a.any x) (has c.one x) (sym (has_and a.any c.one x) ∙ serves_low (has low x) (has comb x) (net_for (has turn x)) (sym (low_set x small) ∙ has_it)));
    comb_waits = λ x small has_it.
        shows_some (λ (r : Request). r.place.«module») (level_at R.comb.requests (suc P.k)) b at_b x small
        (and_first (has b.any x) (has d.one x) (sym (has_and b.any d.one x) ∙ serves_comb (has low x) (has comb x) (net_for (has turn x)) (sym (comb_set x small) ∙ has_it)));
  }
