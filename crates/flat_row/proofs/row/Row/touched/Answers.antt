use Rattle.std.proofs.Common.{◌≡◌, ℕ, ◌<◌, ◌∙◌, ap, subst, refl}
use Rattle.std.specs.Prelude.{◌||◌, bit_or, slice_index_or}
use Rattle.flat_row.specs.Masks.{has, IsSetOf}
use Rattle.flat_row.specs.Row.{Arrays}
use Rattle.flat_row.specs.Moving.{leaves_forth, leaves_back}
use Rattle.flat_row.specs.Changed.{crosses}
use Rattle.flat_row.proofs.Touching.{has_either}
use Rattle.flat_row.proofs.row.Row.touched.Goals as goal

pub returns : goal.returns
returns c =
    let R = c.args.self.now in
    let low = c.args.low.now in
    let comb = c.args.comb.now in
    let served = c.args.served.now in
    let size : c.self.inside.shape ≡ R.k = ap (λ (r : Arrays). r.k) c.self.view_is in
    let marks : c.self.inside.served ≡ R.served = ap (λ (r : Arrays). r.served) c.self.view_is in
    record {
      procs = λ x small. has_either c.requests_leave.result c.requests_leave-2.result x (leaves_forth R.k low.forth.leave low.enter 0 x) (leaves_forth R.k comb.forth.leave comb.enter 0 x)
          (c.requests_leave.ensures x ∙ ap (λ k. leaves_forth k low.forth.leave low.enter 0 x) size) (c.requests_leave-2.ensures x ∙ ap (λ k. leaves_forth k comb.forth.leave comb.enter 0 x) size);
      modules = λ x small.
          has_either (bit_or (bit_or c.self.inside.served (bit_or served.low served.comb)) (bit_or low.enter comb.enter)) (bit_or c.replies_leave.result c.replies_leave-2.result) x
          ((has R.served x || (has served.low x || has served.comb x)) || (has low.enter x || has comb.enter x))
          (leaves_back low.receive low.back.leave R.k x || leaves_back comb.receive comb.back.leave R.k x)
          (has_either (bit_or c.self.inside.served (bit_or served.low served.comb)) (bit_or low.enter comb.enter) x (has R.served x || (has served.low x || has served.comb x)) (has low.enter x || has comb.enter x)
          (has_either c.self.inside.served (bit_or served.low served.comb) x (has R.served x) (has served.low x || has served.comb x) (ap (λ n. has n x) marks) (has_either served.low served.comb x (has served.low x) (has served.comb x) refl refl))
          (has_either low.enter comb.enter x (has low.enter x) (has comb.enter x) refl refl))
          (has_either c.replies_leave.result c.replies_leave-2.result x (leaves_back low.receive low.back.leave R.k x) (leaves_back comb.receive comb.back.leave R.k x)
          (c.replies_leave.ensures x ∙ ap (λ l. leaves_back low.receive low.back.leave l x) (c.k.ensures.value ∙ size)) (c.replies_leave-2.ensures x ∙ ap (λ l. leaves_back comb.receive comb.back.leave l x) (c.k-2.ensures.value ∙ size)));
      low_switches = subst (λ (k : ℕ). (s : ℕ) → s < k → IsSetOf (crosses k low s) (slice_index_or c.crossed.result s 0)) size c.crossed.ensures.sets;
      comb_switches = c.combs_crossed.ensures;
    }
