use Rattle.std.proofs.Common.{◌-◌, ◌*◌, min, refl, rules, ◌∙◌, sym, arith}
use Rattle.std.proofs.lemmas.Bool.{false≢true}
use Rattle.cell_marks.proofs.Unions.{union_in_word, union_more}
use Rattle.cell_marks.proofs.Added.{joined_bit}
use Rattle.cell_marks.proofs.words.is_union_in.Goals.{else-joined-union-via-then-joined-union+else-not-is_union, else-joined-union-via-else-joined-union}
use Rattle.cell_marks.proofs.words.is_union_in.Goals as goal

pub returns-then-not-is_union : goal.returns-then-not-is_union
returns-then-not-is_union c = (
  λ no. absurd (false≢true no),
  λ each. sym c.if-not-is_union.true ∙ c.is_union.ensures.1 (union_in_word c.args.one.now c.args.other.now c.args.union.now c.args.n c.loop-k.k c.min.result (omega (arith, c.min.ensures)) (omega (arith, c.min.ensures)) each),
)

pub loop-k-preserved : goal.loop-k-preserved
loop-k-preserved c =
    let k = c.loop-k.k in
    let word = union_more c.args.one.now c.args.other.now c.args.union.now c.args.n k (min (c.args.n - 64 * k) 64) refl in
    elim c.else-joined-union.branch [
      | else-joined-union-via-then-joined-union+else-not-is_union w ↦ word (λ i h. w.is_union.ensures.0 (search rules) i (omega (arith, h, w.min.ensures))) c.loop-k.invariant
      | else-joined-union-via-else-joined-union w ↦ word (λ i h. joined_bit _ _ _ i w.if-joined-union.false) c.loop-k.invariant
    ]
