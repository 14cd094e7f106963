use Rattle.std.proofs.Common.{ℕ, ◌∙◌, ap, arith, List}
use Rattle.change_rows.specs.Marks.{is_set}
use Rattle.change_rows.proofs.Lined.{covered_tight}
use Rattle.change_rows.proofs.marks.Marks.tighten.Goals as goal

pub invariant_of-self : goal.invariant_of-self
invariant_of-self c =
    let i = c.self.inside in
    covered_tight i.words.items i.blocks.items c.args.t c.marks_of-block.result c.self.invariant (rw (← c.self.view_is) at c.requires)
    (λ u k low high there h. c.marks_of-block.ensures u k low (omega (arith, high, there, c.min-to.ensures, c.len.ensures)) (ap (λ (w : List ℕ). is_set w u k) c.as_slice.ensures.value ∙ h))
