use Rattle.std.proofs.Common.{◌^◌, subst, List}
use Rattle.change_lists.specs.declared.begun.Begun.{Begun}
use Rattle.change_lists.specs.Changes.{IsPlace}
use Rattle.change_lists.proofs.Writing.{cut_at}
use Rattle.change_lists.proofs.change_list.ChangeList.truncate.Goals as goal

pub invariant_of-self : goal.invariant_of-self
invariant_of-self g c =
    let place = subst (λ (ys : List (Begun g.row.V.Denot)). IsPlace ys c.args.n c.place-many.result) c.as_slice.ensures.value c.place-many.ensures in
    rw c.truncate.ensures.items (cut_at c.self.inside.begun.items c.args.n c.place-many.result (2 ^ 32) c.self.invariant c.ranges.n.fits place).1

pub returns : goal.returns
returns g c =
    let place = subst (λ (ys : List (Begun g.row.V.Denot)). IsPlace ys c.args.n c.place-many.result) c.as_slice.ensures.value c.place-many.ensures in
    rw (← c.self.view_is) (rw c.truncate.ensures.items (cut_at c.self.inside.begun.items c.args.n c.place-many.result (2 ^ 32) c.self.invariant c.ranges.n.fits place).0)
