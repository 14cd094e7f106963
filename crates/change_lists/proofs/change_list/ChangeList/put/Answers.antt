use Rattle.std.proofs.Common.{◌^◌, arith, List}
use Rattle.change_lists.specs.declared.begun.Begun.{Begun}
use Rattle.change_lists.proofs.Writing.{put_done}
use Rattle.change_lists.proofs.change_list.ChangeList.put.Goals as goal

pub invariant_of-self : goal.invariant_of-self
invariant_of-self g c =
    let xs : List (Begun g.row.V.Denot) = c.self.inside.begun.items in
    let done =
    put_done xs c.as_slice.result.now c.as_slice-2.result.now c.as_slice-3.result.now c.begin_at.new.begun.items c.insert_if.new.begun.items
    c.args.t c.place-i.result c.behind-next.result c.args.end (2 ^ 32) c.args.value c.args.stood c.is_at-here.result c.goes_on-again.result
    c.as_slice.ensures.value c.as_slice-2.ensures.value c.as_slice-3.ensures.value
    c.self.invariant (omega (arith, c.requires.within, c.ranges.end.fits)) c.place-i.ensures
    (rw (← c.self.view_is) at c.requires.stood)
    c.is_at-here.ensures c.behind-next.ensures c.goes_on-again.ensures.yes c.goes_on-again.ensures.no
    c.begin_at.ensures.items
    c.insert_if.ensures in
    done.1

pub returns-clause-written : goal.returns-clause-written
returns-clause-written g c =
    let xs : List (Begun g.row.V.Denot) = c.self.inside.begun.items in
    let done =
    put_done xs c.as_slice.result.now c.as_slice-2.result.now c.as_slice-3.result.now c.begin_at.new.begun.items c.insert_if.new.begun.items
    c.args.t c.place-i.result c.behind-next.result c.args.end (2 ^ 32) c.args.value c.args.stood c.is_at-here.result c.goes_on-again.result
    c.as_slice.ensures.value c.as_slice-2.ensures.value c.as_slice-3.ensures.value
    c.self.invariant (omega (arith, c.requires.within, c.ranges.end.fits)) c.place-i.ensures
    (rw (← c.self.view_is) at c.requires.stood)
    c.is_at-here.ensures c.behind-next.ensures c.goes_on-again.ensures.yes c.goes_on-again.ensures.no
    c.begin_at.ensures.items
    c.insert_if.ensures in
    rw (← c.self.view_is) done.0

pub returns-clause-begins : goal.returns-clause-begins
returns-clause-begins g c =
    let xs : List (Begun g.row.V.Denot) = c.self.inside.begun.items in
    let done =
    put_done xs c.as_slice.result.now c.as_slice-2.result.now c.as_slice-3.result.now c.begin_at.new.begun.items c.insert_if.new.begun.items
    c.args.t c.place-i.result c.behind-next.result c.args.end (2 ^ 32) c.args.value c.args.stood c.is_at-here.result c.goes_on-again.result
    c.as_slice.ensures.value c.as_slice-2.ensures.value c.as_slice-3.ensures.value
    c.self.invariant (omega (arith, c.requires.within, c.ranges.end.fits)) c.place-i.ensures
    (rw (← c.self.view_is) at c.requires.stood)
    c.is_at-here.ensures c.behind-next.ensures c.goes_on-again.ensures.yes c.goes_on-again.ensures.no
    c.begin_at.ensures.items
    c.insert_if.ensures in
    done.2
