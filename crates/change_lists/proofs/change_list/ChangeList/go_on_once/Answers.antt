use Rattle.std.proofs.Common.{◌^◌, ◌∙◌, ap, sym, subst, drop, List}
use Rattle.change_lists.specs.declared.begun.Begun.{Begun}
use Rattle.change_lists.specs.Changes.{IsPlace, starts}
use Rattle.std.proofs.lemmas.Bool.{false≢true}
use Rattle.change_lists.proofs.Standing.{starts_of_none}
use Rattle.change_lists.proofs.Writing.{go_on_done, go_on_none}
use Rattle.change_lists.proofs.change_list.ChangeList.go_on_once.Goals as goal

pub returns-then-not-is_at-clause-written : goal.returns-then-not-is_at-clause-written
returns-then-not-is_at-clause-written g c =
    let xs : List (Begun g.row.V.Denot) = c.self.inside.begun.items in
    let place : IsPlace xs c.args.from c.place-i.result = subst (λ (ys : List (Begun g.row.V.Denot)). IsPlace ys c.args.from c.place-i.result) c.as_slice.ensures.value c.place-i.ensures in
    let still = go_on_none xs c.args.from c.args.to c.place-i.result c.args.end (2 ^ 32) c.requires.some c.self.invariant c.ranges.to.fits place
    (rw (← c.self.view_is) at c.requires.none)
    (ap (λ (ys : List (Begun g.row.V.Denot)). starts (drop c.place-i.result ys) c.args.from) (sym c.as_slice-2.ensures.value) ∙ sym c.is_at.ensures ∙ c.if-not-is_at.true) in
    rw (← c.self.view_is) still.0

pub returns-then-not-is_at-clause-begins : goal.returns-then-not-is_at-clause-begins
returns-then-not-is_at-clause-begins g c =
    let xs : List (Begun g.row.V.Denot) = c.self.inside.begun.items in
    let place : IsPlace xs c.args.from c.place-i.result = subst (λ (ys : List (Begun g.row.V.Denot)). IsPlace ys c.args.from c.place-i.result) c.as_slice.ensures.value c.place-i.ensures in
    let still = go_on_none xs c.args.from c.args.to c.place-i.result c.args.end (2 ^ 32) c.requires.some c.self.invariant c.ranges.to.fits place
    (rw (← c.self.view_is) at c.requires.none)
    (ap (λ (ys : List (Begun g.row.V.Denot)). starts (drop c.place-i.result ys) c.args.from) (sym c.as_slice-2.ensures.value) ∙ sym c.is_at.ensures ∙ c.if-not-is_at.true) in
    rw (← c.self.view_is) still.1

pub invariant_of-self : goal.invariant_of-self
invariant_of-self g c =
    let xs : List (Begun g.row.V.Denot) = c.self.inside.begun.items in
    let done = go_on_done xs c.as_slice.result.now c.as_slice-2.result.now c.as_slice-3.result.now c.begin_later_if.new.begun.items
    c.args.from c.args.to c.place-i.result c.args.end (2 ^ 32) c.goes_on-again.result
    c.as_slice.ensures.value c.as_slice-2.ensures.value c.as_slice-3.ensures.value
    c.requires.some c.self.invariant c.ranges.to.fits c.place-i.ensures (rw (← c.self.view_is) at c.requires.none)
    (sym c.is_at.ensures ∙ c.if-not-is_at.false) c.goes_on-again.ensures.yes c.goes_on-again.ensures.no c.begin_later_if.ensures in
    done.1

pub returns-clause-written : goal.returns-clause-written
returns-clause-written g c =
    let xs : List (Begun g.row.V.Denot) = c.self.inside.begun.items in
    let done = go_on_done xs c.as_slice.result.now c.as_slice-2.result.now c.as_slice-3.result.now c.begin_later_if.new.begun.items
    c.args.from c.args.to c.place-i.result c.args.end (2 ^ 32) c.goes_on-again.result
    c.as_slice.ensures.value c.as_slice-2.ensures.value c.as_slice-3.ensures.value
    c.requires.some c.self.invariant c.ranges.to.fits c.place-i.ensures (rw (← c.self.view_is) at c.requires.none)
    (sym c.is_at.ensures ∙ c.if-not-is_at.false) c.goes_on-again.ensures.yes c.goes_on-again.ensures.no c.begin_later_if.ensures in
    rw (← c.self.view_is) done.0

pub returns-clause-begins : goal.returns-clause-begins
returns-clause-begins g c =
    let xs : List (Begun g.row.V.Denot) = c.self.inside.begun.items in
    let done = go_on_done xs c.as_slice.result.now c.as_slice-2.result.now c.as_slice-3.result.now c.begin_later_if.new.begun.items
    c.args.from c.args.to c.place-i.result c.args.end (2 ^ 32) c.goes_on-again.result
    c.as_slice.ensures.value c.as_slice-2.ensures.value c.as_slice-3.ensures.value
    c.requires.some c.self.invariant c.ranges.to.fits c.place-i.ensures (rw (← c.self.view_is) at c.requires.none)
    (sym c.is_at.ensures ∙ c.if-not-is_at.false) c.goes_on-again.ensures.yes c.goes_on-again.ensures.no c.begin_later_if.ensures in
    done.2

pub returns-clause-nothing : goal.returns-clause-nothing
returns-clause-nothing g c = λ none.
    let xs : List (Begun g.row.V.Denot) = c.self.inside.begun.items in
    let e = rw (← c.self.view_is) at none in
    absurd (false≢true (sym (starts_of_none c.as_slice-2.result.now c.place-i.result c.args.from (c.as_slice-2.ensures.value ∙ e)) ∙ sym c.is_at.ensures ∙ c.if-not-is_at.false))
