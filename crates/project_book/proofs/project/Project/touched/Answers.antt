use Rattle.std.proofs.Common.{sym, ◌∙◌}
use Rattle.std.proofs.lemmas.Result.{IfOk-weaker}
use Rattle.project_book.specs.Project.{IsProject}
use Rattle.project_book.specs.Slots.{AreEntries, Touches}
use Rattle.project_book.proofs.Accepting.{kept}
use Rattle.project_book.proofs.Touching.{differ_at_most, touches_cut}
use Rattle.project_book.proofs.project.Project.touched.Goals as goal

pub differing-requires : goal.differing-requires
differing-requires c =
    rw (c.requires.edited) (differ_at_most c.args.self.now c.args.edit _ (rw (← c.self.view_is) c.self.invariant) c.requires.accepted (sym c.slot.ensures ∙ c.in-Some.is))

pub entries-requires : goal.entries-requires
entries-requires c =
    rw c.length.ensures.length (kept c.args.self.now c.in-Cut.proc c.in-Cut.length (rw c.in-Cut.is at c.requires.accepted)).there

pub returns-in-Cut : goal.returns-in-Cut
returns-in-Cut c =
    let whole : IsProject c.args.self.now = rw (← c.self.view_is) c.self.invariant in
    let accepted = rw c.in-Cut.is at c.requires.accepted in
    let few = rw c.length.ensures.length at c.length.ensures.few in
    IfOk-weaker c.entries.result (λ slots. AreEntries c.in-Cut.proc c.in-Cut.length c.length.result slots.items) (λ slots. Touches c.args.self.now c.args.next.now slots.items) (λ slots are. rw (c.requires.edited, c.in-Cut.is) (touches_cut c.args.self.now c.in-Cut.proc c.in-Cut.length slots.items whole few accepted (rw c.length.ensures.length at are))) c.entries.ensures
