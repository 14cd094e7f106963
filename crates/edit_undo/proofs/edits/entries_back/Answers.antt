use Rattle.std.proofs.Common.{◌++◌, ◌≡◌, ℕ, ◌+◌, ◌≤◌, drop, ap, sym, subst, arith, ◌∙◌}
use Rattle.std.specs.Prelude.{IfSome}
use Rattle.project_book.specs.Limits.{script_entries}
use Rattle.project_book.specs.Scripts.{script_of, IsEntry}
use Rattle.edit_undo.specs.Undoing.{entries_back}
use Rattle.edit_undo.proofs.Listing.{entries_next, entry_missing, within_next, within_all}
use Rattle.edit_undo.proofs.edits.entries_back.Goals as goal

few : (n m : ℕ) → n ≡ m → n ≤ script_entries → m ≤ script_entries
few n m e h = subst (λ x. x ≤ script_entries) e h

pub unreachable-requires : goal.unreachable-requires
unreachable-requires c =
    let P = c.args.project.now in
    entry_missing P c.args.proc c.loop-index.index c.is_project.ensures.project (few _ _ c.length-index-end.ensures.length c.length-index-end.ensures.few)
    (omega (arith, c.loop-index-test.true, c.length-index-end.ensures.length)) (sym c.entry.ensures.entry ∙ c.in_default.is)

pub loop-index-preserved : goal.loop-index-preserved
loop-index-preserved c =
    let P = c.args.project.now in
    record {
      made = ap (λ l. l ++ entries_back c.args.proc (c.loop-index.index + 1) (drop (c.loop-index.index + 1) (script_of P.scripts c.args.proc))) c.in_ok-push.ensures.items
          ∙ (entries_next P c.args.proc c.loop-index.index c.loop-index.edits.items _ c.in-Some.entry c.is_project.ensures.project
          (few _ _ c.length-index-end.ensures.length c.length-index-end.ensures.few) (omega (arith, c.loop-index-test.true, c.length-index-end.ensures.length))
          (sym c.in-Some.ensures.entry) c.loop-index.invariant.made);
      within = within_next P c.args.proc c.args.from c.loop-index.index (subst (λ o. IfSome o IsEntry) c.entry.ensures.entry c.entry.ensures.within) c.loop-index.invariant.within;
    }

pub returns-clause-within : goal.returns-clause-within
returns-clause-within c =
    within_all c.args.project.now c.args.proc c.args.from c.loop-index.index (omega (arith, c.loop-index-test.false, c.length-index-end.ensures.length)) c.loop-index.invariant.within
