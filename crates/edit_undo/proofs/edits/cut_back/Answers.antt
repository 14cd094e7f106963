use Rattle.std.proofs.Common.{arith}
use Rattle.std.specs.Prelude.{IfOk, Result, Ok, Err}
use Rattle.edit_undo.proofs.Listing.{some_cut}
use Rattle.edit_undo.proofs.edits.cut_back.Goals as goal

weaker : {T E : Type 0} (r : Result T E) {P Q : T → Type 0} → ((x : T) → P x → Q x) → IfOk r P → IfOk r Q
weaker (Ok x) f h = f x h
weaker (Err e) f h = tt

pub returns-else-length-clause-edits : goal.returns-else-length-clause-edits
returns-else-length-clause-edits c =
    weaker c.entries_back.result
    (λ v is. some_cut c.args.project.now c.args.proc c.args.length v.items (omega (arith, c.if-length.false, c.length.ensures.length)) is) c.entries_back.ensures.edits
