use Rattle.shared_bench.proofs.Benches.{edits_as}
use Rattle.shared_bench.proofs.carried.Carried.edit.Goals as goal

pub returns-clause-edits : goal.returns-clause-edits
returns-clause-edits c =
    let made = c.edit-made.ensures in
    rw (← c.self.view_is, ← c.deref_mut.ensures.value)
    (edits_as c.deref_mut.result.now c.edit-made.new.self c.args.author c.args.edit c.edit-made.result made.refused made.accepted made.admitted made.ok made.version made.err)
